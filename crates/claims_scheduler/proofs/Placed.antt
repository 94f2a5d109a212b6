-- The places are in joining order, each with its stay's joining: a joiner stands last, and of the stay that a turn serves there is one in its place, or none. By induction over the list
-- of calls, taken from behind.
use Prim.Native.Nat.{ℕ, zero, suc, ◌<◌, ◌≤◌}
use mathlib.Core.List.Memᴰ
use mathlib.Core.List.{List, [], ◌∷◌, ◌++◌, append-nil, append_assoc}
use mathlib.Core.Path.{◌≡◌, refl, sym, ap, subst, ◌∙◌}
use native.Mathlib.Omega.{arith}
use borrow.Author.Tests.{eqb-true, eqb-false}
use lib.Dec.{eqb}
use lib.ListN.{length, take, drop, length-append}
use lib.Seq.{split_at}
use Rattle.claims.specs.Lists.{Bytes}
use Rattle.scheduler.specs.Scheduler.{Stay, Scheduler, iv_of, Order, place, nobody, at, next}
use Rattle.scheduler.specs.Calls.{join_number, newcomer, join_call, rest, after_service, after_turn, remaining, put, service, TurnEnd, turn_call}
use Rattle.scheduler.proofs.Order.{of_picked, is_there}
use Rattle.claims_scheduler.specs.Lists.{Call, Call.join, Call.turn, logged, call, calls, after}
use Rattle.claims_scheduler.specs.ByItself.{own, text_of, has_left, last_turn}
use Rattle.claims_scheduler.proofs.Sealing.{holds_new, holds_iv}
use Rattle.claims_scheduler.proofs.Lists.{Among}
use Rattle.claims_scheduler.proofs.Numbers.{Apart}
use Rattle.claims_scheduler.proofs.Turns.{Serves, Turning, Turning.unchanged, Turning.numbered, turning}
use Rattle.claims_scheduler.proofs.Calls.{after_good, calls_append, since}
use Rattle.claims_scheduler.proofs.Services.{own_not}
use Rattle.claims_scheduler.proofs.OneMore.{services_since}
use Rattle.claims_scheduler.proofs.Came.{Came, Onto, not_served, was_served}

-- ---- the places, from the first on: each with its joining, no earlier than call n, and behind that of the place before

unfoldable pub Placed : (o : Order) (cs : List Call) → ℕ → List Stay → Type 0
Placed o cs n [] = Unit
Placed o cs n (x ∷ l) = (j : Came o cs x) × (n ≤ length j.before) × Placed o cs (suc (length j.before)) l

module _ (o : Order) (cs : List Call) where
  lower : (m n : ℕ) → m ≤ n → (l : List Stay) → Placed o cs n l → Placed o cs m l
  unfolding Placed
  lower m n h [] p = tt
  lower m n h (x ∷ l) p = (p.0, omega (arith, p.1), p.2)

  -- one place less
  less : (i n : ℕ) → suc i < suc n → i < n
  less i n h = omega arith

  pub placed_at : (n : ℕ) (l : List Stay) → Placed o cs n l → (i : ℕ) → i < length l → Came o cs (at l i)
  unfolding Placed
  placed_at n [] p i h = absurd (omega arith)
  placed_at n (x ∷ l) p zero h = p.0
  placed_at n (x ∷ l) p (suc i) h = placed_at (suc (length p.0.before)) l p.2 i (less i (length l) h)

  not_before : (n : ℕ) (l : List Stay) (p : Placed o cs n l) (i : ℕ) (h : i < length l) → n ≤ length (placed_at n l p i h).before
  unfolding Placed placed_at
  not_before n [] p i h = absurd (omega arith)
  not_before n (x ∷ l) p zero h = p.1
  not_before n (x ∷ l) p (suc i) h = omega (arith, p.1, not_before (suc (length p.0.before)) l p.2 i (less i (length l) h))

  pub one_by_one : (n : ℕ) (l : List Stay) (p : Placed o cs n l) (i j : ℕ) → i < j → (h : i < length l) (k : j < length l)
      → length (placed_at n l p i h).before < length (placed_at n l p j k).before
  unfolding Placed placed_at
  one_by_one n [] p i j b h k = absurd (omega arith)
  one_by_one n (x ∷ l) p i zero b h k = absurd (omega arith)
  one_by_one n (x ∷ l) p zero (suc j) b h k = not_before (suc (length p.0.before)) l p.2 j (less j (length l) k)
  one_by_one n (x ∷ l) p (suc i) (suc j) b h k = one_by_one (suc (length p.0.before)) l p.2 i j (omega arith) (less i (length l) h) (less j (length l) k)

-- ---- the places after one call more

module _ (o : Order) (cs ds : List Call) where
  -- each goes on
  placed_all : (n : ℕ) (l : List Stay) → ((x : Stay) → Among x l → (j : Came o cs x) → Onto o cs ds x x j) → Placed o cs n l → Placed o ds n l
  unfolding Placed
  placed_all n [] f p = tt
  placed_all n (x ∷ l) f p =
      let k = f x (Memᴰ.head refl) p.0 in
      (k.0, omega (arith, p.1, k.1), placed_all (suc (length k.0.before)) l (λ y m. f y (Memᴰ.tail m)) (lower o cs _ _ (omega (arith, k.1)) l p.2))

  -- with one more behind them, by the call behind cs
  placed_last : (n : ℕ) (l : List Stay) → ((x : Stay) → (j : Came o cs x) → Onto o cs ds x x j) → (y : Stay) (c : Came o ds y) → length c.before ≡ length cs
      → n ≤ length cs → Placed o cs n l → Placed o ds n (l ++ (y ∷ []))
  unfolding Placed
  placed_last n [] f y c e h p = (c, omega arith, tt)
  placed_last n (x ∷ l) f y c e h p =
      let j = p.0 in
      let k = f x j in
      let within : suc (length k.0.before) ≤ length cs =
      omega (arith, k.1, ap length j.is, length-append j.before (join j.key j.iv j.text ∷ j.behind)) in
      (k.0, omega (arith, p.1, k.1), placed_last (suc (length k.0.before)) l f y c e within (lower o cs _ _ (omega (arith, k.1)) l p.2))

  -- and with what is left of one in its place
  placed_put : (n : ℕ) (a : List Stay) (x : Stay) (b new : List Stay) → length new ≤ 1
      → ((y : Stay) → ¬ (iv_of y ≡ iv_of x) → (j : Came o cs y) → Onto o cs ds y y j)
      → ((y : Stay) → Among y new → (j : Came o cs x) → Onto o cs ds x y j)
      → Apart (a ++ (x ∷ b)) → Placed o cs n (a ++ (x ∷ b)) → Placed o ds n (a ++ (new ++ b))
  unfolding Placed Apart
  placed_put n [] x b [] h f g d p = placed_all n b (λ y m. f y (d.0 y m)) (lower o cs n _ (omega (arith, p.1)) b p.2)
  placed_put n [] x b (y ∷ []) h f g d p =
      let k = g y (Memᴰ.head refl) p.0 in (
        k.0,
        omega (arith, p.1, k.1),
        placed_all (suc (length k.0.before)) b (λ y m. f y (d.0 y m)) (lower o cs _ _ (omega (arith, k.1)) b p.2),
      )
  placed_put n [] x b (y ∷ z ∷ new) h f g d p = absurd (omega arith)
  placed_put n (z ∷ a) x b new h f g d p =
      let k = f z (λ e. d.0 x (Memᴰ.append_right a (Memᴰ.head refl)) (sym e)) p.0 in (
        k.0,
        omega (arith, p.1, k.1),
        placed_put (suc (length k.0.before)) a x b new h f g d.1 (lower o cs _ _ (omega (arith, k.1)) (a ++ (x ∷ b)) p.2),
      )

module _ (o : Order) (cs : List Call) (good : Placed o cs 0 (after o cs).scheduler.stays) where
  abbrev s : Scheduler
  s = (after o cs).scheduler

  -- a joiner, if it is accepted
  module _ (key iv : Bytes) (n : ℕ) where
    abbrev the_join : Call
    the_join = join key iv n

    came : join_number s key.list iv.list n ≡ 0 → (k : Came o (cs ++ (the_join ∷ [])) (newcomer s key.list iv.list n)) × (length k.before ≡ length cs)
    unfolding since own has_left last_turn text_of
    came e =
        let none = services_since o cs the_join [] [] iv.list in (
          record {
            key = key;
            iv = iv;
            text = n;
            before = cs;
            behind = [];
            is = refl;
            accepted = e;
            not_left = rw none;
            mark = rw none;
            left = rw none (omega arith);
            holds = rw none (holds_new s key iv n e);
          },
          refl,
        )

    goes_on : (x : Stay) → (j : Came o cs x) → Onto o cs (cs ++ (the_join ∷ [])) x x j
    unfolding since own
    goes_on x j = not_served o cs the_join x j refl

    joined : Placed o (cs ++ (the_join ∷ [])) 0 (join_call s key.list iv.list n).stays
    unfolding join_call
    joined =
        of_picked (λ (u : Scheduler). Placed o (cs ++ (the_join ∷ [])) 0 u.stays) (eqb (join_number s key.list iv.list n) 0)
        (λ e.
        let c = came (eqb-true (join_number s key.list iv.list n) 0 e) in
        placed_last o cs (cs ++ (the_join ∷ [])) 0 s.stays goes_on (newcomer s key.list iv.list n) c.0 c.1 (omega arith) good)
        (λ e. placed_all o cs (cs ++ (the_join ∷ [])) 0 s.stays (λ x m. goes_on x) good)

  -- a turn
  module _ (p out : Bytes) where
    abbrev the_turn : Call
    the_turn = turn p out

    logs : (u : TurnEnd) → turn_call o s p.list out.list ≡ u → since o s (the_turn ∷ []) ≡ logged u.outcome
    unfolding since
    logs u e = ap (λ (g : TurnEnd). logged g.outcome ++ since o g.scheduler []) e ∙ append-nil (logged u.outcome)

    module _ (v : Serves o s p.list out.list) (is-logged : since o s (the_turn ∷ []) ≡ service o s p.list out.list ∷ []) where
      abbrev x : Stay
      x = next o s

      abbrev then : Stay
      then = after_service (suc s.turns) x p.list out.list

      other : (y : Stay) → ¬ (iv_of y ≡ iv_of x) → (j : Came o cs y) → Onto o cs (cs ++ (the_turn ∷ [])) y y j
      unfolding own
      other y differ j =
          not_served o cs the_turn y j
          (ap (own j.iv.list) is-logged
          ∙ own_not j.key j.iv (service o s p.list out.list) [] (λ q. differ (holds_iv j.key j.iv _ y j.holds ∙ sym q)))

      served : (y : Stay) → Among y (remaining (suc s.turns) x p.list out.list) → (j : Came o cs x) → Onto o cs (cs ++ (the_turn ∷ [])) x y j
      unfolding remaining
      served y =
          of_picked (λ (l : List Stay). Among y l → (j : Came o cs x) → Onto o cs (cs ++ (the_turn ∷ [])) x y j) (eqb (rest x) 0)
          (λ e m. absurd (Memᴰ.not-nil m))
          (λ e m j.
          let any = eqb-false (rest x) 0 e in
          let is : y ≡ then = Memᴰ.eq_of_singleton m in
          rw is (was_served o cs p out v is-logged j (omega arith)))

      turned : Placed o (cs ++ (the_turn ∷ [])) 0 (after_turn o s p.list out.list).stays
      unfolding after_turn put remaining
      turned =
          let i = place o s.stays in
          let parted : s.stays ≡ take i s.stays ++ (x ∷ drop (suc i) s.stays) = split_at s.stays i nobody (is_there o s.stays v.some) in
          placed_put o cs (cs ++ (the_turn ∷ [])) 0 (take i s.stays) x (drop (suc i) s.stays) (remaining (suc s.turns) x p.list out.list)
          (of_picked (λ (l : List Stay). length l ≤ 1) (eqb (rest x) 0) (λ e. omega arith) (λ e. omega arith))
          other served
          (subst Apart parted (after_good o cs).kept.apart)
          (subst (Placed o cs 0) parted good)

    any_turn : (u : TurnEnd) → Turning o s p.list out.list u → turn_call o s p.list out.list ≡ u
        → Placed o (cs ++ (the_turn ∷ [])) 0 u.scheduler.stays
    unfolding own
    any_turn u (unchanged w e) q =
        placed_all o cs (cs ++ (the_turn ∷ [])) 0 s.stays (λ x m j. not_served o cs the_turn x j (ap (own j.iv.list) (logs u q ∙ e))) good
    any_turn u (numbered v) q = turned v (logs u q)

one_further : (o : Order) (cs : List Call) → Placed o cs 0 (after o cs).scheduler.stays → (d : Call)
    → Placed o (cs ++ (d ∷ [])) 0 (call o (after o cs) d).scheduler.stays
unfolding call
one_further o cs good (join key iv n) = joined o cs good key iv n
one_further o cs good (turn p out) =
    any_turn o cs good p out (turn_call o (after o cs).scheduler p.list out.list) (turning o (after o cs).scheduler p.list out.list) refl

all_further : (o : Order) (cs ds : List Call) → Placed o cs 0 (after o cs).scheduler.stays → Placed o (cs ++ ds) 0 (after o (cs ++ ds)).scheduler.stays
unfolding calls
all_further o cs [] good = rw (append-nil cs) good
all_further o cs (d ∷ ds) good =
    rw (sym (append_assoc cs (d ∷ []) ds))
    (all_further o (cs ++ (d ∷ [])) ds (rw (calls_append o _ cs (d ∷ [])) (one_further o cs good d)))

pub all_placed : (o : Order) (cs : List Call) → Placed o cs 0 (after o cs).scheduler.stays
unfolding Placed calls
all_placed o cs = all_further o [] cs tt
