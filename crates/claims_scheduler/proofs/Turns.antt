-- A turn does nothing to the scheduler, or it is numbered: then it serves the next, leaves every other stay where it is, and keeps Kept. The next itself leaves where nothing of its
-- text is left: numbers differ, so that its own stands nowhere then.
use mathlib.Core.Path.{◌≡◌, refl, sym, ap, subst, ◌∙◌}
use mathlib.Core.List.Memᴰ
use mathlib.Core.List.{List, [], ◌∷◌, ◌++◌}
use mathlib.Core.Bool.{false, not, true≢false}
use mathlib.Core.Logic.{◌⊎◌, inl, inr, ⊎_elim}
use Prim.Native.Nat.{ℕ, suc, ◌≤◌, ◌<◌}
use native.Mathlib.Omega.{arith}
use borrow.Author.Tests.{leb-false, eqb-true, eqb-false, eq-eqb, not-false}
use lib.Dec.{eqb, leb, lit<}
use lib.ListN.{length, take, drop}
use lib.Seq.{split_at}
use Rattle.scope.specs.Limits.{most_turns}
use Rattle.scope.specs.Refusals.{refuse, count_too_high, too_long}
use Rattle.scope.proofs.Refusing.{refuse_none}
use Rattle.claims.specs.Lists.{Bytes}
use Rattle.scheduler.specs.Scheduler.{Stay, Scheduler, none, iv_of, present, Order, place, nobody, next, due}
use Rattle.scheduler.specs.Calls.{sealing, turn_number, rest, after_service, remaining, put, after_turn, Service, service, Outcome, Outcome.idle, Outcome.refused, Outcome.served, TurnEnd, turn_call}
use Rattle.scheduler.proofs.Order.{of_picked, is_there}
use Rattle.claims_scheduler.specs.Lists.{logged}
use Rattle.claims_scheduler.proofs.Sound.{Sound, sound_after, after_iv}
use Rattle.claims_scheduler.proofs.Lists.{Among, place_of, at_among, stays_or_is, was_or_new}
use Rattle.claims_scheduler.proofs.Numbers.{Apart, lacking}
use Rattle.claims_scheduler.proofs.Least.{lowest}
use Rattle.claims_scheduler.proofs.Kept.{Kept, Left, turned_kept}

-- ---- which of both

-- what a numbered one says
pub record Serves (o : Order) (s : Scheduler) (p out : List ℕ) : Type 0 where
  pub some : 0 < length s.stays
  pub more : s.turns < most_turns
  pub is_due : length p ≡ due (next o s)
  pub taken : (sealing (next o s) p out).number ≡ 0

pub data Turning (o : Order) (s : Scheduler) (p out : List ℕ) : TurnEnd → Type 0 where
  unchanged : (w : Outcome) → logged w ≡ [] → Turning o s p out (record { outcome = w; out = out; scheduler = s })
  numbered : Serves o s p out
      → Turning o s p out
      (record { outcome = served (service o s p out); out = (sealing (next o s) p out).out; scheduler = after_turn o s p out })

pub some_there : (l : List Stay) → none l ≡ false → 0 < length l
some_there [] e = absurd (true≢false e)
some_there (x ∷ l) e = omega arith

serves : (o : Order) (s : Scheduler) (p out : List ℕ) → none s.stays ≡ false → turn_number o s p out ≡ 0 → Serves o s p out
unfolding turn_number
serves o s p out some e =
    let l2 = (sealing (next o s) p out).number in
    let l1 = refuse (not (eqb (length p) (due (next o s)))) too_long l2 in
    let a1 = refuse_none (leb most_turns s.turns) count_too_high l1 (lit< tt) e in
    let a2 = refuse_none (not (eqb (length p) (due (next o s)))) too_long l2 (lit< tt) a1.1 in
    record { some = some_there s.stays some; more = leb-false _ _ a1.0; is_due = eqb-true _ _ (not-false _ a2.0); taken = a2.1 }

pub turning : (o : Order) (s : Scheduler) (p out : List ℕ) → Turning o s p out (turn_call o s p out)
unfolding turn_call
turning o s p out =
    of_picked (Turning o s p out) (none s.stays) (λ e. unchanged idle refl)
    (λ e. of_picked (Turning o s p out) (eqb (turn_number o s p out) 0) (λ q. numbered (serves o s p out e (eqb-true _ _ q)))
    (λ q. unchanged (refused (turn_number o s p out)) refl))

-- one that says a service is numbered, and it says the service that it does
pub record ServedAs (o : Order) (s : Scheduler) (p out : List ℕ) (v : Service) (u : TurnEnd) : Type 0 where
  pub how : Serves o s p out
  pub says : service o s p out ≡ v
  pub writes : u.out ≡ (sealing (next o s) p out).out
  pub leaves : u.scheduler ≡ after_turn o s p out

pub served_as : (o : Order) (s : Scheduler) (p out : List ℕ) (v : Service) → (turn_call o s p out).outcome ≡ served v
    → ServedAs o s p out v (turn_call o s p out)
served_as o s p out v = go (turn_call o s p out) (turning o s p out)
  where
    go : (u : TurnEnd) → Turning o s p out u → u.outcome ≡ served v → ServedAs o s p out v u
    go u (unchanged w none-logged) e =
        let some-logged : v ∷ [] ≡ [] = rw e at none-logged in absurd (omega (arith, ap length some-logged))
    go u (numbered w) e = record { how = w; says = cc; writes = refl; leaves = refl }

-- ---- a numbered turn

-- no other stay has the number of x
others_apart : (a : List Stay) (x : Stay) (b : List Stay) → Apart (a ++ (x ∷ b)) → (y : Stay) → Among y (a ++ b) → ¬ (iv_of y ≡ iv_of x)
unfolding Apart
others_apart [] x b k y m = k.0 y m
others_apart (z ∷ a) x b k y (Memᴰ.head e) = λ q. k.0 x (Memᴰ.append_right a (Memᴰ.head refl)) (sym q ∙ ap iv_of e)
others_apart (z ∷ a) x b k y (Memᴰ.tail m) = others_apart a x b k.1 y m

pub next_among : (o : Order) (s : Scheduler) → 0 < length s.stays → Among (next o s) s.stays
next_among o s some = at_among s.stays (place o s.stays) (is_there o s.stays some)

module _ (o : Order) (s : Scheduler) (p out : Bytes) (v : Serves o s p.list out.list) where
  abbrev x : Stay
  x = next o s

  abbrev then : Stay
  then = after_service (suc s.turns) x p.list out.list

  -- the stays before the next and behind it
  abbrev front : List Stay
  front = take (place o s.stays) s.stays

  abbrev back : List Stay
  back = drop (suc (place o s.stays)) s.stays

  parted : s.stays ≡ front ++ (x ∷ back)
  parted = split_at s.stays (place o s.stays) nobody (is_there o s.stays v.some)

  -- what is there of the next
  abbrev new : List Stay
  new = remaining (suc s.turns) x p.list out.list

  remaining_is : (y : Stay) → Among y new → (y ≡ then) × (0 < rest x)
  unfolding remaining
  remaining_is y =
      of_picked (λ (l : List Stay). Among y l → (y ≡ then) × (0 < rest x)) (eqb (rest x) 0) (λ e m. absurd (Memᴰ.not-nil m))
      (λ e m. (Memᴰ.eq_of_singleton m, let any = eqb-false (rest x) 0 e in omega arith))

  remaining_left : Sound x → (y : Stay) → Among y new → Left (suc s.turns) x y
  remaining_left d y m =
      let w = remaining_is y m in
      rw w.0
      (record {
        number = after_iv x d (suc s.turns) p out v.is_due v.taken;
        mark = refl;
        some = w.1;
        fits = omega arith;
        sound = sound_after x d (suc s.turns) p out v.is_due v.taken;
      })

  pub after_turn_kept : Kept s → Kept (after_turn o s p.list out.list)
  unfolding after_turn put remaining
  after_turn_kept k =
      turned_kept s.turns front x back new (subst (λ (l : List Stay). Kept (record { turns = s.turns; stays = l })) parted k) low v.more
      (of_picked (λ (l : List Stay). length l ≤ 1) (eqb (rest x) 0) (λ e. omega arith) (λ e. omega arith)) (remaining_left (k.sound x (next_among o s v.some)))
    where
      low : (y : Stay) → Among y (front ++ (x ∷ back)) → x.mark ≤ y.mark
      low y m =
          let w = place_of (rw (← parted) at m) in
          omega (arith, lowest o s.stays w.0 w.1, ap (λ (z : Stay). z.mark) w.2)

  pub turn_leaves : (y : Stay) → Among y s.stays → Among y (after_turn o s p.list out.list).stays ⊎ (y ≡ next o s)
  unfolding after_turn put
  turn_leaves y m = stays_or_is front x back new y (subst (λ (l : List Stay). Among y l) parted m)

  -- whoever is there after it was there, or is the one served
  pub turn_brings : (y : Stay) → Among y (after_turn o s p.list out.list).stays
      → Among y s.stays ⊎ (y ≡ after_service (suc s.turns) (next o s) p.list out.list)
  unfolding after_turn put
  turn_brings y m =
      ⊎_elim (λ n. inl (subst (λ (l : List Stay). Among y l) (sym parted) n)) (λ n. inr (remaining_is y n).0) (was_or_new front x back new y m)

  -- a stay with text left to seal is there still
  pub turn_keeps : 0 < rest (next o s)
      → Among (after_service (suc s.turns) (next o s) p.list out.list) (after_turn o s p.list out.list).stays
  unfolding after_turn put remaining
  turn_keeps h =
      Memᴰ.append_right front
      (Memᴰ.append_left back
      (of_picked (Among then) (eqb (rest x) 0) (λ e. absurd (omega (arith, eqb-true (rest x) 0 e))) (λ e. Memᴰ.head refl)))

  -- one with none leaves: its number stood for no other
  pub turn_ends : Kept s → rest (next o s) ≡ 0 → present (iv_of (next o s)) (after_turn o s p.list out.list).stays ≡ false
  unfolding after_turn put remaining
  turn_ends k z =
      rw (eq-eqb (rest x) 0 z) (lacking (iv_of x) (front ++ back) (others_apart front x back (subst Apart parted k.apart)))
