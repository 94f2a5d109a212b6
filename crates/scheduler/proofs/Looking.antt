-- Who is next in lent bytes, and how the tests decide the answers, in the order of the definitions.
use mathlib.Core.Path.{◌≡◌, refl, sym, ap, ◌∙◌}
use mathlib.Core.List.{List, [], ◌∷◌}
use mathlib.Core.Bool.{true, false, not, true≢false}
use Rattle.std.specs.Prelude.{Some, Result, Err}
use Prim.Native.Nat.{ℕ, ◌≤◌, ◌<◌}
use native.Mathlib.Omega.{arith}
use borrow.Author.Tests.{eq-eqb, ne_eqb, lt-ltb, le-ltb, le-leb, lt-leb, eqb-true, leb-false}
use lib.Dec.{eqb, leb, lit<}
use lib.ListN.{length, drop}
use Rattle.scope.specs.Limits.{most_turns, most_text}
use Rattle.scope.specs.declared.Refusal.{Refusal}
use Rattle.scope.specs.Machine.{refusal_number, answer_number}
use Rattle.scope.specs.Refusals.{pick, refuse}
use Rattle.scope.proofs.Refused as Refused
use Rattle.scope.proofs.Refusing.{refuse_none}
use Rattle.words.specs.Bytes.{number, part}
use Rattle.scheduler.specs.Scheduler.{Stay, none, present, scheduler_order, place, at, next, due}
use Rattle.scheduler.specs.Calls.{join_number}
use Rattle.scheduler.specs.Bytes.{stays_in, how_many, scheduler_in, join_answer, JoinLeaves}
use Rattle.scheduler.specs.Inner.{stay_at, looked_number, Stands}
use Rattle.scheduler.proofs.Places.{stays_long, stays_at}
use Rattle.scheduler.proofs.Order.{is_there, on_test}
use Rattle.scheduler.proofs.Reading.{place_there}

-- ---- who is there

empty_none : (l : List Stay) → length l ≡ 0 → none l ≡ true
empty_none [] e = refl
empty_none (x ∷ l) e = absurd (omega arith)

some_there : (l : List Stay) → ¬ (length l ≡ 0) → none l ≡ false
some_there [] e = absurd (e refl)
some_there (x ∷ l) e = refl

some_long : (l : List Stay) → none l ≡ false → 0 < length l
some_long [] e = absurd (true≢false e)
some_long (x ∷ l) e = omega arith

module _ (b : List ℕ) where
  there_long : length (scheduler_in b).stays ≡ how_many b
  unfolding scheduler_in
  there_long = stays_long (how_many b) (drop 16 b)

  pub nobody_there : how_many b ≡ 0 → none (scheduler_in b).stays ≡ true
  nobody_there e = empty_none (scheduler_in b).stays (there_long ∙ e)

  pub somebody_there : ¬ (how_many b ≡ 0) → none (scheduler_in b).stays ≡ false
  somebody_there e = some_there (scheduler_in b).stays (λ z. e (sym there_long ∙ z))

  -- the place found is the next one's
  module _ {i k : ℕ} (ke : k ≡ how_many b) (some : ¬ (k ≡ 0)) (ie : i ≡ place scheduler_order (stays_in k (drop 16 b))) where
    pub next_at : i ≡ place scheduler_order (scheduler_in b).stays
    unfolding scheduler_in
    next_at = ie ∙ ap (λ (m : ℕ). place scheduler_order (stays_in m (drop 16 b))) ke

    pub next_inside : i < how_many b
    next_inside = omega (arith, next_at, is_there scheduler_order (scheduler_in b).stays (omega (arith, there_long)), there_long)

    pub next_is : next scheduler_order (scheduler_in b) ≡ stay_at b i
    unfolding scheduler_in
    next_is = ap (at (stays_in (how_many b) (drop 16 b))) (sym next_at) ∙ stays_at (how_many b) i (drop 16 b) next_inside ∙ place_there b i

-- ---- a turn, before its session is asked

module _ (b : List ℕ) (n : ℕ) where
  pub looked_torn : ¬ (length b ≡ 8208) → 8 ≡ looked_number b n
  unfolding looked_number
  looked_torn h = rw (ne_eqb (length b) 8208 h)

  module _ (long : length b ≡ 8208) where
    looked_whole : looked_number b n
        ≡ pick (none (scheduler_in b).stays) 0
        (refuse (leb most_turns (scheduler_in b).turns) 9 (refuse (not (eqb n (due (next scheduler_order (scheduler_in b))))) 3 0))
    unfolding looked_number
    looked_whole = rw (eq-eqb (length b) 8208 long)

    pub looked_idle : none (scheduler_in b).stays ≡ true → 0 ≡ looked_number b n
    looked_idle e = sym (looked_whole ∙ rw e)

    module _ (some : none (scheduler_in b).stays ≡ false) where
      pub looked_late : most_turns ≤ (scheduler_in b).turns → 9 ≡ looked_number b n
      looked_late h = sym (looked_whole ∙ rw (some, le-leb most_turns (scheduler_in b).turns h))

      module _ (more : (scheduler_in b).turns < most_turns) where
        pub looked_other : ¬ (n ≡ due (next scheduler_order (scheduler_in b))) → 3 ≡ looked_number b n
        looked_other h = sym (looked_whole ∙ rw (some, lt-leb most_turns (scheduler_in b).turns more, ne_eqb n (due (next scheduler_order (scheduler_in b))) h))

        pub looked_due : n ≡ due (next scheduler_order (scheduler_in b)) → 0 ≡ looked_number b n
        looked_due h = sym (looked_whole ∙ rw (some, lt-leb most_turns (scheduler_in b).turns more, eq-eqb n (due (next scheduler_order (scheduler_in b))) h))

  -- what an accepted one says
  pub looked_long : looked_number b n ≡ 0 → length b ≡ 8208
  looked_long e =
      on_test (eqb (length b) 8208) (λ t. eqb-true (length b) 8208 t)
      (λ f. let h : ¬ (length b ≡ 8208) = λ z. true≢false (sym (eq-eqb (length b) 8208 z) ∙ f) in absurd (omega (arith, looked_torn h)))

  pub looked_more : looked_number b n ≡ 0 → none (scheduler_in b).stays ≡ false → (leb most_turns (scheduler_in b).turns ≡ false) × (not (eqb n (due (next scheduler_order (scheduler_in b)))) ≡ false)
  looked_more e some =
      let z : refuse (leb most_turns (scheduler_in b).turns) 9 (refuse (not (eqb n (due (next scheduler_order (scheduler_in b))))) 3 0) ≡ 0 =
      sym (looked_whole (looked_long e) ∙ rw some) ∙ e in
      let p = refuse_none (leb most_turns (scheduler_in b).turns) 9 (refuse (not (eqb n (due (next scheduler_order (scheduler_in b))))) 3 0) (lit< tt) z in
      (p.0, (refuse_none (not (eqb n (due (next scheduler_order (scheduler_in b))))) 3 0 (lit< tt) p.1).0)

-- ---- joining

module _ (b key iv : List ℕ) (n : ℕ) where
  abbrev pub Joins : Result Unit Refusal → (after : List ℕ) → Type 0
  Joins r after = record { answer : answer_number r ≡ join_answer b key iv n; scheduler : JoinLeaves b key iv n after }

  -- a refusal leaves all
  pub joins_refused : (e : Refusal) → refusal_number e ≡ join_answer b key iv n → Joins (Err e) b
  joins_refused e k =
      let f : eqb (join_answer b key iv n) 0 ≡ false = ne_eqb (join_answer b key iv n) 0 (λ z. Refused.refused e (k ∙ z)) in
      record { answer = k; scheduler = record { bytes = rw f; lists = rw f } }

  pub join_torn : ¬ (length b ≡ 8208) → 8 ≡ join_answer b key iv n
  unfolding join_answer
  join_torn h = rw (ne_eqb (length b) 8208 h)

  module _ (long : length b ≡ 8208) where
    pub join_whole : join_answer b key iv n ≡ join_number (scheduler_in b) key iv n
    unfolding join_answer
    join_whole = rw (eq-eqb (length b) 8208 long)

    pub join_key : ¬ (length key ≡ 32) → 1 ≡ join_answer b key iv n
    unfolding join_number
    join_key h = sym (join_whole ∙ rw (ne_eqb (length key) 32 h))

    module _ (key_long : length key ≡ 32) where
      pub join_iv : ¬ (length iv ≡ 16) → 2 ≡ join_answer b key iv n
      unfolding join_number
      join_iv h = sym (join_whole ∙ rw (eq-eqb (length key) 32 key_long, ne_eqb (length iv) 16 h))

      module _ (iv_long : length iv ≡ 16) where
        pub join_no_text : n ≡ 0 → 3 ≡ join_answer b key iv n
        unfolding join_number
        join_no_text h = sym (join_whole ∙ rw (eq-eqb (length key) 32 key_long, eq-eqb (length iv) 16 iv_long, eq-eqb n 0 h))

        module _ (some : ¬ (n ≡ 0)) where
          pub join_over : most_text < n → 3 ≡ join_answer b key iv n
          unfolding join_number
          join_over h = sym (join_whole ∙ rw (eq-eqb (length key) 32 key_long, eq-eqb (length iv) 16 iv_long, ne_eqb n 0 some, lt-ltb most_text n h))

          module _ (fits : n ≤ most_text) where
            pub join_full : 32 ≤ how_many b → 19 ≡ join_answer b key iv n
            unfolding join_number
            join_full h =
                let l = there_long b in
                sym
                (join_whole
                ∙ rw (eq-eqb (length key) 32 key_long, eq-eqb (length iv) 16 iv_long, ne_eqb n 0 some, le-ltb most_text n fits, le-leb 32 (length (scheduler_in b).stays) (omega arith)))

            module _ (room : how_many b < 32) where
              present_last : join_answer b key iv n ≡ refuse (present iv (scheduler_in b).stays) 16 0
              unfolding join_number
              present_last =
                  let l = there_long b in
                  join_whole
                  ∙ rw (eq-eqb (length key) 32 key_long, eq-eqb (length iv) 16 iv_long, ne_eqb n 0 some, le-ltb most_text n fits, lt-leb 32 (length (scheduler_in b).stays) (omega arith))

              pub join_present : present iv (scheduler_in b).stays ≡ true → 16 ≡ join_answer b key iv n
              join_present h = sym (present_last ∙ rw h)

              pub join_right : present iv (scheduler_in b).stays ≡ false → 0 ≡ join_answer b key iv n
              join_right h = sym (present_last ∙ rw h)

-- ---- what an accepted one has found

module _ (b : List ℕ) (i : ℕ) (f : Stands b (Some i)) where
  pub found_inside : i < how_many b
  found_inside =
      let some : 0 < length (scheduler_in b).stays = some_long (scheduler_in b).stays f.0 in
      omega (arith, f.1, is_there scheduler_order (scheduler_in b).stays some, there_long b)

  pub found_next : next scheduler_order (scheduler_in b) ≡ stay_at b i
  unfolding scheduler_in
  found_next = ap (at (stays_in (how_many b) (drop 16 b))) (sym f.1) ∙ stays_at (how_many b) i (drop 16 b) found_inside ∙ place_there b i

  pub found_more : (n : ℕ) → looked_number b n ≡ 0 → number (part 0 8 b) < most_turns
  unfolding scheduler_in
  found_more n e = leb-false most_turns (scheduler_in b).turns (looked_more b n e f.0).0

pub few_there : (b : List ℕ) → how_many b ≤ 32
unfolding how_many
few_there b = omega arith
