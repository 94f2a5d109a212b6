-- The numbers of n steps from a count, case by case, and what an accepted count says.
use mathlib.Core.Path.{◌≡◌, refl, ap, ap₂, ◌∙◌}
use mathlib.Core.Bool.{Bool, true, false, not, ◌&&◌, ◌||◌}
use Prim.Native.Nat.{ℕ, ◌+◌, ◌*◌, ◌≤◌, ◌<◌}
use lib.Dec.{ltb, lit<}
use native.Mathlib.Omega.{arith}
use borrow.Author.Tests.{lt-ltb, le-ltb, ltb-true, ltb-false}
use Rattle.scope.specs.Limits.{most_blocks}
use Rattle.scope.specs.Refusals.{refuse, granted, count_too_high, before_start, short_output}
use Rattle.scope.proofs.Refusing.{refuse_none}
use Rattle.words.proofs.Tests.{neither, both_ways}
use Rattle.cipher.specs.Run.{forward, backward}
use Rattle.cipher.specs.State.{too_far, past_start, steps_number, run_number}

module _ (n c : ℕ) where
  pub far_count : (d : Bool) → most_blocks < c → steps_number d n c ≡ count_too_high
  unfolding steps_number
  far_count d h = rw (lt-ltb most_blocks c h)

  pub far_run : (d : Bool) → c ≤ most_blocks → most_blocks < n → steps_number d n c ≡ count_too_high
  unfolding steps_number
  far_run d h k = rw (le-ltb most_blocks c h, lt-ltb most_blocks n k)

  module _ (h : c ≤ most_blocks) (k : n ≤ most_blocks) where
    pub far_on : most_blocks < c + n → steps_number forward n c ≡ count_too_high
    unfolding steps_number
    far_on l = rw (le-ltb most_blocks c h, le-ltb most_blocks n k, lt-ltb most_blocks (c + n) l)

    pub far_back : c < n → steps_number backward n c ≡ before_start
    unfolding steps_number
    far_back l = rw (le-ltb most_blocks c h, le-ltb most_blocks n k, lt-ltb c n l)

pub goes_on : (n c : ℕ) → c + n ≤ most_blocks → steps_number forward n c ≡ 0
unfolding steps_number
goes_on n c l = rw (le-ltb most_blocks c (omega (arith, l)), le-ltb most_blocks n (omega (arith, l)), le-ltb most_blocks (c + n) l)

pub goes_back : (n c : ℕ) → n ≤ c → c ≤ most_blocks → steps_number backward n c ≡ 0
unfolding steps_number
goes_back n c l h = rw (le-ltb most_blocks c h, le-ltb most_blocks n (omega (arith, l, h)), le-ltb c n l)

-- ---- what a number of 0 says

module _ (d : Bool) (n c : ℕ) (e : steps_number d n c ≡ 0) where
  pub not_far : too_far d n c ≡ false
  unfolding steps_number
  not_far = (refuse_none (too_far d n c) count_too_high (refuse (past_start d n c) before_start 0) (lit< tt) e).0

  counts : (ltb most_blocks c ≡ false) × (ltb most_blocks n ≡ false)
  counts = neither (ltb most_blocks c) (ltb most_blocks n) (neither (ltb most_blocks c || ltb most_blocks n) (not d && ltb most_blocks (c + n)) not_far).0

  pub count_fits : c ≤ most_blocks
  count_fits = ltb-false most_blocks c counts.0

  pub run_fits : n ≤ most_blocks
  run_fits = ltb-false most_blocks n counts.1

pub room_on : (n c : ℕ) → steps_number forward n c ≡ 0 → c + n ≤ most_blocks
room_on n c e =
    ltb-false most_blocks (c + n) (neither (ltb most_blocks c || ltb most_blocks n) (ltb most_blocks (c + n)) (not_far forward n c e)).1

pub room_back : (n c : ℕ) → steps_number backward n c ≡ 0 → n ≤ c
unfolding steps_number
room_back n c e =
    ltb-false c n (refuse_none (ltb c n) before_start 0 (lit< tt)
    (refuse_none (too_far backward n c) count_too_high (refuse (ltb c n) before_start 0) (lit< tt) e).1).0

-- forward there is one refusal
pub far_forward : (n c : ℕ) → ¬ (steps_number forward n c ≡ 0) → (too_far forward n c ≡ true) × (steps_number forward n c ≡ count_too_high)
unfolding steps_number
far_forward n c h = go (too_far forward n c) h
  where
    go : (f : Bool) → ¬ (refuse f count_too_high 0 ≡ 0) → (f ≡ true) × (refuse f count_too_high 0 ≡ count_too_high)
    go true k = (refl, refl)
    go false k = absurd (k refl)

-- and it is that the count would pass the limit
far_is : (n c : ℕ) → too_far forward n c ≡ ltb most_blocks (c + n)
far_is n c = both_ways (too_far forward n c) (ltb most_blocks (c + n)) past far
  where
    past : too_far forward n c ≡ true → ltb most_blocks (c + n) ≡ true
    past e = go (ltb most_blocks c) (ltb most_blocks n) (ltb-true most_blocks c) (ltb-true most_blocks n) e
      where
        go : (a b : Bool) → (a ≡ true → most_blocks < c) → (b ≡ true → most_blocks < n) → (a || b || ltb most_blocks (c + n)) ≡ true
            → ltb most_blocks (c + n) ≡ true
        go true b f g e = let h = f refl in lt-ltb most_blocks (c + n) (omega (arith, h))
        go false true f g e = let h = g refl in lt-ltb most_blocks (c + n) (omega (arith, h))
        go false false f g e = e

    far : ltb most_blocks (c + n) ≡ true → too_far forward n c ≡ true
    far h = ap (λ (t : Bool). ltb most_blocks c || ltb most_blocks n || t) h ∙ go (ltb most_blocks c || ltb most_blocks n)
      where
        go : (t : Bool) → (t || true) ≡ true
        go true = refl
        go false = refl

-- ---- a run tests the count, and then its output

pub run_forward : (c len n : ℕ) → run_number forward c len n ≡ refuse (ltb most_blocks (c + n)) count_too_high (refuse (ltb len (16 * n)) short_output 0)
unfolding run_number
run_forward c len n = ap (λ (f : Bool). refuse f count_too_high (refuse (ltb len (16 * n)) short_output 0)) (far_is n c)

pub run_counts : (d : Bool) (c len n : ℕ) → run_number d c len n ≡ 0 → steps_number d n c ≡ 0
unfolding run_number steps_number
run_counts d c len n e =
    let short = refuse (ltb len (16 * n)) short_output 0 in
    let a = refuse_none (too_far d n c) count_too_high (refuse (past_start d n c) before_start short) (lit< tt) e in
    let b = refuse_none (past_start d n c) before_start short (lit< tt) a.1 in
    ap₂ (λ (f p : Bool). refuse f count_too_high (refuse p before_start 0)) a.0 b.0

pub run_after : (d : Bool) (c len n : ℕ) → run_number d c len n ≡ granted (steps_number d n c) (refuse (ltb len (16 * n)) short_output 0) (steps_number d n c)
unfolding run_number steps_number
run_after d c len n = go (too_far d n c) (past_start d n c)
  where
    go : (f p : Bool)
        → refuse f count_too_high (refuse p before_start (refuse (ltb len (16 * n)) short_output 0))
        ≡ granted (refuse f count_too_high (refuse p before_start 0)) (refuse (ltb len (16 * n)) short_output 0) (refuse f count_too_high (refuse p before_start 0))
    go true p = refl
    go false true = refl
    go false false = refl
