-- Single steps of a state, one after the other: when none is refused, where they lead, and that as many the other way return.
use mathlib.Core.Path.{◌≡◌, refl, sym, ap, subst, ◌∙◌}
use mathlib.Core.Bool.{Bool, true, false, not}
use Prim.Native.Nat.{ℕ, zero, suc, ◌+◌, ◌-◌, ◌≤◌, ◌<◌, zero-le}
use native.Mathlib.Omega.{arith}
use Rattle.scope.specs.Limits.{most_blocks}
use Rattle.scope.specs.Refusals.{granted}
use Rattle.cipher.specs.Registers.{IsRegisters}
use Rattle.cipher.specs.Run.{forward, backward, move, made, moves}
use Rattle.cipher.specs.State.{State, Drawn.block, counted, moved, steps_number, step_number, step_state, step_answer, run_number, run_state}
use Rattle.cipher.specs.Laws.{steps, NoneRefused, StepsCounted}
use Rattle.cipher.proofs.Moves.{moves_undone}
use Rattle.cipher.proofs.Counting.{far_count, goes_on, goes_back, count_fits, room_on, room_back, run_after, run_counts}
use Rattle.cipher.proofs.Stepping.{state_moves, answer_block, moved_none, moved_more}

-- ---- the counts

-- n steps and one behind them are n + 1
number_more : (d : Bool) (n c : ℕ) → steps_number d n c ≡ 0 → steps_number d 1 (counted d n c) ≡ 0 → steps_number d (suc n) c ≡ 0
number_more true n c e f =
    let h = room_back n c e in
    let k = count_fits backward n c e in
    let l = room_back 1 (c - n) f in
    goes_back (suc n) c (omega (arith, h, l)) k
number_more false n c e f = let l = room_on 1 (c + n) f in goes_on (suc n) c (omega (arith, l))

-- before each of n steps none is refused, and neither is it
number_at : (d : Bool) (i n c : ℕ) → i < n → steps_number d n c ≡ 0 → (steps_number d i c ≡ 0) × (steps_number d 1 (counted d i c) ≡ 0)
number_at true i n c l e =
    let h = room_back n c e in
    let k = count_fits backward n c e in
    (goes_back i c (omega (arith, h, l)) k, goes_back 1 (c - i) (omega (arith, h, l)) (omega (arith, k)))
number_at false i n c l e =
    let h = room_on n c e in
    (goes_on i c (omega (arith, h, l)), goes_on 1 (c + i) (omega (arith, h, l)))

number_none : (d : Bool) (c : ℕ) → c ≤ most_blocks → steps_number d 0 c ≡ 0
number_none true c h = goes_back 0 c zero-le h
number_none false c h = goes_on 0 c (omega (arith, h))

-- the way back from where n steps lead
number_again : (d : Bool) (n c : ℕ) → steps_number d n c ≡ 0 → steps_number (not d) n (counted d n c) ≡ 0
number_again true n c e =
    let h = room_back n c e in
    let k = count_fits backward n c e in
    goes_on n (c - n) (omega (arith, h, k))
number_again false n c e = let h = room_on n c e in goes_back n (c + n) (omega arith) h

count_undone : (d : Bool) (n c : ℕ) → steps_number d n c ≡ 0 → counted (not d) n (counted d n c) ≡ c
count_undone true n c e = let h = room_back n c e in omega (arith, h)
count_undone false n c e = omega arith

-- ---- the steps

pub as_run : (d : Bool) (n : ℕ) (s : State) → NoneRefused d n s → steps d n s ≡ moved d n s
unfolding steps NoneRefused moves
as_run d zero s r = sym (moved_none d s)
as_run d (suc n) s r =
    state_moves d (steps d n s) r.1
    ∙ ap (moved d 1) (as_run d n s r.0)
    ∙ moved_more d n s

counts_of : (d : Bool) (n : ℕ) (s : State) → s.count ≤ most_blocks → NoneRefused d n s → steps_number d n s.count ≡ 0
unfolding NoneRefused
counts_of d zero s h r = number_none d s.count h
counts_of d (suc n) s h r =
    number_more d n s.count (counts_of d n s h r.0) (subst (λ (t : State). step_number d t ≡ 0) (as_run d n s r.0) r.1)

pub none_of : (d : Bool) (n : ℕ) (s : State) → steps_number d n s.count ≡ 0 → NoneRefused d n s
unfolding NoneRefused
none_of d zero s e = tt
none_of d (suc n) s e =
    let l = number_at d n (suc n) s.count (omega arith) e in
    let r = none_of d n s l.0 in
    (r, subst (λ (t : State). step_number d t ≡ 0) (sym (as_run d n s r)) l.1)

-- the first of them tells that the count is in range
first : (d : Bool) (n : ℕ) (s : State) → NoneRefused d (suc n) s → s.count ≤ most_blocks
unfolding NoneRefused steps
first d zero s r = count_fits d 1 s.count r.1
first d (suc n) s r = first d n s r.0

returns : (d : Bool) (n : ℕ) (s : State) → IsRegisters s.registers → NoneRefused d n s
    → (steps (not d) n (steps d n s) ≡ s) × NoneRefused (not d) n (steps d n s)
unfolding NoneRefused steps
returns d zero s g r = (refl, tt)
returns d (suc n) s g r =
    let e = counts_of d (suc n) s (first d n s r) r in
    let p = as_run d (suc n) s r in
    let q = none_of (not d) (suc n) (moved d (suc n) s) (number_again d (suc n) s.count e) in (
      ap (steps (not d) (suc n)) p
          ∙ as_run (not d) (suc n) (moved d (suc n) s) q
          ∙ (λ i. record { registers = moves_undone d (suc n) s.registers g i; count = count_undone d (suc n) s.count e i }),
      subst (NoneRefused (not d) (suc n)) (sym p) q,
    )

its_blocks : (d : Bool) (n : ℕ) (s : State) → NoneRefused d n s → (i : ℕ) → i < n → step_answer d (steps d i s) ≡ block (made d (moves d i s.registers))
its_blocks d zero s r i h = absurd (omega arith)
its_blocks d (suc n) s r i h =
    let l = number_at d i (suc n) s.count h (counts_of d (suc n) s (first d n s r) r) in
    let p = as_run d i s (none_of d i s l.0) in
    ap (step_answer d) p ∙ answer_block d (moved d i s) l.1

run_steps : (d : Bool) (len n : ℕ) (s : State) → run_number d s.count len n ≡ 0 → NoneRefused d n s × (run_state d s len n ≡ steps d n s)
unfolding run_state
run_steps d len n s e =
    let r = none_of d n s (run_counts d s.count len n e) in
    (r, ap (λ (k : ℕ). granted k (moved d n s) s) e ∙ sym (as_run d n s r))

pub steps_counted : StepsCounted
steps_counted =
    record {
      returns = returns;
      none_refused = λ d n s h. (counts_of d n s h, none_of d n s);
      forward_fits = λ n c. (room_on n c, goes_on n c);
      back_fits = λ n c. (λ e. (room_back n c e, count_fits backward n c e), λ p. goes_back n c p.0 p.1);
      over = λ d n c. far_count n c d;
      run_refused = run_after;
      run_steps = run_steps;
      its_blocks = its_blocks;
    }

-- a step back, and the step that it undoes
module _ (s : State) (g : IsRegisters s.registers) (e : step_number backward s ≡ 0) where
  after : step_number forward (moved backward 1 s) ≡ 0
  after = number_again backward 1 s.count e

  pub leads_state : step_state forward (moved backward 1 s) ≡ s
  leads_state =
      state_moves forward (moved backward 1 s) after
      ∙ (λ i. record { registers = moves_undone backward 1 s.registers g i; count = count_undone backward 1 s.count e i })

  pub leads_block : step_answer forward (moved backward 1 s) ≡ block (made backward s.registers)
  unfolding made move moves
  leads_block = answer_block forward (moved backward 1 s) after
