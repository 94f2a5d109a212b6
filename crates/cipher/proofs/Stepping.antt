-- What a step that is refused leaves, and one that is not; and n steps with one more behind them.
use Rattle.std.specs.Prelude.{Ok, Err}
use mathlib.Core.Path.{◌≡◌, sym, ap, ◌∙◌}
use mathlib.Core.Bool.{Bool, true, false}
use Prim.Native.Nat.{ℕ, suc, ◌+◌}
use native.Mathlib.Numerals.{add-one}
use native.Mathlib.Omega.{arith}
use borrow.Author.Tests.{eq-eqb, ne_eqb}
use Rattle.scope.specs.declared.Refusal.{Refusal}
use Rattle.scope.specs.Machine.{refusal_number}
use Rattle.scope.proofs.Refused.{refused as nonzero}
use Rattle.words.specs.Machine.{bytes_of}
use Rattle.cipher.specs.declared.State as machine
use Rattle.cipher.specs.declared.Stepped.{Stepped}
use Rattle.cipher.specs.Machine.{registers_of, state_of, Steps}
use Rattle.cipher.specs.Run.{move, made, moves}
use Rattle.cipher.proofs.Moves.{moves_add}
use Rattle.cipher.specs.State.{State, Drawn.block, Drawn.refused, counted, moved, step_number, step_state, step_answer}

module _ (d : Bool) (s : State) where
  module _ (h : ¬ (step_number d s ≡ 0)) where
    pub state_stays : step_state d s ≡ s
    unfolding step_state
    state_stays = rw (ne_eqb (step_number d s) 0 h)

    pub answer_refused : step_answer d s ≡ refused (step_number d s)
    unfolding step_answer
    answer_refused = rw (ne_eqb (step_number d s) 0 h)

  module _ (h : step_number d s ≡ 0) where
    pub state_moves : step_state d s ≡ moved d 1 s
    unfolding step_state
    state_moves = rw (eq-eqb (step_number d s) 0 h)

    pub answer_block : step_answer d s ≡ block (made d s.registers)
    unfolding step_answer
    answer_block = rw (eq-eqb (step_number d s) 0 h)

-- registers and count, each a step on
pub moved_one : (d : Bool) (s t : State) → t.registers ≡ move d s.registers → t.count ≡ counted d 1 s.count → t ≡ moved d 1 s
unfolding moves
moved_one d s t er ec = λ i. record { registers = er i; count = ec i }

-- ---- the answers of a step of the code

module _ (d : Bool) (s : machine.State) where
  pub step_refused : (e : Refusal) → refusal_number e ≡ step_number d (state_of s) → Steps d s (Err e)
  step_refused e f =
      let h : ¬ (step_number d (state_of s) ≡ 0) = λ z. nonzero e (f ∙ z) in
      record { state = sym (state_stays d (state_of s) h); answer = ap refused f ∙ sym (answer_refused d (state_of s) h) }

  pub step_accepted : (w : Stepped) → 0 ≡ step_number d (state_of s) → state_of w.state ≡ moved d 1 (state_of s) → bytes_of w.z ≡ made d (registers_of s.registers) → Steps d s (Ok w)
  step_accepted w f es ez =
      record { state = es ∙ sym (state_moves d (state_of s) (sym f)); answer = ap block ez ∙ sym (answer_block d (state_of s) (sym f)) }

-- ---- n steps, and one more

count_none : (d : Bool) (c : ℕ) → counted d 0 c ≡ c
count_none true c = omega arith
count_none false c = omega arith

pub moved_none : (d : Bool) (s : State) → moved d 0 s ≡ s
unfolding moves
moved_none d s = λ i. record { registers = s.registers; count = count_none d s.count i }

count_add : (d : Bool) (m n c : ℕ) → counted d n (counted d m c) ≡ counted d (m + n) c
count_add true m n c = omega arith
count_add false m n c = omega arith

pub moved_add : (d : Bool) (m n : ℕ) (s : State) → moved d n (moved d m s) ≡ moved d (m + n) s
moved_add d m n s = λ i. record { registers = moves_add d m n s.registers i; count = count_add d m n s.count i }

pub moved_more : (d : Bool) (n : ℕ) (s : State) → moved d 1 (moved d n s) ≡ moved d (suc n) s
moved_more d n s = moved_add d n 1 s ∙ ap (λ (k : ℕ). moved d k s) (add-one n)
