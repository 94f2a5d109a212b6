-- `tulvekas::tulvekas_state_of` meets its contract, by the layout rules, which bound the text's length, and the buffer's length.
use mathlib.Core.Path.{◌≡◌, sym, ap, subst, ◌∙◌}
use mathlib.Core.Bool.{true}
use Prim.Native.Nat.{ℕ, ◌≤◌}
use Rattle.scope.specs.Limits.{most_text}
use Rattle.layout.specs.Block.{Suspended, read}
use Rattle.layout.specs.Rules.{well_laid}
use Rattle.layout.proofs.Obeying.{laid_long, laid_text}
use Rattle.suspend.specs.Calls.{state_for}
use Rattle.bytes_c.proofs.Answering.{never}
use Rattle.tulvekas.proofs.Answering.{state_leaves_all, state_leaves_stored}
use Rattle.tulvekas.proofs.CipherAnswers.{state_of_bad, state_of_short, state_of_right}
use Rattle.tulvekas.proofs.tulvekas_state_of.Goals as goal
use Rattle.tulvekas.proofs.tulvekas_state_of.Goals.{Else-not-well_laid}

pub returns-then-not-well_laid : goal.returns-then-not-well_laid
returns-then-not-well_laid c =
    let a = c.args in
    let e = state_of_bad a.block.now a.state.now (sym c.well_laid.ensures ∙ c.if-not-well_laid.true) in
    record { answer = e; state = state_leaves_all e (state_for (read a.block.now)) a.state.now (never 7) }

-- the block obeys the rules
laid : (c : Else-not-well_laid) → well_laid c.args.block.now ≡ true
laid c = sym c.well_laid.ensures ∙ c.if-not-well_laid.false

pub returns-then-state-lt-STATE_BYTES : goal.returns-then-state-lt-STATE_BYTES
returns-then-state-lt-STATE_BYTES c =
    let a = c.args in
    let e = state_of_short a.block.now a.state.now (laid (goal.at.returns-then-state-lt-STATE_BYTES c).Else-not-well_laid) c.if-state-lt-STATE_BYTES.true in
    record { answer = e; state = state_leaves_all e (state_for (read a.block.now)) a.state.now (never 3) }

pub read-k-requires : goal.read-k-requires
read-k-requires c = laid_long _ (laid (goal.at.read-k-requires c).Else-not-well_laid)

pub state_of-requires : goal.state_of-requires
state_of-requires c =
    subst (λ (n : ℕ). n ≤ most_text) (sym (ap (λ (k : Suspended). k.text) c.read-k.ensures)) (laid_text _ (laid (goal.at.state_of-requires c).Else-not-well_laid))

pub returns : goal.returns
returns c =
    let a = c.args in
    let e = state_of_right a.block.now a.state.now (laid (goal.at.returns c).Else-not-well_laid) c.if-state-lt-STATE_BYTES.false in
    let s = c.state_of.ensures ∙ ap state_for c.read-k.ensures in
    record { answer = e; state = state_leaves_stored e _ (state_for (read a.block.now)) a.state.now _ s c.store_state.ensures }
