-- `suspend::revived` meets its contract: H and the end pad are those of a session begun, and the step before gives the current block.
use mathlib.Core.Path.{◌≡◌, ap, subst, ◌∙◌}
use borrow.Author.Rules.{rules}
use Rattle.words.specs.Bytes.{Row}
use Rattle.words.proofs.Typed.{known_bytes}
use Rattle.cipher.specs.Run.{moves}
use Rattle.cipher.specs.Back.{z_before}
use Rattle.cipher.specs.State.{State}
use Rattle.start.specs.Start.{Mode.sealed}
use Rattle.start.specs.Leads.{LeadsToState}
use Rattle.start.proofs.Answers.{both_right}
use Rattle.scope.proofs.Refused.{accepted, given}
use Rattle.session.specs.Calls.{begin_call}
use Rattle.digest.specs.Machine.{sum_of}
use Rattle.session.proofs.Beginning.{granted_session}
use Rattle.suspend.specs.Calls.{revived}
use Rattle.suspend.proofs.Resuming.{last_drawn}
use Rattle.suspend.proofs.revived.Goals as goal
use Rattle.suspend.proofs.revived.Goals.{After-begin}

accepted_number : (c : After-begin) → (begin_call c.args.key.now c.args.iv).number ≡ 0
unfolding begin_call
accepted_number c = both_right c.args.key.now c.args.iv c.requires.0 (search rules)

pub unwrap-first-requires : goal.unwrap-first-requires
unwrap-first-requires c = accepted _ _ c.begin.result c.begin.ensures (accepted_number c)

pub returns : goal.returns
unfolding revived moves begin_call
returns c =
    let key = c.args.key.now in
    let iv = c.args.iv in
    let k = c.args.k in
    let begun = given _ _ c.unwrap-first.result c.unwrap-first.ensures c.begin.ensures in
    let first = begun.1 ∙ granted_session key iv (accepted_number (goal.at.returns c).After-begin) in
    let led = subst (LeadsToState key iv sealed) c.requires.1 c.requires.2 in
    let row : Row 32 256 key = record { long = c.requires.0; below = known_bytes key c.type_inv.key } in
    let current = c.z_before-before.ensures.z ∙ ap (λ (t : State). z_before t.registers) c.requires.1 ∙ last_drawn key iv row k.text led in
    λ i. record {
      phase = k.phase;
      ad = k.ad;
      text = k.text;
      state = c.requires.1 i;
      h = (first i).h;
      pad = (first i).pad;
      current = current i;
      sum = sum_of k.held;
      iv = (first i).iv;
    }
