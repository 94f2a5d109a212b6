-- `session::blocks::drawn` meets its contract, by the place of the next byte.
use Prim.Native.Nat.{◌+◌}
use mathlib.Core.Path.{sym, ◌∙◌}
use native.Mathlib.Omega.{arith}
use Rattle.cipher.specs.Run.{move, made, moves}
use Rattle.session.specs.Machine.{session_of}
use Rattle.session.proofs.Within.{ready_inside, ready_start}
use Rattle.session.proofs.blocks.drawn.Goals as goal

pub returns-then-s-ne0 : goal.returns-then-s-ne0
returns-then-s-ne0 c = sym (ready_inside (session_of c.args.s) c.if-s-ne0.true)

pub returns : goal.returns
unfolding move moves made
returns c =
    let s = c.args.s in
    let f = c.forward-w.ensures in
    (λ i. record {
      phase = s.phase;
      ad = s.ad;
      text = s.text;
      state = record { registers = f.registers i; count = s.state.count + 1 };
      h = (session_of s).h;
      pad = (session_of s).pad;
      current = f.z i;
      sum = (session_of s).sum;
      iv = s.iv;
    })
    ∙ sym (ready_start (session_of s) (omega (arith, c.if-s-ne0.false)))

pub overflow_add-state : goal.overflow_add-state
overflow_add-state c = record { fits = c.requires.1 }
