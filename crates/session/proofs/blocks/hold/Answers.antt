-- `session::blocks::hold` meets its contract: the block is drawn if need be, and the bytes under it are held from the text's place on.
use Prim.Native.Nat.{◌+◌, ◌-◌, ◌%◌, ◌≤◌}
use mathlib.Core.Path.{◌≡◌, ap, ◌∙◌}
use native.Mathlib.Omega.{arith}
use lib.Seq.{slice, length-slice}
use Rattle.session.specs.Session.{Session}
use Rattle.session.specs.Machine.{session_of}
use Rattle.session.proofs.Within.{ready_text}
use Rattle.session.proofs.Made.{held_session, held_out}
use Rattle.session.proofs.blocks.hold.Goals as goal
use Rattle.session.proofs.blocks.hold.Goals.{After-drawn-r}

same_text : (c : After-drawn-r) → c.drawn-r.result.text ≡ c.args.s.text
same_text c = ap (λ (u : Session). u.text) c.drawn-r.ensures ∙ ready_text (session_of c.args.s)

pub under-q-requires : goal.under-q-requires
under-q-requires c =
    let q = c.requires in
    let e = same_text (goal.at.under-q-requires c).After-drawn-r in
    let inside : c.drawn-r.result.text % 16 + (c.args.to - c.args.from) ≤ 16 = rw e q.1 in
    (record { ordered = q.0.ordered; read = q.0.read; room = q.0.room; counts = omega arith }, inside)

pub overflow_add-r : goal.overflow_add-r
overflow_add-r c =
    record { fits = rw (same_text (goal.at.overflow_add-r c).After-drawn-r) c.requires.0.counts }

pub returns : goal.returns
returns c =
    let a = c.args in
    let S = session_of a.s in
    let R = session_of c.drawn-r.result in
    let part = slice a.from a.to a.piece.now in
    let n = length-slice a.from a.to a.piece.now c.requires.0.read in
    let k = c.to_bytes-key in record { session = held_session S R part k.result c.drawn-r.ensures k.ensures c.under-q.result (a.to - a.from) n c.under-q.ensures.held; out = held_out S R part k.result c.drawn-r.ensures k.ensures a.out.now _ a.from c.under-q.ensures.out }
