-- `scheduler_c::turn` meets its contract, by the room in the buffers and the answer of the call below.
use Rattle.std.specs.Prelude.{Err}
use mathlib.Core.Path.{◌≡◌, refl, sym, ap, ◌∙◌}
use mathlib.Core.Bool.{not}
use borrow.Author.Rules.{rules}
use Rattle.words.specs.Bytes.{little}
use Rattle.words.proofs.Bytes.{little_long}
use Rattle.words.proofs.Writing.{put_front}
use Rattle.scheduler.specs.Machine.{tagged, tag_or_zeros}
use Rattle.scheduler_c.specs.Calls.{Buffers}
use Rattle.scheduler_c.proofs.Telling.{short_rooms, all_rooms, Roomy, turn_refused, turn_short, turn_nobody, turn_unfinished, turn_finished}
use Rattle.scheduler_c.proofs.turn.Goals as goal
use Rattle.scheduler_c.proofs.turn.Goals.{Else-not-fits}

-- the buffers that C adds have room
roomy : (c : Else-not-fits)
    → let a = c.args in
    Roomy (record { iv = a.iv.now; turn = a.turn.now; done = a.done.now; tag = a.tag.now })
roomy c =
    let a = c.args in
    all_rooms (record { iv = a.iv.now; turn = a.turn.now; done = a.done.now; tag = a.tag.now }) c.fits.ensures (ap not c.if-not-fits.false)

pub returns-then-not-fits : goal.returns-then-not-fits
returns-then-not-fits c =
    let a = c.args in
    let f : Buffers = record { iv = a.iv.now; turn = a.turn.now; done = a.done.now; tag = a.tag.now } in
    turn_short a.scheduler.now a.piece.now a.out.now f c.short_turn.result (c.short_turn.ensures a.out.now) (short_rooms f c.fits.ensures (ap not c.if-not-fits.true))

pub returns-in_err-t : goal.returns-in_err-t
returns-in_err-t c =
    let a = c.args in
    let f : Buffers = record { iv = a.iv.now; turn = a.turn.now; done = a.done.now; tag = a.tag.now } in
    let e = c.in_err-t.field-0.0 in
    let q : c.from_residual.result ≡ Err e = search rules in
    let k = c.in_err-t.ensures in
    turn_refused a.scheduler.now a.piece.now a.out.now f e q k.answer k.scheduler k.out

pub returns-in_default : goal.returns-in_default
returns-in_default c =
    let a = c.args in
    let f : Buffers = record { iv = a.iv.now; turn = a.turn.now; done = a.done.now; tag = a.tag.now } in
    let r = roomy (goal.at.returns-in_default c).Else-not-fits in
    let k = rw c.in_default.is at c.in_ok-t.ensures in
    turn_nobody a.scheduler.now a.piece.now a.out.now f k.answer r.all r.done_room k.turn k.done k.scheduler k.out
    (c.put.ensures ∙ put_front a.turn.now (little 8 0) 8 (little_long 8 0) r.turn_room) refl

pub returns-in_default-tag : goal.returns-in_default-tag
returns-in_default-tag c =
    let a = c.args in
    let f : Buffers = record { iv = a.iv.now; turn = a.turn.now; done = a.done.now; tag = a.tag.now } in
    let r = roomy (goal.at.returns-in_default-tag c).Else-not-fits in
    let k = rw c.in-Some.is at c.in_ok-t.ensures in
    let n = c.in-Some.t.turn in
    turn_unfinished a.scheduler.now a.piece.now a.out.now f k.answer r.all r.done_room k.served k.turn k.iv (ap tagged (sym c.in_default-tag.is) ∙ k.done) k.scheduler k.out
    c.put_block.ensures (c.put-2.ensures ∙ put_front a.turn.now (little 8 n) 8 (little_long 8 n) r.turn_room) refl

pub returns : goal.returns
returns c =
    let a = c.args in
    let f : Buffers = record { iv = a.iv.now; turn = a.turn.now; done = a.done.now; tag = a.tag.now } in
    let r = roomy (goal.at.returns c).Else-not-fits in
    let k = rw c.in-Some.is at c.in_ok-t.ensures in
    let n = c.in-Some.t.turn in
    turn_finished a.scheduler.now a.piece.now a.out.now f k.answer r.all r.done_room k.served k.turn k.iv (ap tagged (sym c.in-Some-tag.is) ∙ k.done)
    (ap tag_or_zeros (sym c.in-Some-tag.is) ∙ k.tag) k.scheduler k.out
    c.put_block.ensures (c.put-2.ensures ∙ put_front a.turn.now (little 8 n) 8 (little_long 8 n) r.turn_room) refl c.put_block-2.ensures
