-- `scheduler_c::next` meets its contract, by the answer of the call below and the lengths of the buffers.
use Rattle.std.specs.Prelude.{Err}
use mathlib.Core.Path.{◌≡◌, refl, ◌∙◌}
use borrow.Author.Rules.{rules}
use Rattle.words.specs.Bytes.{little}
use Rattle.words.proofs.Bytes.{little_long}
use Rattle.words.proofs.Writing.{put_front}
use Rattle.scope.specs.declared.Refusal.TheVariants.{ShortOutput}
use Rattle.scope.proofs.Refused as Refused
use Rattle.bytes_c.proofs.Answering.{short, fits}
use Rattle.scheduler_c.specs.Calls.{asked_answer}
use Rattle.scheduler_c.proofs.Telling.{passed, lacking, ask_refused, ask_nobody, ask_told}
use Rattle.scheduler_c.proofs.next.Goals as goal

pub returns-in_err-n : goal.returns-in_err-n
unfolding asked_answer
returns-in_err-n c =
    let a = c.args in
    let e = c.in_err-n.field-0.0 in
    let q : c.from_residual.result ≡ Err e = search rules in
    ask_refused a.scheduler.now a.found.now a.iv.now a.due.now e q (passed _ c.in_err-n.ensures.answer (Refused.refused e))

pub returns-then-found-lt-FLAG_BYTES : goal.returns-then-found-lt-FLAG_BYTES
unfolding asked_answer
returns-then-found-lt-FLAG_BYTES c =
    let a = c.args in
    ask_refused a.scheduler.now a.found.now a.iv.now a.due.now ShortOutput refl
    (lacking _ c.in_ok-n.ensures.answer refl (short 1 a.found.now _ c.if-found-lt-FLAG_BYTES.true))

pub returns-then-iv-lt-IV_BYTES : goal.returns-then-iv-lt-IV_BYTES
unfolding asked_answer
returns-then-iv-lt-IV_BYTES c =
    let a = c.args in
    ask_refused a.scheduler.now a.found.now a.iv.now a.due.now ShortOutput refl
    (lacking _ c.in_ok-n.ensures.answer refl (short 16 a.iv.now _ c.if-iv-lt-IV_BYTES.true ∙ fits 1 a.found.now _ c.if-found-lt-FLAG_BYTES.false))

pub returns-then-due-lt-DUE_BYTES : goal.returns-then-due-lt-DUE_BYTES
unfolding asked_answer
returns-then-due-lt-DUE_BYTES c =
    let a = c.args in
    ask_refused a.scheduler.now a.found.now a.iv.now a.due.now ShortOutput refl
    (lacking _ c.in_ok-n.ensures.answer refl
    (short 8 a.due.now 0 c.if-due-lt-DUE_BYTES.true ∙ fits 16 a.iv.now _ c.if-iv-lt-IV_BYTES.false ∙ fits 1 a.found.now _ c.if-found-lt-FLAG_BYTES.false))

pub returns-in_default : goal.returns-in_default
unfolding asked_answer
returns-in_default c =
    let a = c.args in
    let k = rw c.in_default.is at c.in_ok-n.ensures in
    ask_nobody a.scheduler.now a.found.now a.iv.now a.due.now
    (lacking _ c.in_ok-n.ensures.answer refl (fits 8 a.due.now 0 c.if-due-lt-DUE_BYTES.false ∙ fits 16 a.iv.now _ c.if-iv-lt-IV_BYTES.false ∙ fits 1 a.found.now _ c.if-found-lt-FLAG_BYTES.false))
    c.if-found-lt-FLAG_BYTES.false k.found refl

pub returns : goal.returns
unfolding asked_answer
returns c =
    let a = c.args in
    let due = a.due.now in
    let k = rw c.in-Some.is at c.in_ok-n.ensures in
    let d = c.in-Some.stay.due in
    ask_told a.scheduler.now a.found.now a.iv.now due
    (lacking _ c.in_ok-n.ensures.answer refl (fits 8 due 0 c.if-due-lt-DUE_BYTES.false ∙ fits 16 a.iv.now _ c.if-iv-lt-IV_BYTES.false ∙ fits 1 a.found.now _ c.if-found-lt-FLAG_BYTES.false))
    c.if-found-lt-FLAG_BYTES.false k.found k.iv k.due refl c.put_block.ensures
    (c.put.ensures ∙ put_front due (little 8 d) 8 (little_long 8 d) c.if-due-lt-DUE_BYTES.false)
