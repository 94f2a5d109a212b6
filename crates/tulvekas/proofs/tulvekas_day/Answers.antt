-- `tulvekas::tulvekas_day` meets its contract, by whether the date has a day.
use mathlib.Core.Path.{sym, ap}
use Rattle.std.proofs.lemmas.Result.{err_from_is_err_and}
use Rattle.scope.specs.Machine.{refusal_number}
use Rattle.words.specs.Bytes.{little}
use Rattle.words.proofs.Bytes.{little_long}
use Rattle.bytes_c.proofs.Replies.{reply_refused, reply_bytes}
use Rattle.tulvekas.specs.Dates.{day_reply}
use Rattle.tulvekas.proofs.tulvekas_day.Goals as goal

pub returns-in_err-n : goal.returns-in_err-n
returns-in_err-n c =
    let p = err_from_is_err_and c.from_residual.result c.from_residual.ensures.1 in
    let q = reply_refused c.args.number.now (refusal_number c.in_err-n.field-0.0) (ap day_reply (sym c.in_err-n.ensures)) in
    record { answer = rw (p.1, p.2) q.0; number = q.1 }

pub returns : goal.returns
returns c =
    let n = c.in_ok-n.n in
    let p = reply_bytes c.args.number.now 8 (little 8 n) (little_long 8 n) (ap day_reply (sym c.in_ok-n.ensures)) c.reply.ensures.answer c.reply.ensures.out in
    record { answer = p.0; number = p.1 }
