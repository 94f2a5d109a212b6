-- `tulvekas::tulvekas_date` meets its contract: the date of the day fits four bytes, and of a refusal its number is told.
use Rattle.std.proofs.lemmas.Result.{err_from_is_err_and}
use Rattle.scope.specs.Machine.{refusal_number}
use Rattle.calendar.proofs.Claimed.{dated_small}
use Rattle.tulvekas.proofs.Replies.{reply_fits, reply_told}
use Rattle.tulvekas.proofs.tulvekas_date.Goals as goal

pub reply_date-requires : goal.reply_date-requires
reply_date-requires c = reply_fits _ c.to_date.ensures (dated_small _)

pub returns-in_err-reply_date : goal.returns-in_err-reply_date
returns-in_err-reply_date c =
    let p = err_from_is_err_and c.from_residual.result c.from_residual.ensures.1 in
    let e = c.in_err-reply_date.ensures in
    let q = reply_told _ c.to_date.ensures c.args.date.now (e.answer refusal_number) (e.out refusal_number) in
    record { answer = rw (p.1, p.2) q.0; date = q.1 }

pub returns : goal.returns
returns c =
    let e = c.in_ok-reply_date.ensures in
    let q = reply_told _ c.to_date.ensures c.args.date.now (e.answer refusal_number) (e.out refusal_number) in
    record { answer = q.0; date = q.1 }
