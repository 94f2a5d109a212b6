-- `tulvekas::tulvekas_kept` meets its contract, by what the keeping rule decides.
use mathlib.Core.Path.{◌≡◌, refl, sym, ap, ◌∙◌}
use mathlib.Core.Bool.{Bool, true, false}
use mathlib.Core.List.{[], ◌∷◌}
use mir.Val.{bool_byte}
use Rattle.scope.specs.Refusals.{pick}
use Rattle.words.proofs.Bytes.{little_long}
use Rattle.bytes_c.specs.Replies.{Reply.bytes}
use Rattle.std.proofs.lemmas.Result.{err_from_is_err_and}
use Rattle.scope.specs.Machine.{refusal_number}
use Rattle.words.specs.Bytes.{little}
use Rattle.bytes_c.proofs.Replies.{reply_refused, reply_bytes}
use Rattle.tulvekas.specs.Dates.{kept_reply}
use Rattle.tulvekas.proofs.tulvekas_kept.Goals as goal

pub returns-in_err-holds : goal.returns-in_err-holds
returns-in_err-holds c =
    let p = err_from_is_err_and c.from_residual.result c.from_residual.ensures.1 in
    let q = reply_refused c.args.kept.now (refusal_number c.in_err-holds.field-0.0) (ap kept_reply (sym c.in_err-holds.ensures)) in
    record { answer = rw (p.1, p.2) q.0; kept = q.1 }

-- a decision as a byte
held : (b : Bool) → pick b 1 0 ∷ [] ≡ little 1 (bool_byte b)
unfolding little
held true = refl
held false = refl

pub returns : goal.returns
returns c =
    let b = c.in_ok-holds.holds in
    let p = reply_bytes c.args.kept.now 1 (little 1 (bool_byte b)) (little_long 1 (bool_byte b))
    (ap kept_reply (sym c.in_ok-holds.ensures) ∙ ap bytes (held b)) c.reply.ensures.answer c.reply.ensures.out in
    record { answer = p.0; kept = p.1 }
