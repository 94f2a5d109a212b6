-- `page_file::open` meets its contract: where nothing is refused, the text that was found is copied, and nothing is written otherwise.
use Rattle.std.proofs.Common.{◌≡◌, length, arith}
use Rattle.std.proofs.lemmas.Result.{err_from_is_err_and}
use borrow.Author.Rules.{rules}
use Rattle.page_file.proofs.Writing.{opened_none, opened_text, room_for}
use Rattle.page_file.proofs.open.Goals as goal

pub returns-in_err-c : goal.returns-in_err-c
returns-in_err-c c =
    let a = c.args in
    let q = err_from_is_err_and c.from_residual.result c.from_residual.ensures.1 in
    let p = opened_none a.key.now a.stay.now a.n a.file.now a.out.now c.in_err-c.field-0.0 c.in_err-c.ensures in
    record { answer = rw (q.1, q.2) p.0; out = p.1 }

pub copy-requires : goal.copy-requires
copy-requires c =
    let a = c.args in
    let text_long : length c.in_ok-c.c.text ≡ 474 = search rules in (
      omega (arith, text_long, c.in_ok-c.ensures.1.fits),
      room_for a.key.now a.stay.now a.n a.file.now a.out.now c.in_ok-c.ensures.0 c.in_ok-c.c c.in_ok-c.ensures.1,
    )

pub returns : goal.returns
returns c =
    let a = c.args in
    let p = opened_text a.key.now a.stay.now a.n a.file.now a.out.now c.in_ok-c.ensures.0 c.in_ok-c.c c.in_ok-c.ensures.1 c.copy.ensures in
    record { answer = p.0; out = p.1 }
