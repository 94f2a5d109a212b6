-- `tulvekas::tulvekas_file_open` meets its contract, by the answer of the call below and the length of the length's buffer.
use Prim.Native.Nat.{ℕ}
use mathlib.Core.Path.{◌≡◌, refl, ap, ◌∙◌}
use mathlib.Core.List.{◌++◌}
use native.Mathlib.Omega.{arith}
use borrow.Author.Rules.{rules}
use lib.ListN.{length, drop}
use Rattle.std.proofs.lemmas.Result.{err_from_is_err_and}
use Rattle.scope.proofs.Refused.{refused}
use Rattle.words.specs.Bytes.{little}
use Rattle.words.proofs.Bytes.{little_long}
use Rattle.words.proofs.Writing.{put_front}
use Rattle.page_file.specs.Layout.{text_length}
use Rattle.page_file.specs.Calls.{page_of, open_out}
use Rattle.page_file.proofs.Writing.{opened_text, room_for}
use Rattle.bytes_c.proofs.Answering.{never, refused as untouched, unwritten, accepted}
use Rattle.tulvekas.proofs.FileAnswers.{open_refused, open_short, open_right}
use Rattle.tulvekas.proofs.tulvekas_file_open.Goals as goal

pub returns-in_err-c : goal.returns-in_err-c
returns-in_err-c c =
    let a = c.args in
    let p = err_from_is_err_and c.from_residual.result c.from_residual.ensures.1 in
    let h = refused c.in_err-c.field-0.0 in
    let e = open_refused a.key.now a.stay.now a.page a.file.now a.out.now a.length.now c.in_err-c.ensures h in
    record {
      answer = rw (p.1, p.2) e;
      out = untouched e (open_out a.key.now a.stay.now a.page a.file.now a.out.now) a.out.now h;
      length = unwritten e 8 (little 8 (text_length (page_of a.stay.now a.page a.file.now))) a.length.now h;
    }

pub returns-then-length-lt-LENGTH_BYTES : goal.returns-then-length-lt-LENGTH_BYTES
returns-then-length-lt-LENGTH_BYTES c =
    let a = c.args in
    let e = open_short a.key.now a.stay.now a.page a.file.now a.out.now a.length.now c.in_ok-c.ensures.0 refl c.if-length-lt-LENGTH_BYTES.true in
    record {
      answer = e;
      out = untouched e (open_out a.key.now a.stay.now a.page a.file.now a.out.now) a.out.now (never 3);
      length = unwritten e 8 (little 8 (text_length (page_of a.stay.now a.page a.file.now))) a.length.now (never 3);
    }

pub copy-requires : goal.copy-requires
copy-requires c =
    let a = c.args in
    let h = c.in_ok-c.ensures in
    let long : length c.in_ok-c.c.text ≡ 474 = search rules in
    (omega (arith, long, h.1.fits), room_for a.key.now a.stay.now a.page a.file.now a.out.now h.0 c.in_ok-c.c h.1)

pub returns : goal.returns
returns c =
    let a = c.args in
    let key = a.key.now in
    let stay = a.stay.now in
    let f = a.file.now in
    let out = a.out.now in
    let len = a.length.now in
    let k = text_length (page_of stay a.page f) in
    let h = c.in_ok-c.ensures in
    let n = c.in_ok-c.c.length in
    let e = open_right key stay a.page f out len h.0 refl c.if-length-lt-LENGTH_BYTES.false in
    let t = (opened_text key stay a.page f out h.0 c.in_ok-c.c h.1 c.copy.ensures).1 in
    record {
      answer = e;
      out = t ∙ accepted e (open_out key stay a.page f out) out;
      length = c.put.ensures
          ∙ put_front len (little 8 n) 8 (little_long 8 n) c.if-length-lt-LENGTH_BYTES.false
          ∙ ap (λ (m : ℕ). little 8 m ++ drop 8 len) h.1.long
          ∙ accepted e (little 8 k ++ drop 8 len) len;
    }
