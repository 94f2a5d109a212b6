-- `tulvekas::tulvekas_seal` meets its contract, by the tag's length and the answer of the call below.
use Prim.Native.Nat.{ℕ}
use mathlib.Core.Path.{ap, ◌∙◌}
use mathlib.Core.List.{List, ◌++◌}
use lib.ListN.{drop}
use Rattle.std.proofs.lemmas.Result.{err_from_is_err_and}
use Rattle.scope.proofs.Refused.{refused}
use Rattle.page.specs.Calls.{seal_out, seal_tag}
use Rattle.bytes_c.proofs.Answering.{refused as untouched, unwritten, accepted}
use Rattle.tulvekas.proofs.PageAnswers.{seal_no_room, seal_room, seal_left}
use Rattle.tulvekas.proofs.tulvekas_seal.Goals as goal

pub returns-then-tag-lt-TAG_BYTES : goal.returns-then-tag-lt-TAG_BYTES
returns-then-tag-lt-TAG_BYTES c =
    let a = c.args in
    let key = a.key.now in
    let iv = a.iv.now in
    let d = a.ad.now in
    let t = a.text.now in
    let out = a.out.now in
    let tag = a.tag.now in
    let f = c.short_tag.ensures out in
    let e = f ∙ seal_no_room key iv d t out tag c.if-tag-lt-TAG_BYTES.true in
    let n = refused c.short_tag.result in
    record { answer = e; out = untouched e (seal_out key iv d t out) out n; tag = unwritten e 16 (seal_tag key iv d t out) tag n }

pub returns-in_err-t : goal.returns-in_err-t
returns-in_err-t c =
    let a = c.args in
    let key = a.key.now in
    let iv = a.iv.now in
    let d = a.ad.now in
    let t = a.text.now in
    let out = a.out.now in
    let tag = a.tag.now in
    let p = err_from_is_err_and c.from_residual.result c.from_residual.ensures.1 in
    let h = refused c.in_err-t.field-0.0 in
    let e = c.in_err-t.ensures.answer ∙ seal_room key iv d t out tag c.if-tag-lt-TAG_BYTES.false in
    record {
      answer = rw (p.1, p.2) e;
      out = c.in_err-t.ensures.out ∙ seal_left key iv d t out tag c.if-tag-lt-TAG_BYTES.false;
      tag = unwritten e 16 (seal_tag key iv d t out) tag h;
    }

pub returns : goal.returns
returns c =
    let a = c.args in
    let key = a.key.now in
    let iv = a.iv.now in
    let d = a.ad.now in
    let t = a.text.now in
    let out = a.out.now in
    let tag = a.tag.now in
    let f = c.in_ok-t.ensures in
    let e = f.answer ∙ seal_room key iv d t out tag c.if-tag-lt-TAG_BYTES.false in
    record {
      answer = e;
      out = f.out ∙ seal_left key iv d t out tag c.if-tag-lt-TAG_BYTES.false;
      tag = c.put_block.ensures ∙ ap (λ (v : List ℕ). v ++ drop 16 tag) f.tag ∙ accepted e (seal_tag key iv d t out ++ drop 16 tag) tag;
    }
