-- `command::seal_lines` meets its contract: the four lines are well formed, since they were read, so that their bytes can be made; the seal of
-- those bytes is the answer.
use mathlib.Core.Path.{◌≡◌, ap, ◌∙◌}
use mathlib.Core.List.{List}
use Prim.Native.Nat.{ℕ, ◌+◌, ◌≤◌}
use native.Mathlib.Omega.{arith}
use borrow.Author.Rules.{rules}
use lib.ListN.{length, take}
use Rattle.std.specs.Prelude.{Some}
use Rattle.std.proofs.lemmas.Result.{err_from_is_err_and}
use Rattle.scope.proofs.Refused.{refused}
use Rattle.command.specs.Hex.{bytes_of}
use Rattle.command.specs.Lines.{lines_in}
use Rattle.command.specs.Output.{answer_for, answer_to}
use Rattle.command.specs.Machine.{between, lines_of}
use Rattle.command.specs.declared.Places.{Places}
use Rattle.command.proofs.Reading.{formed_bytes}
use Rattle.command.specs.Laws.{FourLines}
use Rattle.command.proofs.Whole.{read_as}
use Rattle.command.proofs.Sealing.{refused_is, sealed_is, same_answer}
use Rattle.command.proofs.seal_lines.Goals as goal
use Rattle.command.proofs.seal_lines.Goals.{After-line_bytes-t}

-- the four lines of an input by their places
module _ (p : Places) (s : List ℕ) where
  abbrev line1 : List ℕ
  line1 = between 0 p.key s

  abbrev line2 : List ℕ
  line2 = between (p.key + 1) p.iv s

  abbrev line3 : List ℕ
  line3 = between (p.iv + 1) p.ad s

  abbrev line4 : List ℕ
  line4 = between (p.ad + 1) p.text s

  whole : lines_of s (Some p) ≡ lines_in s → FourLines s line1 line2 line3 line4
  whole e = read_as s line1 line2 line3 line4 e

pub line_bytes-k-requires : goal.line_bytes-k-requires
line_bytes-k-requires c = (omega arith, omega arith, (whole c.args.p c.args.input.now c.requires.0).key)

pub line_bytes-v-requires : goal.line_bytes-v-requires
line_bytes-v-requires c = (omega arith, omega arith, (whole c.args.p c.args.input.now c.requires.0).iv)

pub line_bytes-d-requires : goal.line_bytes-d-requires
line_bytes-d-requires c = (omega arith, omega arith, (whole c.args.p c.args.input.now c.requires.0).ad)

pub line_bytes-t-requires : goal.line_bytes-t-requires
line_bytes-t-requires c = (omega arith, omega arith, (whole c.args.p c.args.input.now c.requires.0).text)

-- the seal was of the bytes that the lines say
answer_is : (c : After-line_bytes-t) → answer_for (take c.line_bytes-k.result c.line_bytes-k.new.out)
    (take c.line_bytes-v.result c.line_bytes-v.new.out)
    (take c.line_bytes-d.result c.line_bytes-d.new.out)
    (take c.line_bytes-t.result c.line_bytes-t.new.out)
    ≡ answer_to (lines_in c.args.input.now)
answer_is c =
    let p = c.args.p in
    let s = c.args.input.now in
    same_answer _ _ _ _ (bytes_of (line1 p s)) (bytes_of (line2 p s)) (bytes_of (line3 p s)) (bytes_of (line4 p s))
    c.line_bytes-k.ensures.bytes
    c.line_bytes-v.ensures.bytes
    c.line_bytes-d.ensures.bytes
    c.line_bytes-t.ensures.bytes
    ∙ ap answer_to c.requires.0

text_fits : (c : After-line_bytes-t) → length (take c.line_bytes-t.result c.line_bytes-t.new.out) ≤ length c.args.cipher.now
text_fits c =
    let p = c.args.p in
    let s = c.args.input.now in
    let n : length c.args.cipher.now ≡ 4096 = search rules in
    let m = ap length c.line_bytes-t.ensures.bytes in
    omega (arith, formed_bytes (line4 p s) (whole p s c.requires.0).text)

pub returns-in_err-tag-clause-answer : goal.returns-in_err-tag-clause-answer
returns-in_err-tag-clause-answer c =
    let r = (goal.at.returns-in_err-tag-clause-answer c).After-line_bytes-t in
    let p = err_from_is_err_and c.from_residual.result c.from_residual.ensures.1 in
    rw (p.1, p.2) (refused_is _ _ _ _ _ (text_fits r) _ c.in_err-tag.ensures.answer (refused _) ∙ answer_is r)

pub returns-clause-answer : goal.returns-clause-answer
returns-clause-answer c =
    let r = (goal.at.returns-clause-answer c).After-line_bytes-t in
    let e = c.in_ok-tag.ensures in
    sealed_is _ _ _ _ _ (text_fits r) _ _ _ e.answer e.tag e.out c.line_bytes-t.ensures.count.1 ∙ answer_is r
