-- `layout::well_laid` meets its contract: each test is a rule, and with 512 bytes all of them together are the answer.
use mathlib.Core.Path.{◌≡◌, refl, ap, ◌∙◌}
use mathlib.Core.Bool.{not, ◌||◌}
use native.Mathlib.Omega.{arith}
use borrow.Author.Tests.{eq-eqb, ne_eqb}
use Prim.Native.Nat.{ℕ, ◌%◌}
use lib.Dec.{eqb, leb}
use lib.ListN.{length, drop, get_or}
use Rattle.scope.specs.Limits.{most_data, most_text}
use Rattle.words.specs.Bytes.{number, part}
use Rattle.words.proofs.Parts.{part_behind}
use Rattle.fields.specs.Fields.{all_zero}
use Rattle.layout.specs.Block.{read}
use Rattle.layout.specs.Rules.{phase_length, rules}
use Rattle.layout.proofs.Obeying.{broken, tested}
use Rattle.layout.proofs.well_laid.Goals as goal
use Rattle.layout.proofs.well_laid.Goals.{After-all_zero-behind}

-- the bytes past those not yet hashed
behind : (c : After-all_zero-behind)
    → let b = c.args.block.now in c.all_zero-behind.result
    ≡ all_zero (drop (phase_length (get_or b 0 0) (number (part 4 4 b)) (number (part 8 4 b)) % 16) (part 144 16 b))
behind c =
    let b = c.args.block.now in
    let e : c.pending_count-n.result ≡ phase_length (get_or b 0 0) (number (part 4 4 b)) (number (part 8 4 b)) % 16 =
    rw (c.get-ad.ensures.0, c.get-text.ensures.0) at c.pending_count-n.ensures.0 in
    c.all_zero-behind.ensures ∙ rw (← e, part_behind b 144 16 c.pending_count-n.result (omega arith))

pub returns-then-block-ne512 : goal.returns-then-block-ne512
unfolding rules
returns-then-block-ne512 c =
    let b = c.args.block.now in
    let short : length b ≡ 512 → ⊥ = λ e. omega arith in
    broken b 0 (ne_eqb (length b) 512 short)

pub returns : goal.returns
unfolding rules read
returns c =
    let b = c.args.block.now in
    let long : length b ≡ 512 = omega arith in
    tested
    (eq-eqb (length b) 512 long)
    refl
    (ap (λ (n : ℕ). leb n most_data) c.get-ad.ensures.0)
    (ap (λ (n : ℕ). leb n most_text) c.get-text.ensures.0)
    (ap (λ (n : ℕ). not (eqb (get_or b 0 0) 0) || eqb n 0) c.get-text.ensures.0)
    (behind (goal.at.returns c).After-all_zero-behind)
    c.all_zero-zero1.ensures
    c.all_zero-zero12.ensures
    c.all_zero-zero160.ensures
    c.check_holds-sum.ensures
