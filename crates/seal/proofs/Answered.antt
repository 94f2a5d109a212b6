-- What is written of an input that was taken into the buffer is the output of the whole.
use Rattle.std.proofs.Common.{ℕ, ◌≡◌, List, length, take, drop, sym, ap, subst, ◌∙◌}
use Rattle.std.proofs.Math.Seq.{take-append_seam}
use Rattle.std.specs.Prelude.{None, Some, Ok}
use Rattle.std.specs.declared.option.Option.{Option}
use Rattle.std.specs.Io.KnownBytes.{Appends}
use Rattle.command.specs.Output.{output}
use Rattle.command.specs.Machine.{Prints}
use Rattle.command.proofs.Whole.{reads_four_lines}
use Rattle.seal.specs.Reading.{Took, Answers}

-- what is printed can be cut off again
pub cut : (vs before after : List ℕ) (n : ℕ) → Prints vs before after n → take n after ≡ vs
cut vs before after n p = ap (λ (i : ℕ). take i after) p.count ∙ ap (take (length vs)) p.bytes ∙ take-append_seam vs (drop n before)

pub whole : (E : Type 0) (had before after : Option (List ℕ)) (buf out₀ out : List ℕ) (n k : ℕ) → 32773 ≡ length buf → Took {E = E} had buf (Ok n) → Prints (output (take n buf)) out₀ out k → Appends before after (take k out) → Answers had (Some n) before after
whole E None before after buf out₀ out n k l t p a = tt
whole E (Some s) before after buf out₀ out n k l t p a =
    subst (Appends before after)
    (cut (output (take n buf)) out₀ out k p ∙ ap output (t ∙ ap (λ (i : ℕ). take i s) (sym l)) ∙ reads_four_lines.cut_off s)
    a
