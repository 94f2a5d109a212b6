-- `page_file::padded` meets its contract: behind what is copied the zeros stay.
use Rattle.std.proofs.Common.{ℕ, List, ◌++◌, length, ap₂, ◌∙◌}
use Rattle.std.proofs.lemmas.List.{drop-replicate}
use lib.Seq.{take-length}
use Rattle.page_file.specs.Layout.{padded_text}
use Rattle.page_file.proofs.padded.Goals as goal

pub returns : goal.returns
unfolding padded_text
returns c =
    let t = c.args.text.now in
    c.copy.ensures ∙ ap₂ (λ (u v : List ℕ). u ++ v) (take-length t) (drop-replicate (length t) 474 0)
