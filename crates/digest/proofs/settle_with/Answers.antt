-- `digest::settle_with` meets its contract: its two branches are those of the definition.
use mathlib.Core.Path.{◌≡◌, sym, ap, ◌∙◌}
use native.Mathlib.Omega.{arith}
use lib.ListN.{length}
use lib.Seq.{take_all}
use Rattle.ghash.specs.Hash.{eat}
use Rattle.ghash.specs.Machine.{bytes_of_element}
use Rattle.digest.specs.Machine.{sum_of}
use Rattle.digest.proofs.Settling.{settled_whole, settled_held}
use borrow.Author.Rules.{rules}
use Rattle.digest.proofs.settle_with.Goals as goal
use Rattle.digest.proofs.settle_with.Goals.{Start}

long : (c : Start) → length c.args.d.pending ≡ 16
long c = search rules

pub returns-then-n-eq0 : goal.returns-then-n-eq0
returns-then-n-eq0 c = let a = c.args in sym (settled_whole (bytes_of_element a.h) (sum_of a.d) a.n (omega arith))

pub returns : goal.returns
returns c =
    let a = c.args in
    let e = long (goal.at.returns c).Start in
    c.absorb.ensures
    ∙ ap (eat (bytes_of_element a.h) (bytes_of_element a.d.acc)) (c.load.ensures ∙ take_all 16 a.d.pending (omega arith))
    ∙ sym (settled_held (bytes_of_element a.h) (sum_of a.d) a.n (omega arith))
