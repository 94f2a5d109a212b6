-- `suspended::put_held` meets its contract: the blocks are written one behind the other.
use Prim.Native.Nat.{ℕ}
use mathlib.Core.Path.{◌≡◌, ap, ◌∙◌}
use mathlib.Core.List.{List, ◌++◌}
use native.Mathlib.Omega.{arith}
use lib.ListN.{length}
use lib.Seq.{sets, take_all}
use Rattle.words.specs.Machine.{bytes_of}
use Rattle.ghash.specs.Machine.{bytes_of_element}
use Rattle.ghash.proofs.Elements.{element_block}
use Rattle.suspended.proofs.Placing.{put_two}
use borrow.Author.Rules.{rules}
use Rattle.suspended.proofs.put_held.Goals as goal
use Rattle.suspended.proofs.put_held.Goals.{Start}

long : (c : Start) → length c.args.d.pending ≡ 16
long c = search rules

pub load-rest-requires : goal.load-rest-requires
load-rest-requires c = let n = long (goal.at.load-rest-requires c).Start in omega arith

pub returns : goal.returns
returns c =
    let out = c.args.out.now in
    let at = c.args.at in
    let n = long (goal.at.returns c).Start in
    let rest = c.load-rest.ensures ∙ take_all 16 c.args.d.pending (omega arith) in
    put_two out at (element_block c.args.d.acc) (bytes_of c.load-rest.result) (c.store.ensures ∙ ap (sets out at) c.to_block.ensures) c.store-2.ensures
    ∙ ap (λ (v : List ℕ). sets out at (bytes_of_element c.args.d.acc ++ v)) rest
