-- `page_file::header` meets its contract: its four parts are written from the front on, over zeros.
use Prim.Native.Nat.{ℕ}
use mathlib.Core.Path.{ap, ◌∙◌}
use mathlib.Core.List.{List, ◌++◌, append-nil}
use native.Mathlib.Omega.{arith}
use borrow.Author.Rules.{rules}
use lib.Dec.{lit≤}
use lib.ListN.{replicate}
use lib.Seq.{take_all}
use Rattle.words.specs.Bytes.{little}
use Rattle.words.proofs.Bytes.{little_long}
use Rattle.words.proofs.Fronts.{Front, front_put}
use Rattle.page_file.specs.Layout.{header}
use Rattle.page_file.proofs.header.Goals as goal

pub returns : goal.returns
unfolding header
returns c =
    let a = c.args in
    let f12 : Front 22 a.stay.now 12 _ =
    record {
      is = c.copy.ensures ∙ ap (λ (l : List ℕ). l ++ replicate 10 0) (take_all 12 a.stay.now (omega arith));
      long = search rules;
      within = lit≤ tt;
    } in
    let f16 = front_put f12 (little 4 a.n) 4 _ (little_long 4 a.n) (lit≤ tt) c.put.ensures in
    let f20 = front_put f16 (little 4 a.day) 4 _ (little_long 4 a.day) (lit≤ tt) c.put-2.ensures in
    let f22 = front_put f20 (little 2 a.len) 2 _ (little_long 2 a.len) (lit≤ tt) c.put-3.ensures in
    f22.is ∙ append-nil _
