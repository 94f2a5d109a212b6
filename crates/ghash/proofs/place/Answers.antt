-- `ghash::place` meets its contract: v, v x, v x² and v x³ are the four leftmost bits' multiples, and the others are sums of these.
use mathlib.Core.Path.{ap, ◌∙◌}
use Prim.Native.Nat.{◌*◌, ◌<◌}
use Rattle.ghash.specs.Field.{times_x}
use Rattle.ghash.specs.Hash.{big}
use Rattle.ghash.specs.Inner.{number_of, entries}
use Rattle.ghash.proofs.Elements.{big_sum, big_zeros}
use Rattle.ghash.proofs.Places.{placed}
use Rattle.ghash.proofs.place.Goals as goal
use Rattle.ghash.proofs.place.Goals.{After-xor-e3}

few : (c : After-xor-e3) → c.args.p < 32
few c = c.requires

pub returns : goal.returns
returns c =
    let a = c.args in
    let e4 = c.times_x-v4.ensures in
    let e2 = c.times_x-v2.ensures ∙ ap times_x e4 in
    let e1 = c.times_x-v1.ensures ∙ ap times_x e2 in record {
      result_value = c.times_x.ensures ∙ ap times_x e1;
      table_after = placed (entries a.table.now) _ _ _ _ (a.p * 16) (number_of a.v) (ap big c.zero.ensures ∙ big_zeros) c.from_number-e8.ensures
          (c.from_number-e4.ensures ∙ e4) (c.from_number-e2.ensures ∙ e2) (c.from_number-e1.ensures ∙ e1)
          (big_sum _ c.from_number-e2.result c.from_number-e1.result c.xor-e3.ensures)
          (big_sum _ c.from_number-e8.result c.from_number-e4.result c.xor.ensures) c.four.ensures c.four-2.ensures
          c.four-3.ensures c.four-4.ensures;
    }
