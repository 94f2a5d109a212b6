-- `cipher::counted` meets its contract: where the steps are not refused, the count neither passes its type nor goes below 0.
use mathlib.Core.Path.{◌≡◌, subst}
use mathlib.Core.Bool.{Bool}
use native.Mathlib.Omega.{arith}
use Rattle.cipher.specs.State.{steps_number}
use Rattle.cipher.proofs.Counting.{room_on, room_back}
use Rattle.cipher.proofs.counted.Goals as goal

pub overflow_sub-result : goal.overflow_sub-result
overflow_sub-result c =
    room_back c.args.n c.args.count (subst (λ (b : Bool). steps_number b c.args.n c.args.count ≡ 0) c.if-back.true c.requires)

pub overflow_add-result : goal.overflow_add-result
overflow_add-result c =
    let h = room_on c.args.n c.args.count (subst (λ (b : Bool). steps_number b c.args.n c.args.count ≡ 0) c.if-back.false c.requires) in
    record { fits = omega (arith, h) }
