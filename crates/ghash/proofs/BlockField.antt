-- The field laws of the product, gathered.
use Rattle.ghash.specs.Laws.{BlockField}
use Rattle.ghash.proofs.Product.{product_one, product_lt}
use Rattle.ghash.proofs.Ring.{product_xor_right, product_comm, product_assoc}
use Rattle.ghash.proofs.Inverse.{inverses, no_zero_divisors}

pub block_field : BlockField
block_field =
    record {
      closed = λ x y hx hy. product_lt x y hy;
      commutative = product_comm;
      associative = product_assoc;
      distributes = product_xor_right;
      unit = product_one;
      inverses = λ x h n. inverses x h n;
      no_zero_divisors = no_zero_divisors;
    }
