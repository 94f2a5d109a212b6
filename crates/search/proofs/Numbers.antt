-- The number of a search before its walk, test by test.
use mathlib.Core.Path.{◌≡◌, refl}
use mathlib.Core.Bool.{Bool, true, false, not}
use mathlib.Core.List.{List}
use Prim.Native.Nat.{ℕ, ◌≤◌, ◌<◌}
use native.Mathlib.Omega.{arith}
use borrow.Author.Tests.{eq-eqb, ne_eqb, lt-ltb, le-ltb, eqb-true, ltb-false}
use lib.Dec.{eqb, ltb}
use lib.ListN.{length}
use Rattle.scope.specs.Limits.{most_blocks}
use Rattle.scope.specs.Refusals.{refuse}
use Rattle.search.specs.Search.{Searchable}
use Rattle.search.specs.Counts.{range_number}

module _ (dump key : List ℕ) (lowest highest : ℕ) where
  pub bad_key : ¬ (length key ≡ 32) → 1 ≡ range_number dump key lowest highest
  unfolding range_number
  bad_key h = rw (ne_eqb (length key) 32 h)

  module _ (k : length key ≡ 32) where
    pub bad_dump : ¬ (length dump ≡ 112) → 8 ≡ range_number dump key lowest highest
    unfolding range_number
    bad_dump h = rw (eq-eqb (length key) 32 k, ne_eqb (length dump) 112 h)

    module _ (d : length dump ≡ 112) where
      pub too_far : most_blocks < highest → 9 ≡ range_number dump key lowest highest
      unfolding range_number
      too_far h = rw (eq-eqb (length key) 32 k, eq-eqb (length dump) 112 d, lt-ltb most_blocks highest h)

      module _ (w : highest ≤ most_blocks) where
        pub bad_order : highest < lowest → 18 ≡ range_number dump key lowest highest
        unfolding range_number
        bad_order h = rw (eq-eqb (length key) 32 k, eq-eqb (length dump) 112 d, le-ltb most_blocks highest w, lt-ltb highest lowest h)

        pub in_order : lowest ≤ highest → 0 ≡ range_number dump key lowest highest
        unfolding range_number
        in_order h = rw (eq-eqb (length key) 32 k, eq-eqb (length dump) 112 d, le-ltb most_blocks highest w, le-ltb highest lowest h)

  pub searchable : range_number dump key lowest highest ≡ 0 → Searchable dump key lowest highest
  unfolding range_number
  searchable e = go (eqb (length key) 32) (eqb (length dump) 112) (ltb most_blocks highest) (ltb highest lowest) refl refl refl refl e
    where
      go : (a b c d : Bool) → eqb (length key) 32 ≡ a → eqb (length dump) 112 ≡ b → ltb most_blocks highest ≡ c → ltb highest lowest ≡ d
          → refuse (not a) 1 (refuse (not b) 8 (refuse c 9 (refuse d 18 0))) ≡ 0 → Searchable dump key lowest highest
      go true true false false p q r s z =
          record {
            key_long = eqb-true (length key) 32 p;
            dump_long = eqb-true (length dump) 112 q;
            within = ltb-false most_blocks highest r;
            ordered = ltb-false highest lowest s;
          }
      go true true false true p q r s z = absurd (omega arith)
      go true true true d p q r s z = absurd (omega arith)
      go true false c d p q r s z = absurd (omega arith)
      go false b c d p q r s z = absurd (omega arith)
