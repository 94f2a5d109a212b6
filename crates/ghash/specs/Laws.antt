-- What is stated of the product and of GHASH beside the contracts, for document 02's S-9. A block is a number below 2^128, as in Field.antt. With ⊕ for the sum,
-- which words has the laws of, the blocks are a field, as SP 800-38D has it in section 6.3 (`block_field` of proofs/BlockField.antt proves it); and GHASH is
-- linear in what is hashed (`hash_differences` of proofs/Difference.antt). That the blocks stand for polynomials modulo x^128 + x^7 + x^2 + x + 1 is left out.
use Rattle.std.specs.Prelude.{ℕ, zero, suc, ◌/◌, ◌%◌, ◌^◌, ◌<◌, ◌≡◌, ◌⊎◌, List, ◌++◌, length, get_or}
use Rattle.words.specs.Xor.{◌⊕◌}
use Rattle.words.specs.Bytes.{IsBlock}
use Rattle.ghash.specs.Field.{product}
use Rattle.ghash.specs.Hash.{big, hash_from}

-- ---- the product

-- the block 80 00 .. 00
abbrev pub one : ℕ
one = 2 ^ 127

pub record BlockField : Type 0 where
  pub closed : (x y : ℕ) → x < 2 ^ 128 → y < 2 ^ 128 → product x y < 2 ^ 128
  pub commutative : (x y : ℕ) → x < 2 ^ 128 → y < 2 ^ 128 → product x y ≡ product y x
  pub associative : (x y z : ℕ) → x < 2 ^ 128 → y < 2 ^ 128 → z < 2 ^ 128 → product (product x y) z ≡ product x (product y z)
  pub distributes : (x y z : ℕ) → product x (y ⊕ z) ≡ product x y ⊕ product x z
  pub unit : (x : ℕ) → x < 2 ^ 128 → product x one ≡ x
  -- Every block but zero has an inverse, so that no two blocks but zero have the product zero.
  pub inverses : (x : ℕ) → x < 2 ^ 128 → ¬ (x ≡ 0) → (y : ℕ) × (y < 2 ^ 128) × (product x y ≡ one)
  pub no_zero_divisors : (x y : ℕ) → x < 2 ^ 128 → y < 2 ^ 128 → product x y ≡ 0 → (x ≡ 0) ⊎ (y ≡ 0)

-- ---- GHASH

-- H to the n
unfoldable pub power : (h n : ℕ) → ℕ
power h zero = one
power h (suc n) = product h (power h n)

-- The difference of two blocks is their ⊕. Under every block H:
pub record HashDifferences : Type 0 where
  -- hashes that go on over the same string differ by what they differed by before, times H once for each of its whole blocks;
  pub going_on : (h : List ℕ) → IsBlock h → (s : List ℕ) → ((i : ℕ) → get_or s i 0 < 256) → (y y' : List ℕ) → IsBlock y → IsBlock y'
      → big (hash_from h y s) ⊕ big (hash_from h y' s) ≡ product (big y ⊕ big y') (power (big h) (length s / 16))
  -- hashes, from one Y on, of two strings that differ in one block differ by what these blocks do, times H once for it and once for each whole block
  -- behind it.
  pub one_block : (h : List ℕ) → IsBlock h → (y front x x' behind : List ℕ) → IsBlock y → length front % 16 ≡ 0 → IsBlock x → IsBlock x'
      → ((i : ℕ) → get_or behind i 0 < 256)
      → big (hash_from h y (front ++ (x ++ behind))) ⊕ big (hash_from h y (front ++ (x' ++ behind)))
      ≡ product (big x ⊕ big x') (power (big h) (suc (length behind / 16)))
