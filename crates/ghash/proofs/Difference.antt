-- GHASH is linear in what is hashed: the difference (the ⊕) of two hashes that go on over the same blocks is the difference before them times a power
-- of H, and where two strings differ in one block that is the block's difference times one power more. No power of H but zero's is zero, and there are
-- no zero divisors: so the hashes differ where the blocks do.
use mathlib.Core.Path.{◌≡◌, refl, sym, ap, ap₂, ◌∙◌}
use mathlib.Core.Logic.{◌⊎◌, inl, inr}
use mathlib.Core.List.{List, ◌++◌}
use Prim.Native.Nat.{ℕ, zero, suc, ◌+◌, ◌*◌, ◌/◌, ◌%◌, ◌^◌, ◌<◌, ◌≤◌}
use native.Mathlib.Decide.{dec_lt}
use native.Mathlib.Omega.{arith}
use lib.Dec.{lit<}
use lib.ListN.{length, get_or, take, drop, length-take, length-drop, take-append-drop}
use lib.Seq.{get_or-take, get_or-drop, drop-drop, ext_get_or}
use Rattle.words.specs.Xor.{◌⊕◌}
use Rattle.words.specs.Bytes.{part, IsBlock, zeros}
use Rattle.words.proofs.XorLaws.{xor, ⊕-lt, ⊕-self, ⊕-equal}
use Rattle.words.proofs.Rows.{Below, below_drop, row_take}
use Rattle.words.proofs.Parts.{part_row}
use Rattle.ghash.specs.Field.{product}
use Rattle.ghash.specs.Hash.{big, bigs, ◌•◌, eat, eats, blocks_of, hash_from}
use Rattle.ghash.specs.Laws.{power, HashDifferences}
use Rattle.ghash.proofs.Product.{product_xor, product_one, product_lt}
use Rattle.ghash.proofs.Ring.{product_assoc}
use Rattle.ghash.proofs.Inverse.{no_zero_divisors}
use Rattle.ghash.proofs.BigEndian.{big_lt, big_bigs, bigs_big, big_xors}
use Rattle.ghash.proofs.Hashing.{eat_block, hash_from_block, hash_append, hash_one}

-- ---- powers of H

power_lt : (h n : ℕ) → power h n < 2 ^ 128
unfolding power
power_lt h zero = lit< tt
power_lt h (suc n) = product_lt h (power h n) (power_lt h n)

power_zero : (h n : ℕ) → h < 2 ^ 128 → power h n ≡ 0 → h ≡ 0
unfolding power
power_zero h zero l e = absurd (let z : ◌≡◌ {A = ℕ} 2 0 = ap (λ (m : ℕ). m / 2 ^ 126) e in omega arith)
power_zero h (suc n) l e = go (no_zero_divisors h (power h n) l (power_lt h n) e) (power_zero h n l)
  where
    go : (h ≡ 0) ⊎ (power h n ≡ 0) → (power h n ≡ 0 → h ≡ 0) → h ≡ 0
    go (inl z) f = z
    go (inr z) f = f z

-- ---- blocks and their numbers

pub block_lt : {x : List ℕ} → IsBlock x → big x < 2 ^ 128
block_lt {x} p = big_lt 16 x p

pub block_same : (x y : List ℕ) → IsBlock x → IsBlock y → big x ≡ big y → x ≡ y
block_same x y p q e = sym (bigs_big 16 x p) ∙ ap (bigs 16) e ∙ bigs_big 16 y q

pub block_zero : (x : List ℕ) → IsBlock x → big x ≡ 0 → x ≡ zeros
unfolding bigs
block_zero x p e = sym (bigs_big 16 x p) ∙ ap (bigs 16) e

module _ (h : List ℕ) (k : IsBlock h) where
  pub big_eat : (y x : List ℕ) → IsBlock y → IsBlock x → big (eat h y x) ≡ product (big y ⊕ big x) (big h)
  unfolding eat ◌•◌
  big_eat y x p q = big_bigs 16 _ (product_lt _ (big h) (block_lt k)) ∙ ap (λ (n : ℕ). product n (big h)) (big_xors 16 y x p q)

  -- ---- the difference of two hashes

  -- a step from Y with X, and one from Y' with X'
  eat_difference : (y x y' x' : List ℕ) → IsBlock y → IsBlock x → IsBlock y' → IsBlock x' → (d : ℕ) → (big y ⊕ big x) ⊕ (big y' ⊕ big x') ≡ d
      → big (eat h y x) ⊕ big (eat h y' x') ≡ product d (big h)
  eat_difference y x y' x' p q p' q' d e =
      ap₂ ◌⊕◌ (big_eat y x p q) (big_eat y' x' p' q') ∙ sym (product_xor (big y ⊕ big x) (big y' ⊕ big x') (big h)) ∙ ap (λ (n : ℕ). product n (big h)) e

  -- times H, and then to the n
  one_more : (x x' : List ℕ) (n : ℕ) → IsBlock x → IsBlock x'
      → product (product (big x ⊕ big x') (big h)) (power (big h) n) ≡ product (big x ⊕ big x') (power (big h) (suc n))
  unfolding power
  one_more x x' n p q =
      product_assoc (big x ⊕ big x') (big h) (power (big h) n) (⊕-lt 128 (big x) (big x') (block_lt p) (block_lt q)) (block_lt k) (power_lt (big h) n)

  eats_linear : (m : ℕ) (s : List ℕ) → m * 16 ≤ length s → Below 256 s → (y y' : List ℕ) → IsBlock y → IsBlock y'
      → big (eats h y (blocks_of m s)) ⊕ big (eats h y' (blocks_of m s)) ≡ product (big y ⊕ big y') (power (big h) m)
  unfolding eats blocks_of power
  eats_linear zero s l b y y' p q = sym (product_one (big y ⊕ big y') (⊕-lt 128 (big y) (big y') (block_lt p) (block_lt q)))
  eats_linear (suc m) s l b y y' p q =
      let x = take 16 s in
      let r : IsBlock x = row_take 256 (length s) {s = s} (record { long = refl; below = b }) 16 (lit< tt) (omega arith) in
      eats_linear m (drop 16 s) (simp length-drop (omega arith)) (below_drop 256 16 s b) (eat h y x) (eat h y' x) (eat_block h y x) (eat_block h y' x)
      ∙ ap (λ (n : ℕ). product n (power (big h) m)) (eat_difference y x y' x p r q r (big y ⊕ big y') (simp xor)) ∙ one_more y y' m p q

  -- over one string, from Y and from Y' on
  hash_linear : (w : List ℕ) → Below 256 w → (y y' : List ℕ) → IsBlock y → IsBlock y'
      → big (hash_from h y w) ⊕ big (hash_from h y' w) ≡ product (big y ⊕ big y') (power (big h) (length w / 16))
  unfolding hash_from
  hash_linear w b y y' p q = eats_linear (length w / 16) w (omega arith) b y y' p q

  hash_split : (y u x w : List ℕ) → length u % 16 ≡ 0 → length x ≡ 16
      → hash_from h y (u ++ (x ++ w)) ≡ hash_from h (eat h (hash_from h y u) x) w
  hash_split y u x w e l =
      hash_append h y u (x ++ w) e ∙ hash_append h (hash_from h y u) x w (rw l refl)
      ∙ ap (λ (z : List ℕ). hash_from h z w) (hash_one h (hash_from h y u) x l)

  -- of two strings that differ in one block: the difference of these blocks, times a power of H
  hash_difference : (y u x x' w : List ℕ) → IsBlock y → length u % 16 ≡ 0 → IsBlock x → IsBlock x' → Below 256 w
      → big (hash_from h y (u ++ (x ++ w))) ⊕ big (hash_from h y (u ++ (x' ++ w))) ≡ product (big x ⊕ big x') (power (big h) (suc (length w / 16)))
  hash_difference y u x x' w p e q q' b =
      let z = hash_from h y u in
      let r = hash_from_block h y u p in
      let n = length w / 16 in
      ap₂ (λ (s t : List ℕ). big s ⊕ big t) (hash_split y u x w e q.long) (hash_split y u x' w e q'.long)
      ∙ hash_linear w b (eat h z x) (eat h z x') (eat_block h z x) (eat_block h z x')
      ∙ ap (λ (d : ℕ). product d (power (big h) n)) (eat_difference z x z x' r q r q' (big x ⊕ big x') (simp xor)) ∙ one_more x x' n q q'

  -- ---- where H is not zero

  module _ (nz : ¬ (h ≡ zeros)) where
    -- a difference that a power of H makes zero was zero
    same_before : (x x' s t : List ℕ) (n : ℕ) → IsBlock x → IsBlock x' → big s ⊕ big t ≡ product (big x ⊕ big x') (power (big h) n) → s ≡ t → x ≡ x'
    same_before x x' s t n p q e f =
        go (no_zero_divisors (big x ⊕ big x') (power (big h) n) (⊕-lt 128 (big x) (big x') (block_lt p) (block_lt q)) (power_lt (big h) n)
        (sym e ∙ ap (λ (l : List ℕ). big l ⊕ big t) f ∙ ⊕-self (big t)))
      where
        go : (big x ⊕ big x' ≡ 0) ⊎ (power (big h) n ≡ 0) → x ≡ x'
        go (inl z) = block_same x x' p q (⊕-equal (big x) (big x') z)
        go (inr z) = absurd (nz (block_zero h k (power_zero (big h) n (block_lt k) z)))

    -- two strings of whole blocks that are the same at every byte outside block m, and have the same hash, are the same
    pub hash_one_block : (y s t : List ℕ) (m : ℕ) → IsBlock y → Below 256 s → Below 256 t → length s ≡ length t → length s % 16 ≡ 0
        → ((j : ℕ) → ¬ (j / 16 ≡ m) → get_or s j 0 ≡ get_or t j 0) → hash_from h y s ≡ hash_from h y t → s ≡ t
    hash_one_block y s t m p bs bt l z same e = go (dec_lt (m * 16) (length s))
      where
        cut : (a : List ℕ) → a ≡ take (m * 16) a ++ (part (m * 16) 16 a ++ drop (m * 16 + 16) a)
        cut a =
            sym (take-append-drop (m * 16) a)
            ∙ ap (λ (r : List ℕ). take (m * 16) a ++ r)
            (sym (take-append-drop 16 (drop (m * 16) a)) ∙ ap (λ (r : List ℕ). part (m * 16) 16 a ++ r) (drop-drop 16 (m * 16) a))

        front : take (m * 16) s ≡ take (m * 16) t
        front =
            ext_get_or 0 (take (m * 16) s) (take (m * 16) t) (simp (length-take, l))
            (λ j r. let q : j < m * 16 = omega (arith, length-take (m * 16) s) in
            get_or-take (m * 16) s j 0 q ∙ same j (λ f. omega arith) ∙ sym (get_or-take (m * 16) t j 0 q))

        back : drop (m * 16 + 16) s ≡ drop (m * 16 + 16) t
        back =
            ext_get_or 0 (drop (m * 16 + 16) s) (drop (m * 16 + 16) t) (simp (length-drop, l))
            (λ j r. get_or-drop (m * 16 + 16) s j 0 ∙ same (m * 16 + 16 + j) (λ f. omega arith) ∙ sym (get_or-drop (m * 16 + 16) t j 0))

        go : Dec (m * 16 < length s) → s ≡ t
        go (no q) = ext_get_or 0 s t l (λ j r. same j (λ f. omega arith))
        go (yes r) =
            let u = take (m * 16) s in
            let w = drop (m * 16 + 16) s in
            let x = part (m * 16) 16 s in
            let x' = part (m * 16) 16 t in
            let t-is : t ≡ u ++ (x' ++ w) = cut t ∙ ap₂ (λ (a c : List ℕ). a ++ (x' ++ c)) (sym front) (sym back) in
            let q : IsBlock x = part_row 256 (length s) {s = s} (lit< tt) (record { long = refl; below = bs }) (m * 16) 16 (omega arith) in
            let q' : IsBlock x' = part_row 256 (length s) {s = t} (lit< tt) (record { long = sym l; below = bt }) (m * 16) 16 (omega arith) in
            let long : length u % 16 ≡ 0 = simp length-take (omega arith) in
            let f : x ≡ x' =
            same_before x x' (hash_from h y (u ++ (x ++ w))) (hash_from h y (u ++ (x' ++ w))) (suc (length w / 16)) q q'
            (hash_difference y u x x' w p long q q' (below_drop 256 (m * 16 + 16) s bs))
            (ap (hash_from h y) (sym (cut s)) ∙ e ∙ ap (hash_from h y) t-is) in
            cut s ∙ ap (λ (a : List ℕ). u ++ (a ++ w)) f ∙ sym t-is

pub hash_differences : HashDifferences
hash_differences =
    record {
      going_on = λ h k s b y y' p q. hash_linear h k s b y y' p q;
      one_block = λ h k y f x x' b p e q q' l. hash_difference h k y f x x' b p e q q' l;
    }
