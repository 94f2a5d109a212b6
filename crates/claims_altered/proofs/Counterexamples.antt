-- Under H = 0 every hash is zero. A block hashed from itself leaves zero, so that 80 00 .. 00 and then H, whether in the data or the one in the data and the other in
-- the ciphertext, hash as two blocks of zeros do. And a block that times H is the block of the lengths leaves nothing of either.
use mathlib.Core.Path.{◌≡◌, refl, sym, ap, ap₂, ◌∙◌}
use mathlib.Core.List.{List, [], ◌∷◌, ◌++◌}
use Prim.Native.Nat.{ℕ, ◌^◌, ◌<◌}
use lib.Dec.{lit<}
use lib.ListN.{length, replicate, length-append}
use Rattle.words.specs.Xor.{xors}
use Rattle.words.specs.Bytes.{Row, IsBlock, zeros}
use Rattle.words.proofs.XorLaws.{⊕-self}
use Rattle.words.proofs.Rows.{zeros_block, below_test, xors_comm, xors_zeros}
use Rattle.ghash.specs.Field.{product}
use Rattle.ghash.specs.Hash.{big, bigs, lengths, ◌•◌, eat, hash_from, padded}
use Rattle.ghash.specs.Laws.{one}
use Rattle.ghash.proofs.Product.{product_zero, product_one, product_lt}
use Rattle.ghash.proofs.Ring.{product_zero_right, product_comm, product_assoc}
use Rattle.ghash.proofs.Inverse.{inverses}
use Rattle.ghash.proofs.Cases.{one_is}
use Rattle.ghash.proofs.BigEndian.{bigs_row, big_bigs, bigs_big}
use Rattle.ghash.proofs.Elements.{big_zeros}
use Rattle.ghash.proofs.Hashing.{eat_block, hash_none, hash_one, hash_append}
use Rattle.ghash.proofs.Padding.{padded_whole, padded_none, lengths_row}
use Rattle.ghash.proofs.Difference.{block_lt, block_zero, big_eat}
use Rattle.start.specs.Start.{sealed_keystream}
use Rattle.page.specs.Page.{tag_for}
use Rattle.page.proofs.Tags.{tag_by_hash}
use Rattle.claims.proofs.Within.{row_of}
use Rattle.claims_altered.specs.Claims.{Counterexamples}
use Rattle.claims_altered.proofs.Tags.{H, H_block}

-- ---- a step of the hash

-- 80 00 .. 00
abbrev first : List ℕ
first = 0x80 ∷ replicate 15 0

first_block : IsBlock first
first_block = record { long = refl; below = below_test 256 first (lit< tt) refl }

-- from anything, under H = 0
under_zero : (y x : List ℕ) → eat zeros y x ≡ zeros
unfolding eat ◌•◌ bigs
under_zero y x = ap (λ (n : ℕ). bigs 16 (product (big (xors y x)) n)) big_zeros ∙ ap (bigs 16) (product_zero_right (big (xors y x)))

-- the block that times H is this one, by H's inverse w
module _ (h l : List ℕ) (k : IsBlock h) (r : IsBlock l) (w : ℕ) (small : w < 2 ^ 128) (inverse : product (big h) w ≡ one) where
  abbrev quotient : List ℕ
  quotient = bigs 16 (product (big l) w)

  quotient_times : quotient • h ≡ l
  unfolding ◌•◌
  quotient_times =
      ap (bigs 16)
      (ap (λ (n : ℕ). product n (big h)) (big_bigs 16 (product (big l) w) (product_lt (big l) w small))
      ∙ product_assoc (big l) w (big h) (block_lt r) small (block_lt k) ∙ ap (product (big l)) (product_comm w (big h) small (block_lt k) ∙ inverse)
      ∙ product_one (big l) (block_lt r))
      ∙ bigs_big 16 l r

divided : (h l : List ℕ) → IsBlock h → IsBlock l → ¬ (h ≡ zeros) → (x : List ℕ) × IsBlock x × (x • h ≡ l)
divided h l k r nz =
    let i = inverses (big h) (block_lt k) (λ z. nz (block_zero h k z)) in
    (quotient h l k r i.0 i.1 i.2, bigs_row 16 (product (big l) i.0), quotient_times h l k r i.0 i.1 i.2)

module _ (h : List ℕ) (k : IsBlock h) where
  -- a block from itself
  from_itself : (y : List ℕ) → IsBlock y → eat h y y ≡ zeros
  from_itself y p =
      block_zero (eat h y y) (eat_block h y y)
      (big_eat h k y y p p ∙ ap (λ (n : ℕ). product n (big h)) (⊕-self (big y)) ∙ product_zero (big h))

  -- a block from zero
  from_zeros : (x : List ℕ) → IsBlock x → eat h zeros x ≡ x • h
  unfolding eat
  from_zeros x p = ap (λ (s : List ℕ). s • h) (xors_comm zeros x ∙ xors_zeros 16 x p.long)

  one_hashed : (y x : List ℕ) → IsBlock x → hash_from h y (padded x) ≡ eat h y x
  one_hashed y x p = ap (hash_from h y) (padded_none x (rw p.long refl)) ∙ hash_one h y x p.long

  two_hashed : (x y : List ℕ) → IsBlock x → IsBlock y → hash_from h zeros (padded (x ++ y)) ≡ eat h (eat h zeros x) y
  two_hashed x y p q =
      ap (hash_from h zeros) (padded_none (x ++ y) (rw (length-append x y, p.long, q.long) refl))
      ∙ hash_append h zeros x y (rw p.long refl) ∙ hash_one h (hash_from h zeros x) y q.long
      ∙ ap (λ (z : List ℕ). eat h z y) (hash_one h zeros x p.long)

  -- zeros and zeros; 80 00 .. 00 and H
  both_zeros : eat h (eat h zeros zeros) zeros ≡ zeros
  both_zeros = ap (λ (y : List ℕ). eat h y zeros) (from_itself zeros zeros_block) ∙ from_itself zeros zeros_block

  first_and_h : eat h (eat h zeros first) h ≡ zeros
  first_and_h = ap (λ (y : List ℕ). eat h y h) (from_zeros first first_block ∙ (one_is h k).1) ∙ from_itself h k

-- ---- pages

module _ (key iv : List ℕ) where
  -- the hash of data, and of a ciphertext behind it
  abbrev over_data : List ℕ → List ℕ
  over_data d = hash_from (H key iv) zeros (padded d)

  abbrev over_both : (d c : List ℕ) → List ℕ
  over_both d c = hash_from (H key iv) (over_data d) (padded c)

  -- one block of the lengths, and the end pad
  abbrev ended : (y : List ℕ) (d c : ℕ) → List ℕ
  ended y d c = xors (eat (H key iv) y (lengths d c)) (sealed_keystream key iv 1)

  tag_is : (d c : List ℕ) → tag_for key iv d c ≡ ended (over_both d c) (length d) (length c)
  tag_is d c = tag_by_hash key iv d c (over_both d c) (sym (hash_append (H key iv) zeros (padded d) (padded c) (padded_whole d)))

  h_zero : H key iv ≡ zeros → (d c d' c' : List ℕ) → tag_for key iv d c ≡ tag_for key iv d' c'
  h_zero z d c d' c' = go d c ∙ sym (go d' c')
    where
      go : (a b : List ℕ) → tag_for key iv a b ≡ xors zeros (sealed_keystream key iv 1)
      go a b =
          let l = lengths (length a) (length b) in
          let y = over_both a b in
          tag_is a b ∙ ap (λ (n : List ℕ). xors (eat n y l) (sealed_keystream key iv 1)) z
          ∙ ap (λ (n : List ℕ). xors n (sealed_keystream key iv 1)) (under_zero y l)

  module _ (kr : Row 32 256 key) (vr : IsBlock iv) where
    k : IsBlock (H key iv)
    k = H_block key iv kr vr

    two_blocks : (c : List ℕ) → tag_for key iv (zeros ++ zeros) c ≡ tag_for key iv (first ++ H key iv) c
    two_blocks c =
        let a : over_data (zeros ++ zeros) ≡ zeros = two_hashed (H key iv) k zeros zeros zeros_block zeros_block ∙ both_zeros (H key iv) k in
        let b : over_data (first ++ H key iv) ≡ zeros = two_hashed (H key iv) k first (H key iv) first_block k ∙ first_and_h (H key iv) k in
        let l : length (zeros ++ zeros) ≡ length (first ++ H key iv) = sym (length-append first (H key iv) ∙ rw k.long refl) in
        tag_is (zeros ++ zeros) c ∙ ap₂ (λ (y : List ℕ) (n : ℕ). ended (hash_from (H key iv) y (padded c)) n (length c)) (a ∙ sym b) l
        ∙ sym (tag_is (first ++ H key iv) c)

    -- data and ciphertext of one block each
    over_blocks : (x y : List ℕ) → IsBlock x → IsBlock y → over_both x y ≡ eat (H key iv) (eat (H key iv) zeros x) y
    over_blocks x y p q = one_hashed (H key iv) k (over_data x) y q ∙ ap (λ (z : List ℕ). eat (H key iv) z y) (one_hashed (H key iv) k zeros x p)

    one_of_each : tag_for key iv zeros zeros ≡ tag_for key iv first (H key iv)
    one_of_each =
        let e : over_both zeros zeros ≡ over_both first (H key iv) =
        over_blocks zeros zeros zeros_block zeros_block ∙ both_zeros (H key iv) k ∙ sym (over_blocks first (H key iv) first_block k ∙ first_and_h (H key iv) k) in
        tag_is zeros zeros ∙ ap₂ (λ (y : List ℕ) (n : ℕ). ended y 16 n) e (sym k.long) ∙ sym (tag_is first (H key iv))

    -- a page whose hash is the block of its lengths has the empty page's tag
    same_as_empty : (d c : List ℕ) → over_both d c ≡ lengths (length d) (length c) → tag_for key iv [] [] ≡ tag_for key iv d c
    unfolding bigs
    same_as_empty d c e =
        let l = lengths (length d) (length c) in
        let a : eat (H key iv) (over_both [] []) (lengths 0 0) ≡ zeros =
        ap (λ (y : List ℕ). eat (H key iv) y zeros) (hash_none (H key iv) (over_data []) ∙ hash_none (H key iv) zeros)
        ∙ from_itself (H key iv) k zeros zeros_block in
        let b : eat (H key iv) (over_both d c) l ≡ zeros =
        ap (λ (y : List ℕ). eat (H key iv) y l) e ∙ from_itself (H key iv) k l (lengths_row (length d) (length c)) in
        tag_is [] [] ∙ ap (λ (z : List ℕ). xors z (sealed_keystream key iv 1)) (a ∙ sym b) ∙ sym (tag_is d c)

    -- one block alone, of the data or of the ciphertext
    alone : (x : List ℕ) → IsBlock x → hash_from (H key iv) zeros (padded x) ≡ x • H key iv
    alone x p = one_hashed (H key iv) k zeros x p ∙ from_zeros (H key iv) k x p

    unequal_data : ¬ (H key iv ≡ zeros) → (x : List ℕ) × IsBlock x × (x • H key iv ≡ lengths 16 0) × (tag_for key iv [] [] ≡ tag_for key iv x [])
    unequal_data nz =
        let d = divided (H key iv) (lengths 16 0) k (lengths_row 16 0) nz in (
          d.0,
          d.1,
          d.2,
          same_as_empty d.0 []
              (hash_none (H key iv) (over_data d.0) ∙ alone d.0 d.1 ∙ d.2 ∙ ap (λ (n : ℕ). lengths n 0) (sym d.1.long)),
        )

    unequal_cipher : ¬ (H key iv ≡ zeros) → (x : List ℕ) × IsBlock x × (x • H key iv ≡ lengths 0 16) × (tag_for key iv [] [] ≡ tag_for key iv [] x)
    unequal_cipher nz =
        let d = divided (H key iv) (lengths 0 16) k (lengths_row 0 16) nz in (
          d.0,
          d.1,
          d.2,
          same_as_empty [] d.0
              (ap (λ (y : List ℕ). hash_from (H key iv) y (padded d.0)) (hash_none (H key iv) zeros) ∙ alone d.0 d.1 ∙ d.2
              ∙ ap (λ (n : ℕ). lengths 0 n) (sym d.1.long)),
        )

pub counterexamples : Counterexamples
counterexamples =
    record {
      h_zero = λ key iv z p q. h_zero key.list iv.list z p.ad.list p.cipher.list q.ad.list q.cipher.list;
      two_blocks = λ key iv l c. two_blocks key.list iv.list (row_of key l.key_long) (row_of iv l.iv_long) c;
      one_of_each = λ key iv l. one_of_each key.list iv.list (row_of key l.key_long) (row_of iv l.iv_long);
      unequal_data = λ key iv l nz. unequal_data key.list iv.list (row_of key l.key_long) (row_of iv l.iv_long) nz;
      unequal_cipher = λ key iv l nz. unequal_cipher key.list iv.list (row_of key l.key_long) (row_of iv l.iv_long) nz;
    }
