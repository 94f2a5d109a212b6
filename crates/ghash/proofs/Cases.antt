-- Document 01's cases of the product, and the hash of a published example: test case 2 of McGrew and Viega's GCM paper.
use mathlib.Core.Path.{◌≡◌, refl, ap, ◌∙◌}
use mathlib.Core.List.{List, [], ◌∷◌, ◌++◌}
use Prim.Native.Nat.{ℕ}
use lib.ListN.{replicate}
use Rattle.words.specs.Xor.{◌⊕◌, xors}
use Rattle.words.specs.Bytes.{IsBlock}
use Rattle.ghash.specs.Field.{times_x, steps, product}
use Rattle.ghash.specs.Hash.{big, bigs, ◌•◌, eat, eats, blocks_of, hash_from, ghash}
use Rattle.ghash.specs.Laws.{one}
use Rattle.ghash.proofs.BigEndian.{big_lt, bigs_big}
use Rattle.ghash.proofs.Product.{one_product, product_one}

-- 80 00.. is the one
abbrev pub One : Type 0
One = (x : List ℕ) → IsBlock x → (x • (0x80 ∷ replicate 15 0) ≡ x) × ((0x80 ∷ replicate 15 0) • x ≡ x)

big_one : big (0x80 ∷ replicate 15 0) ≡ one
unfolding big
big_one = refl

pub one_is : One
unfolding ◌•◌
one_is x b = (
  ap (λ (n : ℕ). bigs 16 (product (big x) n)) big_one ∙ ap (bigs 16) (product_one (big x) (big_lt 16 x b)) ∙ bigs_big 16 x b,
  ap (λ (n : ℕ). bigs 16 (product n (big x))) big_one ∙ ap (bigs 16) (one_product (big x)) ∙ bigs_big 16 x b,
)

-- 00..01 times 40 00.. is e1 00..
abbrev pub Rightmost : Type 0
Rightmost = (replicate 15 0 ++ (0x01 ∷ [])) • (0x40 ∷ replicate 15 0) ≡ 0xe1 ∷ replicate 15 0

pub rightmost_is : Rightmost
unfolding ◌•◌ product steps times_x ◌⊕◌ big bigs
rightmost_is = refl

-- H, a block of ciphertext, and the block of lengths: no data, 128 bits
abbrev pub Published : Type 0
Published =
    ghash (bigs 16 0x66e94bd4ef8a2c3b884cfa59ca342b2e) (bigs 16 0x0388dace60b6a392f328c2b971b2fe78 ++ bigs 8 0 ++ bigs 8 128)
    ≡ bigs 16 0xf38cbb1ad69223dcc3457ae5b6b0f885

pub published_is : Published
unfolding hash_from blocks_of eats eat ◌•◌ product steps times_x ◌⊕◌ xors big bigs
published_is = refl
