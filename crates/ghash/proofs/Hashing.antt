-- The hash over blocks: each step gives a block, and a string's hash goes on from that of its whole blocks before. The code's step is the
-- definition's, since bytes and number determine each other.
use mathlib.Core.Path.{◌≡◌, refl, sym, ap, ap₂, ◌∙◌}
use mathlib.Core.List.{List, [], ◌∷◌, ◌++◌}
use Prim.Native.Nat.{ℕ, zero, suc, ◌+◌, ◌*◌, ◌/◌, ◌%◌}
use native.Mathlib.Omega.{arith}
use native.Mathlib.Nat.{zero-add, suc-add}
use lib.ListN.{length, drop, length-append, length-drop}
use lib.Seq.{take_all, take-append-le, drop-append-le}
use Rattle.words.specs.Xor.{xors}
use Rattle.words.specs.Bytes.{IsBlock}
use Rattle.ghash.specs.Field.{product}
use Rattle.ghash.specs.Hash.{big, bigs, ◌•◌, eat, eats, blocks_of, hash_from}
use Rattle.ghash.specs.Machine.{bytes_of_element}
use Rattle.ghash.specs.declared.Element.{Element}
use Rattle.ghash.proofs.BigEndian.{bigs_row, bigs_big}
use Rattle.ghash.proofs.Elements.{element_block}

-- ---- blocks stay blocks

pub •-block : (x y : List ℕ) → IsBlock (x • y)
unfolding ◌•◌
•-block x y = bigs_row 16 (product (big x) (big y))

pub eat_block : (h y x : List ℕ) → IsBlock (eat h y x)
unfolding eat
eat_block h y x = •-block (xors y x) h

pub eats_block : (h y : List ℕ) (xs : List (List ℕ)) → IsBlock y → IsBlock (eats h y xs)
unfolding eats
eats_block h y [] b = b
eats_block h y (x ∷ xs) b = eats_block h (eat h y x) xs (eat_block h y x)

pub hash_from_block : (h y s : List ℕ) → IsBlock y → IsBlock (hash_from h y s)
unfolding hash_from
hash_from_block h y s b = eats_block h y (blocks_of (length s / 16) s) b

-- ---- a string's hash goes on

blocks_of_append : (m n : ℕ) (s t : List ℕ) → length s ≡ m * 16 → blocks_of (m + n) (s ++ t) ≡ blocks_of m s ++ blocks_of n t
unfolding blocks_of
blocks_of_append zero n [] t e = ap (λ (k : ℕ). blocks_of k t) (zero-add n)
blocks_of_append zero n (b ∷ s) t e = absurd (omega arith)
blocks_of_append (suc m) n s t e =
    ap (λ (k : ℕ). blocks_of k (s ++ t)) (suc-add m n)
    ∙ ap₂ (λ (x : List ℕ) (l : List (List ℕ)). x ∷ l) (take-append-le 16 s t (omega arith))
    (ap (blocks_of (m + n)) (drop-append-le 16 s t (omega arith)) ∙ blocks_of_append m n (drop 16 s) t (simp length-drop (omega arith)))

eats_append : (h y : List ℕ) (xs zs : List (List ℕ)) → eats h y (xs ++ zs) ≡ eats h (eats h y xs) zs
unfolding eats
eats_append h y [] zs = refl
eats_append h y (x ∷ xs) zs = eats_append h (eat h y x) xs zs

pub hash_append : (h y s t : List ℕ) → length s % 16 ≡ 0 → hash_from h y (s ++ t) ≡ hash_from h (hash_from h y s) t
unfolding hash_from
hash_append h y s t e =
    let n : length (s ++ t) / 16 ≡ length s / 16 + length t / 16 = rw (length-append s t) (omega arith) in
    let m : length s ≡ length s / 16 * 16 = omega arith in
    ap (eats h y) (ap (λ (k : ℕ). blocks_of k (s ++ t)) n ∙ blocks_of_append (length s / 16) (length t / 16) s t m)
    ∙ eats_append h y (blocks_of (length s / 16) s) (blocks_of (length t / 16) t)

pub hash_none : (h y : List ℕ) → hash_from h y [] ≡ y
unfolding hash_from blocks_of eats
hash_none h y = refl

pub hash_one : (h y x : List ℕ) → length x ≡ 16 → hash_from h y x ≡ eat h y x
unfolding hash_from blocks_of eats
hash_one h y x e = rw e (ap (eat h y) (take_all 16 x (omega arith)))

-- ---- the code's step

pub eaten : (r s y x h : Element) → bytes_of_element s ≡ xors (bytes_of_element y) (bytes_of_element x)
    → big (bytes_of_element r) ≡ product (big (bytes_of_element s)) (big (bytes_of_element h)) → bytes_of_element r ≡ eat (bytes_of_element h) (bytes_of_element y) (bytes_of_element x)
unfolding eat ◌•◌
eaten r s y x h e p =
    sym (bigs_big 16 (bytes_of_element r) (element_block r)) ∙ ap (bigs 16) (p ∙ ap (λ (t : List ℕ). product (big t) (big (bytes_of_element h))) e)
