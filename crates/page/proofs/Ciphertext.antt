-- The ciphertext byte by byte: it goes on from where the text before it ended, it is as long as the text, its bytes are bytes, and a second
-- xor with the same keystream undoes the first.
use mathlib.Core.Path.{◌≡◌, refl, sym, ap, ◌∙◌}
use mathlib.Core.List.{List, [], ◌∷◌, ◌++◌}
use Prim.Native.Nat.{ℕ, zero, suc, ◌+◌, ◌/◌, ◌%◌}
use native.Mathlib.Nat.{add-zero}
use native.Mathlib.Omega.{arith}
use lib.Dec.{lit<}
use lib.ListN.{length, get_or}
use Rattle.words.specs.Xor.{◌⊕◌}
use Rattle.words.specs.Bytes.{Row, IsBlock}
use Rattle.words.proofs.XorLaws.{xor, ⊕-lt}
use Rattle.words.proofs.Rows.{Below}
use Rattle.cipher.specs.Run.{forward, moves}
use Rattle.cipher.proofs.Inverse.{z_block}
use Rattle.start.specs.Start.{Mode.sealed, start, sealed_keystream}
use Rattle.start.proofs.Undo.{drawn_good}
use Rattle.page.specs.Page.{encrypted, cipher_of}

-- the keystream's byte for byte i of the text
abbrev pub stream_byte : (key iv : List ℕ) → ℕ → ℕ
stream_byte key iv i = get_or (sealed_keystream key iv (2 + i / 16)) (i % 16) 0

module _ (key iv : List ℕ) where
  pub encrypted_append : (i : ℕ) (s t : List ℕ) → encrypted key iv i (s ++ t) ≡ encrypted key iv i s ++ encrypted key iv (i + length s) t
  unfolding encrypted
  encrypted_append i [] t = rw add-zero
  encrypted_append i (b ∷ s) t =
      let e : i + suc (length s) ≡ i + 1 + length s = omega arith in
      rw (e, encrypted_append (i + 1) s t)

  pub encrypted_one : (i b : ℕ) → encrypted key iv i (b ∷ []) ≡ (b ⊕ stream_byte key iv i) ∷ []
  unfolding encrypted
  encrypted_one i b = refl

  pub encrypted_length : (i : ℕ) (t : List ℕ) → length (encrypted key iv i t) ≡ length t
  unfolding encrypted
  encrypted_length i [] = refl
  encrypted_length i (b ∷ t) = ap suc (encrypted_length (i + 1) t)

  pub encrypted_twice : (i : ℕ) (t : List ℕ) → encrypted key iv i (encrypted key iv i t) ≡ t
  unfolding encrypted
  encrypted_twice i [] = refl
  encrypted_twice i (b ∷ t) = rw (encrypted_twice (i + 1) t) (ap (λ (x : ℕ). x ∷ t) (simp xor))

  -- where texts of one length have the same byte, so do their ciphertexts
  pub encrypted_byte : (i j : ℕ) (s t : List ℕ) → length s ≡ length t → get_or s j 0 ≡ get_or t j 0
      → get_or (encrypted key iv i s) j 0 ≡ get_or (encrypted key iv i t) j 0
  unfolding encrypted
  encrypted_byte i j [] [] l e = refl
  encrypted_byte i j [] (b ∷ t) l e = absurd (omega arith)
  encrypted_byte i j (a ∷ s) [] l e = absurd (omega arith)
  encrypted_byte i zero (a ∷ s) (b ∷ t) l e = ap (λ (x : ℕ). x ⊕ stream_byte key iv i) e
  encrypted_byte i (suc j) (a ∷ s) (b ∷ t) l e = encrypted_byte (i + 1) j s t (omega arith) e

  -- of a whole page
  pub cipher_length : (t : List ℕ) → length (cipher_of key iv t) ≡ length t
  cipher_length t = encrypted_length 0 t

  pub cipher_twice : (t : List ℕ) → cipher_of key iv (cipher_of key iv t) ≡ t
  cipher_twice t = encrypted_twice 0 t

  pub cipher_lengths : (s t : List ℕ) → length s ≡ length t → length (cipher_of key iv s) ≡ length (cipher_of key iv t)
  cipher_lengths s t l = cipher_length s ∙ l ∙ sym (cipher_length t)

-- ---- the keystream's blocks

pub stream_block : (key iv : List ℕ) → Row 32 256 key → IsBlock iv → (n : ℕ) → IsBlock (sealed_keystream key iv n)
stream_block key iv k v n = z_block (moves forward n (start key iv sealed)) (drawn_good key k iv sealed v n)

-- so the ciphertext's bytes are bytes
pub encrypted_below : (key iv : List ℕ) → Row 32 256 key → IsBlock iv → (i : ℕ) (t : List ℕ) → Below 256 t → Below 256 (encrypted key iv i t)
unfolding encrypted
encrypted_below key iv k v i [] b j = lit< tt
encrypted_below key iv k v i (x ∷ t) b zero = ⊕-lt 8 x (stream_byte key iv i) (b 0) ((stream_block key iv k v (2 + i / 16)).below (i % 16))
encrypted_below key iv k v i (x ∷ t) b (suc j) = encrypted_below key iv k v (i + 1) t (λ m. b (suc m)) j
