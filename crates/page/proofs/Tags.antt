-- The tag of data and a ciphertext is one block more, of both lengths, on GHASH of both, each padded. The tag that a session's finish gives is the page's: the hash that the session holds, settled, is GHASH of data and ciphertext, each padded,
-- and one block more, of both lengths, ends it.
use mathlib.Core.Path.{◌≡◌, sym, ap, ap₂, ◌∙◌}
use mathlib.Core.List.{List, ◌++◌}
use Prim.Native.Nat.{ℕ}
use lib.ListN.{length}
use Rattle.words.specs.Xor.{xors}
use Rattle.words.specs.Bytes.{Row, IsBlock, zeros}
use Rattle.words.proofs.Rows.{zeros_block, xors_row}
use Rattle.ghash.specs.Hash.{lengths, eat, padded, ghash}
use Rattle.ghash.proofs.Hashing.{hash_from_block}
use Rattle.ghash.proofs.Padding.{lengths_row}
use Rattle.digest.specs.Digest.{settled}
use Rattle.session.specs.Session.{Session}
use Rattle.session.specs.Pieces.{closed, tag_of}
use Rattle.start.specs.Start.{sealed_keystream}
use Rattle.page.specs.Page.{cipher_of, tag_for, page_tag}
use Rattle.page.proofs.Phases.{text_sum, ended, phases}
use Rattle.page.proofs.Ciphertext.{cipher_length, stream_block}
use Rattle.page.proofs.Stages.{Stage, ad_of, text_of, sum_at, session_at, closed_at}

module _ (key iv : List ℕ) where
  -- the tag of data and any ciphertext, by the hash of both
  pub tag_by_hash : (d c y : List ℕ) → y ≡ ghash (sealed_keystream key iv 0) (padded d ++ padded c)
      → tag_for key iv d c ≡ xors (eat (sealed_keystream key iv 0) y (lengths (length d) (length c))) (sealed_keystream key iv 1)
  unfolding tag_for
  tag_by_hash d c y e =
      ap (λ (x : List ℕ). xors x (sealed_keystream key iv 1))
      (ended (sealed_keystream key iv 0) d c (lengths (length d) (length c)) y (lengths_row (length d) (length c)).long e)

  -- and by that of their bytes one by one
  pub tag_for_is : (d c : List ℕ)
      → tag_for key iv d c
      ≡ xors
      (eat (sealed_keystream key iv 0)
      (settled (sealed_keystream key iv 0) (text_sum (sealed_keystream key iv 0) d c) (length c))
      (lengths (length d) (length c)))
      (sealed_keystream key iv 1)
  unfolding tag_for
  tag_for_is d c =
      ap (λ (y : List ℕ). xors y (sealed_keystream key iv 1))
      (phases (sealed_keystream key iv 0) d c (lengths (length d) (length c)) (lengths_row (length d) (length c)).long)

  closed_sum : (g : Stage) → (closed (session_at key iv g)).sum ≡ text_sum (sealed_keystream key iv 0) (ad_of g) (cipher_of key iv (text_of g))
  unfolding session_at sum_at
  closed_sum g = ap (λ (s : Session). s.sum) (closed_at key iv g)

  pub tag_at : (g : Stage) → tag_of (session_at key iv g) ≡ page_tag key iv (ad_of g) (text_of g)
  unfolding tag_of session_at
  tag_at g =
      let h : List ℕ = sealed_keystream key iv 0 in
      let c : List ℕ = cipher_of key iv (text_of g) in
      let n : length (text_of g) ≡ length c = sym (cipher_length key iv (text_of g)) in
      ap₂ (λ (y : List ℕ) (m : ℕ). xors (eat h y (lengths (length (ad_of g)) m)) (sealed_keystream key iv 1))
      (ap₂ (settled h) (closed_sum g) n) n
      ∙ sym (tag_for_is (ad_of g) c)

-- a tag is a block
pub tag_block : (key iv d c : List ℕ) → Row 32 256 key → IsBlock iv → IsBlock (tag_for key iv d c)
unfolding tag_for
tag_block key iv d c k v =
    xors_row 8 16
    (hash_from_block (sealed_keystream key iv 0) zeros (padded d ++ padded c ++ lengths (length d) (length c)) zeros_block)
    (stream_block key iv k v 1)
