-- What is hashed for a tag are whole blocks: data and ciphertext, each padded, and one of their lengths. Where data or ciphertext differ in one block and the lengths are equal,
-- these strings differ in one block, and so their hashes differ; the end pad, which is the same, keeps the tags apart.
use mathlib.Core.Path.{◌≡◌, refl, sym, ap, ap₂, ◌∙◌}
use mathlib.Core.List.{List, [], ◌++◌, append_assoc}
use Prim.Native.Nat.{ℕ, ◌+◌, ◌-◌, ◌/◌, ◌%◌}
use native.Mathlib.Omega.{arith}
use lib.Dec.{lit<}
use lib.ListN.{length, get_or, take, drop, replicate, length-append, length-replicate}
use lib.Seq.{take_at, drop_at}
use Rattle.words.specs.Xor.{xors}
use Rattle.words.specs.Bytes.{Row, IsBlock, zeros}
use Rattle.words.proofs.Rows.{Below, below_append, zeros_block}
use Rattle.words.proofs.Sums.{xors_back}
use Rattle.ghash.specs.Hash.{lengths, padded, ghash}
use Rattle.ghash.proofs.Hashing.{hash_from_block}
use Rattle.ghash.proofs.Padding.{padded_whole, padded_below, lengths_row}
use Rattle.ghash.proofs.Difference.{hash_one_block}
use Rattle.start.specs.Start.{sealed_keystream}
use Rattle.page.specs.Page.{tag_for}
use Rattle.page.proofs.Ciphertext.{stream_block}
use Rattle.claims_altered.specs.Claims.{segment, JustOne}
use Rattle.claims_altered.proofs.Segments.{behind_both, before_both, outside}

-- ---- the hash

module _ (f s t b : List ℕ) (i : ℕ) (f-whole : length f % 16 ≡ 0) (l : length s ≡ length t) (o : JustOne 16 i s t) where
  same_padding : padded t ≡ t ++ replicate ((16 - length s % 16) % 16) 0
  same_padding = ap (λ (n : ℕ). t ++ replicate ((16 - n % 16) % 16) 0) (sym l)

  padded_long : length (padded s) ≡ length (padded t)
  padded_long = simp (length-append, length-replicate, l)

  -- outside the one block every byte is the same
  around : (j : ℕ) → ¬ (j / 16 ≡ length f / 16 + i) → get_or (f ++ (padded s ++ b)) j 0 ≡ get_or (f ++ (padded t ++ b)) j 0
  around j h =
      before_both f (padded s ++ b) (padded t ++ b) j
      (λ m e. let g : get_or (padded s) m 0 ≡ get_or (padded t) m 0 =
      behind_both s t (replicate ((16 - length s % 16) % 16) 0) m l (outside 16 i s t (lit< tt) o m (λ r. h (omega arith)))
      ∙ ap (λ (r : List ℕ). get_or r m 0) (sym same_padding) in
      behind_both (padded s) (padded t) b m padded_long g)

  front_of : (r : List ℕ) → length r ≡ length s → take (length s) (drop (length f) (f ++ (padded r ++ b))) ≡ r
  front_of r e =
      ap (take (length s)) (drop_at f (padded r ++ b) (length f) refl ∙ append_assoc r (replicate ((16 - length r % 16) % 16) 0) b)
      ∙ take_at r (replicate ((16 - length r % 16) % 16) 0 ++ b) (length s) e

  pub hash_apart : (h : List ℕ) → IsBlock h → ¬ (h ≡ zeros) → Below 256 f → Below 256 s → Below 256 t → Below 256 b → length b % 16 ≡ 0
      → ¬ (ghash h (f ++ (padded s ++ b)) ≡ ghash h (f ++ (padded t ++ b)))
  hash_apart h k nz bf bs bt bb whole e =
      let below : (r : List ℕ) → Below 256 r → Below 256 (f ++ (padded r ++ b)) =
      λ r br. below_append 256 f (padded r ++ b) bf (below_append 256 (padded r) b (padded_below r br) bb) in
      let g : f ++ (padded s ++ b) ≡ f ++ (padded t ++ b) =
      hash_one_block h k nz zeros (f ++ (padded s ++ b)) (f ++ (padded t ++ b)) (length f / 16 + i) zeros_block (below s bs) (below t bt)
      (rw (length-append f (padded s ++ b), length-append f (padded t ++ b), length-append (padded s) b, length-append (padded t) b, padded_long) refl)
      (rw (length-append f (padded s ++ b), length-append (padded s) b) (omega (arith, padded_whole s))) around e in
      o.here (ap (segment 16 i) (sym (front_of s refl) ∙ ap (λ (r : List ℕ). take (length s) (drop (length f) r)) g ∙ front_of t (sym l)))

-- ---- the tag

abbrev pub H : (key iv : List ℕ) → List ℕ
H key iv = sealed_keystream key iv 0

module _ (key iv : List ℕ) (kr : Row 32 256 key) (vr : IsBlock iv) where
  pub H_block : IsBlock (H key iv)
  H_block = stream_block key iv kr vr 0

  -- the end pad taken off
  off : (d c : List ℕ) → xors (tag_for key iv d c) (sealed_keystream key iv 1) ≡ ghash (H key iv) (padded d ++ (padded c ++ lengths (length d) (length c)))
  unfolding tag_for
  off d c =
      let n : List ℕ = lengths (length d) (length c) in
      let s : List ℕ = padded d ++ padded c ++ n in
      xors_back (ghash (H key iv) s) (sealed_keystream key iv 1) (hash_from_block (H key iv) zeros s zeros_block) (stream_block key iv kr vr 1)
      ∙ ap (ghash (H key iv)) (append_assoc (padded d) (padded c) n)

  module _ (d c d' c' : List ℕ) (ld : length d ≡ length d') (lc : length c ≡ length c') where
    same_hash : tag_for key iv d c ≡ tag_for key iv d' c'
        → ghash (H key iv) (padded d ++ (padded c ++ lengths (length d) (length c))) ≡ ghash (H key iv) (padded d' ++ (padded c' ++ lengths (length d) (length c)))
    same_hash e =
        sym (off d c) ∙ ap (λ (t : List ℕ). xors t (sealed_keystream key iv 1)) e ∙ off d' c'
        ∙ ap₂ (λ (m n : ℕ). ghash (H key iv) (padded d' ++ (padded c' ++ lengths m n))) (sym ld) (sym lc)

  module _ (nz : ¬ ((H key iv) ≡ zeros)) where
    pub tags_data : (d d' c : List ℕ) (i : ℕ) → Below 256 d → Below 256 d' → Below 256 c → length d ≡ length d' → JustOne 16 i d d'
        → ¬ (tag_for key iv d c ≡ tag_for key iv d' c)
    tags_data d d' c i b b' bc l o e =
        let r = lengths_row (length d) (length c) in
        let n = lengths (length d) (length c) in
        hash_apart [] d d' (padded c ++ n) i refl l o (H key iv) H_block nz (λ j. lit< tt) b b' (below_append 256 (padded c) n (padded_below c bc) r.below)
        (rw (length-append (padded c) n) (omega (arith, padded_whole c, r.long))) (same_hash d c d' c l refl e)

    pub tags_cipher : (d c c' : List ℕ) (i : ℕ) → Below 256 d → Below 256 c → Below 256 c' → length c ≡ length c' → JustOne 16 i c c'
        → ¬ (tag_for key iv d c ≡ tag_for key iv d c')
    tags_cipher d c c' i bd b b' l o e =
        let r = lengths_row (length d) (length c) in
        hash_apart (padded d) c c' (lengths (length d) (length c)) i (padded_whole d) l o (H key iv) H_block nz (padded_below d bd) b b' r.below (rw r.long refl)
        (same_hash d c d c' refl l e)
