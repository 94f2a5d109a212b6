-- Strings of one length have the same segment where they have the same bytes in it. So bytes altered within one block alter one block; a ciphertext, which goes byte by
-- byte, differs from another in the segments in which their texts do; and a byte that differs is one block that does.
use mathlib.Core.Path.{◌≡◌, refl, sym, ap, ◌∙◌}
use mathlib.Core.List.{List, [], ◌∷◌, ◌++◌}
use Prim.Native.Nat.{ℕ, zero, suc, ◌+◌, ◌-◌, ◌*◌, ◌/◌, ◌%◌, ◌<◌, ◌≤◌}
use native.Mathlib.Nat.{mod-lt, div-add-mod'}
use native.Mathlib.Decide.{dec_lt}
use native.Mathlib.Omega.{arith}
use lib.Dec.{lit<}
use lib.ListN.{length, get_or, drop, length-take, length-drop, length-append, get_or-append, get_or-eq_default}
use lib.Seq.{get_or-append-add, ext_get_or}
use Rattle.words.proofs.Parts.{part_at}
use Rattle.page.specs.Page.{cipher_of}
use Rattle.page.proofs.Ciphertext.{encrypted_byte, cipher_lengths, cipher_twice}
use Rattle.claims_altered.specs.Claims.{segment, JustOne}

-- ---- bytes

-- with the same behind both
pub behind_both : (s t p : List ℕ) (j : ℕ) → length s ≡ length t → get_or s j 0 ≡ get_or t j 0 → get_or (s ++ p) j 0 ≡ get_or (t ++ p) j 0
behind_both [] [] p j l e = refl
behind_both [] (b ∷ t) p j l e = absurd (omega arith)
behind_both (a ∷ s) [] p j l e = absurd (omega arith)
behind_both (a ∷ s) (b ∷ t) p zero l e = e
behind_both (a ∷ s) (b ∷ t) p (suc j) l e = behind_both s t p j (omega arith) e

-- and with the same in front
pub before_both : (f s t : List ℕ) (j : ℕ) → ((m : ℕ) → length f + m ≡ j → get_or s m 0 ≡ get_or t m 0) → get_or (f ++ s) j 0 ≡ get_or (f ++ t) j 0
before_both f s t j same = go (dec_lt j (length f))
  where
    go : Dec (j < length f) → get_or (f ++ s) j 0 ≡ get_or (f ++ t) j 0
    go (yes q) = get_or-append f s 0 j q ∙ sym (get_or-append f t 0 j q)
    go (no q) =
        let m : ℕ = j - length f in
        let e : length f + m ≡ j = omega arith in
        rw (sym e) (get_or-append-add f s m 0 ∙ same m e ∙ sym (get_or-append-add f t m 0))

-- ---- segments and bytes

bytes_same : (n k : ℕ) (s t : List ℕ) → segment n k s ≡ segment n k t → (j : ℕ) → j < n → get_or s (k * n + j) 0 ≡ get_or t (k * n + j) 0
bytes_same n k s t e j h = part_at s (k * n) n j h ∙ ap (λ (l : List ℕ). get_or l j 0) e ∙ sym (part_at t (k * n) n j h)

segment_same : (n k : ℕ) (s t : List ℕ) → length s ≡ length t → ((j : ℕ) → j < n → get_or s (k * n + j) 0 ≡ get_or t (k * n + j) 0)
    → segment n k s ≡ segment n k t
segment_same n k s t l f =
    ext_get_or 0 (segment n k s) (segment n k t) (simp (length-take, length-drop, l))
    (λ j r. let h : j < n = omega (arith, length-take n (drop (k * n) s)) in sym (part_at s (k * n) n j h) ∙ f j h ∙ part_at t (k * n) n j h)

-- outside the one segment every byte is the same
pub outside : (n i : ℕ) (s t : List ℕ) → 0 < n → JustOne n i s t → (j : ℕ) → ¬ (j / n ≡ i) → get_or s j 0 ≡ get_or t j 0
outside n i s t z o j h =
    let e : j / n * n + j % n ≡ j = div-add-mod' j n in
    ap (λ (m : ℕ). get_or s m 0) (sym e) ∙ bytes_same n (j / n) s t (o.elsewhere (j / n) h) (j % n) (mod-lt j z) ∙ ap (λ (m : ℕ). get_or t m 0) e

-- one byte is one block
pub byte_block : (i : ℕ) (s t : List ℕ) → length s ≡ length t → JustOne 1 i s t → JustOne 16 (i / 16) s t
byte_block i s t l o =
    record {
      here = λ e. o.here (segment_same 1 i s t l (λ j h. inside e j h));
      elsewhere = λ k h. segment_same 16 k s t l (λ j r. outside 1 i s t (lit< tt) o (k * 16 + j) (λ f. h (omega arith)));
    }
  where
    inside : segment 16 (i / 16) s ≡ segment 16 (i / 16) t → (j : ℕ) → j < 1 → get_or s (i * 1 + j) 0 ≡ get_or t (i * 1 + j) 0
    inside e j h =
        let f : i / 16 * 16 + i % 16 ≡ i * 1 + j = omega arith in
        rw f at (bytes_same 16 (i / 16) s t e (i % 16) (mod-lt i (lit< tt)))

-- ---- bytes altered within one block

module _ (i : ℕ) (front x x' behind : List ℕ) (from : i * 16 ≤ length front) (to : length front + length x ≤ i * 16 + 16) (l : length x ≡ length x') where
  abbrev placed : List ℕ → List ℕ
  placed y = front ++ (y ++ behind)

  -- a byte of the altered ones
  inner : (y : List ℕ) (j : ℕ) → j < length y → get_or (placed y) (length front + j) 0 ≡ get_or y j 0
  inner y j h = get_or-append-add front (y ++ behind) j 0 ∙ get_or-append y behind 0 j h

  -- and any in another block
  other : (j : ℕ) → ¬ (j / 16 ≡ i) → get_or (placed x) j 0 ≡ get_or (placed x') j 0
  other j h =
      before_both front (x ++ behind) (x' ++ behind) j
      (λ m e. let r : length x ≤ m = omega arith in
      behind_both x x' behind m l (get_or-eq_default x 0 r ∙ sym (get_or-eq_default x' 0 (rw (sym l) r))))

  pub within_block : ¬ (x ≡ x') → JustOne 16 i (placed x) (placed x')
  within_block n =
      record {
        here = λ e. n (ext_get_or 0 x x' l (λ j h. sym (inner x j h) ∙ here e j h ∙ inner x' j (rw (sym l) h)));
        elsewhere = λ k h. segment_same 16 k (placed x) (placed x') (simp (length-append, l)) (λ j r. other (k * 16 + j) (λ f. h (omega arith)));
      }
    where
      here : segment 16 i (placed x) ≡ segment 16 i (placed x') → (j : ℕ) → j < length x → get_or (placed x) (length front + j) 0 ≡ get_or (placed x') (length front + j) 0
      here e j h =
          let f : i * 16 + (length front - i * 16 + j) ≡ length front + j = omega arith in
          rw f at (bytes_same 16 i (placed x) (placed x') e (length front - i * 16 + j) (omega arith))

-- ---- a ciphertext

module _ (key iv : List ℕ) where
  segment_kept : (n k : ℕ) (s t : List ℕ) → length s ≡ length t → segment n k s ≡ segment n k t
      → segment n k (cipher_of key iv s) ≡ segment n k (cipher_of key iv t)
  segment_kept n k s t l e =
      segment_same n k (cipher_of key iv s) (cipher_of key iv t) (cipher_lengths key iv s t l)
      (λ j h. encrypted_byte key iv 0 (k * n + j) s t l (bytes_same n k s t e j h))

  pub just_one_kept : (n i : ℕ) (s t : List ℕ) → length s ≡ length t → JustOne n i s t → JustOne n i (cipher_of key iv s) (cipher_of key iv t)
  just_one_kept n i s t l o =
      record {
        here = λ e. o.here
            (ap (segment n i) (sym (cipher_twice key iv s)) ∙ segment_kept n i (cipher_of key iv s) (cipher_of key iv t) (cipher_lengths key iv s t l) e
            ∙ ap (segment n i) (cipher_twice key iv t));
        elsewhere = λ k h. segment_kept n k s t l (o.elsewhere k h);
      }
