-- The machine's block, four words of 32 bits, against its 16 bytes: where it is read from, where it is written to, and what is done to two
-- word by word.
use Rattle.std.proofs.Common.{◌≡◌, ℕ, zero, suc, ◌+◌, ◌*◌, ◌^◌, ◌<◌, ◌≤◌, Bool, true, ◌&&◌, eqb, List, [], ◌∷◌, length, get_or, take, drop, sym, refl, ap, ◌∙◌, ap₂, arith, lit<, length-drop, length-take, eq-eqb, eqb-true}
use lib.Seq.{sets}
use Rattle.words.specs.Xor.{pointwise}
use Rattle.words.specs.Bytes.{little, number, littles, numbers, same, Row, IsBlock}
use Rattle.words.specs.Sums.{wordwise}
use Rattle.words.specs.Machine.{words_of, bytes_of}
use Rattle.words.specs.declared.Block.{Block}
use Rattle.words.proofs.Tests.{and_left, and_right, both_ways, same_refl, same_eq}
use Rattle.words.proofs.Rows.{Below, below_take, below_drop, tab, window}
use Rattle.words.proofs.Bytes.{littles_numbers, numbers_littles}
use Rattle.words.proofs.Sums.{block_of}

pub bytes_of_block : (x : Block) → IsBlock (bytes_of x)
unfolding bytes_of
bytes_of_block x = block_of (words_of x) refl

-- what the type of the four words says
pub record Words (x : Block) : Type 0 where
  pub in_0 : x.w0 < 2 ^ 32
  pub in_1 : x.w1 < 2 ^ 32
  pub in_2 : x.w2 < 2 ^ 32
  pub in_3 : x.w3 < 2 ^ 32

pub row_four : (a b c d : ℕ) → a < 2 ^ 32 → b < 2 ^ 32 → c < 2 ^ 32 → d < 2 ^ 32 → Row 4 (2 ^ 32) (a ∷ b ∷ c ∷ d ∷ [])
row_four a b c d ha hb hc hd = record { long = refl; below = at }
  where
    at : (i : ℕ) → get_or (a ∷ b ∷ c ∷ d ∷ []) i 0 < 2 ^ 32
    at zero = ha
    at (suc zero) = hb
    at (suc (suc zero)) = hc
    at (suc (suc (suc zero))) = hd
    at (suc (suc (suc (suc i)))) = lit< tt

words_row : (x : Block) → Words x → Row 4 (2 ^ 32) (words_of x)
words_row x w = row_four x.w0 x.w1 x.w2 x.w3 w.in_0 w.in_1 w.in_2 w.in_3

pub words_bytes : (x : Block) → Words x → numbers 4 4 (bytes_of x) ≡ words_of x
unfolding bytes_of
words_bytes x w = numbers_littles 4 4 (words_of x) (words_row x w)

-- the bytes determine the block
pub bytes_of_one : (x y : Block) → Words x → Words y → bytes_of x ≡ bytes_of y → x ≡ y
bytes_of_one x y p q e =
    let f : words_of x ≡ words_of y = sym (words_bytes x p) ∙ ap (numbers 4 4) e ∙ words_bytes y q in
    λ i. record {
      w0 = ap (λ (l : List ℕ). get_or l 0 0) f i;
      w1 = ap (λ (l : List ℕ). get_or l 1 0) f i;
      w2 = ap (λ (l : List ℕ). get_or l 2 0) f i;
      w3 = ap (λ (l : List ℕ). get_or l 3 0) f i;
    }

pub four : {a b c d a' b' c' d' : ℕ} → a ≡ a' → b ≡ b' → c ≡ c' → d ≡ d' → ◌≡◌ {A = List ℕ} (a ∷ b ∷ c ∷ d ∷ []) (a' ∷ b' ∷ c' ∷ d' ∷ [])
four p q r s = λ i. p i ∷ q i ∷ r i ∷ s i ∷ []

-- what is done word by word
pub is_wordwise : (f : ℕ → ℕ → ℕ) (x y z : Block) → Words x → Words y → words_of z ≡ pointwise f (words_of x) (words_of y)
    → bytes_of z ≡ wordwise f (bytes_of x) (bytes_of y)
unfolding bytes_of
is_wordwise f x y z p q e =
    ap (littles 4) e ∙ sym (ap₂ (λ (s t : List ℕ). littles 4 (pointwise f s t)) (words_bytes x p) (words_bytes y q))

-- two blocks are the same where their words are
pub same_words : (x y : Block) → Words x → Words y
    → (eqb x.w0 y.w0 && eqb x.w1 y.w1 && eqb x.w2 y.w2 && eqb x.w3 y.w3) ≡ same (bytes_of x) (bytes_of y)
same_words x y p q = both_ways (e0 && e1 && e2 && e3) (same (bytes_of x) (bytes_of y)) forth back
  where
    e0 : Bool
    e0 = eqb x.w0 y.w0

    e1 : Bool
    e1 = eqb x.w1 y.w1

    e2 : Bool
    e2 = eqb x.w2 y.w2

    e3 : Bool
    e3 = eqb x.w3 y.w3

    forth : (e0 && e1 && e2 && e3) ≡ true → same (bytes_of x) (bytes_of y) ≡ true
    forth e =
        let f2 = and_left (e0 && e1 && e2) e3 e in
        let f1 = and_left (e0 && e1) e2 f2 in
        let same_block : x ≡ y = λ i. record {
          w0 = eqb-true x.w0 y.w0 (and_left e0 e1 f1) i;
          w1 = eqb-true x.w1 y.w1 (and_right e0 e1 f1) i;
          w2 = eqb-true x.w2 y.w2 (and_right (e0 && e1) e2 f2) i;
          w3 = eqb-true x.w3 y.w3 (and_right (e0 && e1 && e2) e3 e) i;
        } in
        ap (λ (t : Block). same (bytes_of x) (bytes_of t)) (sym same_block) ∙ same_refl (bytes_of x)

    back : same (bytes_of x) (bytes_of y) ≡ true → (e0 && e1 && e2 && e3) ≡ true
    back e =
        let f : x ≡ y = bytes_of_one x y p q (same_eq (bytes_of x) (bytes_of y) e) in
        λ i. eq-eqb x.w0 y.w0 (ap (λ (t : Block). t.w0) f) i && eq-eqb x.w1 y.w1 (ap (λ (t : Block). t.w1) f) i
        && eq-eqb x.w2 y.w2 (ap (λ (t : Block). t.w2) f) i && eq-eqb x.w3 y.w3 (ap (λ (t : Block). t.w3) f) i

-- ---- read from a slice

pub word_at : (s : List ℕ) (at : ℕ) → at + 4 ≤ length s
    → get_or s at 0 + get_or s (at + 1) 0 * 0x100 + get_or s (at + 2) 0 * 0x10000 + get_or s (at + 3) 0 * 0x1000000 ≡ number (take 4 (drop at s))
unfolding number
word_at s at h =
    let e1 : at + 1 ≡ suc at = omega arith in
    let e2 : at + 2 ≡ suc (suc at) = omega arith in
    let e3 : at + 3 ≡ suc (suc (suc at)) = omega arith in
    rw (window 4 at s h, e1, e2, e3) (omega arith)

pub block_at : (s : List ℕ) (at : ℕ) → at + 16 ≤ length s → Below 256 s
    → littles 4 (number (take 4 (drop at s)) ∷ number (take 4 (drop (at + 4) s)) ∷ number (take 4 (drop (at + 8) s)) ∷ number (take 4 (drop (at + 12) s)) ∷ [])
    ≡ take 16 (drop at s)
unfolding numbers
block_at s at h b =
    let e4 : at + 4 ≡ suc (suc (suc (suc at))) = omega arith in
    let e8 : at + 8 ≡ suc (suc (suc (suc (suc (suc (suc (suc at))))))) = omega arith in
    let e12 : at + 12 ≡ suc (suc (suc (suc (suc (suc (suc (suc (suc (suc (suc (suc at))))))))))) = omega arith in
    let w : take 16 (drop at s) ≡ tab 16 at s = window 16 at s h in
    let r : Row 16 256 (take 16 (drop at s)) =
    record { long = simp (length-take, length-drop) (omega arith); below = below_take 256 16 (drop at s) (lit< tt) (below_drop 256 at s b) } in
    ap (littles 4) (four
    (ap number (window 4 at s (omega arith)))
    (ap number (window 4 (at + 4) s (omega arith) ∙ ap (λ (k : ℕ). tab 4 k s) e4))
    (ap number (window 4 (at + 8) s (omega arith) ∙ ap (λ (k : ℕ). tab 4 k s) e8))
    (ap number (window 4 (at + 12) s (omega arith) ∙ ap (λ (k : ℕ). tab 4 k s) e12)))
    ∙ ap (λ (t : List ℕ). littles 4 (numbers 4 4 t)) (sym w) ∙ littles_numbers 4 4 (take 16 (drop at s)) r

-- ---- written to one

pub stored : (l l1 l2 l3 l4 : List ℕ) (at : ℕ) (x : Block) → l1 ≡ sets l at (little 4 x.w0) → l2 ≡ sets l1 (at + 4) (little 4 x.w1)
    → l3 ≡ sets l2 (at + 8) (little 4 x.w2) → l4 ≡ sets l3 (at + 12) (little 4 x.w3) → l4 ≡ sets l at (bytes_of x)
unfolding bytes_of littles little
stored l l1 l2 l3 l4 at x e f g h =
    let e4 : at + 4 ≡ suc (suc (suc (suc at))) = omega arith in
    let e8 : at + 8 ≡ suc (suc (suc (suc (suc (suc (suc (suc at))))))) = omega arith in
    let e12 : at + 12 ≡ suc (suc (suc (suc (suc (suc (suc (suc (suc (suc (suc (suc at))))))))))) = omega arith in
    h ∙ ap₂ (λ (t : List ℕ) (k : ℕ). sets t k (little 4 x.w3)) g e12
    ∙ ap₂ (λ (t : List ℕ) (k : ℕ). sets (sets t k (little 4 x.w2)) (suc (suc (suc (suc (suc (suc (suc (suc (suc (suc (suc (suc at)))))))))))) (little 4 x.w3)) f e8
    ∙ ap₂ (λ (t : List ℕ) (k : ℕ). sets (sets (sets t k (little 4 x.w1)) (suc (suc (suc (suc (suc (suc (suc (suc at)))))))) (little 4 x.w2)) (suc (suc (suc (suc (suc (suc (suc (suc (suc (suc (suc (suc at)))))))))))) (little 4 x.w3)) e e4
