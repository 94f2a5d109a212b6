-- The machine's element, two halves of 64 bits in the order of its bytes, against its 16 bytes and the number that they spell: xor goes by halves, a
-- block's four words have the same bytes, bytes turned round are the number's, and there the step of V goes by halves.
use mathlib.Core.Path.{◌≡◌, refl, sym, ap, ap₂, ◌∙◌}
use mathlib.Core.List.{List, [], ◌∷◌, ◌++◌}
use Prim.Native.Nat.{ℕ, zero, suc, ◌+◌, ◌*◌, ◌/◌, ◌%◌, ◌^◌, ◌<◌}
use native.Mathlib.Omega.{arith}
use native.Mathlib.Nat.{mod-lt, add-zero, add_comm, mul_assoc, pow-suc}
use native.Mathlib.Numerals.{add-one}
use lib.Bits.{bit_or, or_shifted}
use lib.Dec.{lit<}
use lib.ListN.{take, drop}
use lib.Pow.{split, shr_lt}
use lib.Seq.{take_at, drop_at}
use Rattle.std.specs.Int.{w64, from_be_bytes, swap_bytes}
use Rattle.words.specs.Xor.{◌⊕◌, xors}
use Rattle.words.specs.Bytes.{little, number, littles, IsBlock, zeros}
use Rattle.words.proofs.XorLaws.{⊕-zero-r}
use Rattle.words.proofs.Rows.{row_append, xors_append}
use Rattle.words.proofs.Bytes.{little_row, little_long, little_xor, little_pair, little_of_half, number_little}
use Rattle.ghash.specs.Field.{R, times_x}
use Rattle.ghash.specs.Hash.{big, bigs, lengths}
use Rattle.ghash.specs.Machine.{bytes_of_element}
use Rattle.ghash.specs.declared.Element.{Element}
use Rattle.ghash.proofs.BigEndian.{⊕-block, bigs_append, bigs_low, big_append, big_bigs, big_lt, big_xors}

-- what the type of the two halves says
pub record Halves (e : Element) : Type 0 where
  pub in_lo : e.lo < 2 ^ 64
  pub in_hi : e.hi < 2 ^ 64

pub element_block : (e : Element) → IsBlock (bytes_of_element e)
unfolding bytes_of_element
element_block e = row_append 256 8 8 (little_row 8 e.lo) (little_row 8 e.hi)

low : (x : Element) → Halves x → number (take 8 (bytes_of_element x)) ≡ x.lo
unfolding bytes_of_element
low x p = ap number (take_at (little 8 x.lo) (little 8 x.hi) 8 (little_long 8 x.lo)) ∙ number_little 8 x.lo p.in_lo

high : (x : Element) → Halves x → number (drop 8 (bytes_of_element x)) ≡ x.hi
unfolding bytes_of_element
high x p = ap number (drop_at (little 8 x.lo) (little 8 x.hi) 8 (little_long 8 x.lo)) ∙ number_little 8 x.hi p.in_hi

-- the bytes determine the element
pub element_one : (x y : Element) → Halves x → Halves y → bytes_of_element x ≡ bytes_of_element y → x ≡ y
element_one x y p q e =
    λ i. record {
      lo = (sym (low x p) ∙ ap (λ (s : List ℕ). number (take 8 s)) e ∙ low y q) i;
      hi = (sym (high x p) ∙ ap (λ (s : List ℕ). number (drop 8 s)) e ∙ high y q) i;
    }

pub zero_bytes : bytes_of_element (record { lo = 0; hi = 0 }) ≡ zeros
unfolding bytes_of_element little
zero_bytes = refl

pub big_zeros : big zeros ≡ 0
unfolding big
big_zeros = refl

-- ---- xor

pub xor_halves : (a b c d : ℕ)
    → bytes_of_element (record { lo = a ⊕ c; hi = b ⊕ d }) ≡ xors (bytes_of_element (record { lo = a; hi = b })) (bytes_of_element (record { lo = c; hi = d }))
unfolding bytes_of_element
xor_halves a b c d =
    ap₂ (λ (s t : List ℕ). s ++ t) (little_xor 8 a c) (little_xor 8 b d)
    ∙ sym (xors_append (little 8 a) (little 8 c) (little 8 b) (little 8 d) (little_long 8 a ∙ sym (little_long 8 c)))

pub big_sum : (r a b : Element) → bytes_of_element r ≡ xors (bytes_of_element a) (bytes_of_element b)
    → big (bytes_of_element r) ≡ big (bytes_of_element a) ⊕ big (bytes_of_element b)
big_sum r a b e = ap big e ∙ big_xors 16 (bytes_of_element a) (bytes_of_element b) (element_block a) (element_block b)

-- ---- a block's four words

pub apart : (x : ℕ) → x < 2 ^ 64 → little 8 x ≡ little 4 (x % 2 ^ 32) ++ little 4 (x / 2 ^ 32)
apart x h = ap (little 8) (sym (split x 32) ∙ add_comm _ _) ∙ little_pair (x % 2 ^ 32) (x / 2 ^ 32) (mod-lt x (lit< tt)) (shr_lt 32 32 h)

pub four_words : (a b c d : ℕ) → littles 4 (a ∷ b ∷ c ∷ d ∷ []) ≡ (little 4 a ++ little 4 b) ++ (little 4 c ++ little 4 d)
unfolding little littles
four_words a b c d = refl

-- ---- the other order

eight : (a b c d e f g h : ℕ) → from_be_bytes w64 (a ∷ b ∷ c ∷ d ∷ e ∷ f ∷ g ∷ h ∷ []) ≡ big (a ∷ b ∷ c ∷ d ∷ e ∷ f ∷ g ∷ h ∷ [])
unfolding big
eight a b c d e f g h = omega arith

-- what `swap_bytes` gives
pub swapped : (x : ℕ) → swap_bytes w64 x ≡ big (little 8 x)
unfolding little
swapped x = ap (from_be_bytes w64) (little_of_half x) ∙ eight _ _ _ _ _ _ _ _

-- a byte above k others
little_snoc : (k b m : ℕ) → b < 256 → m < 256 ^ k → little (suc k) (b * 256 ^ k + m) ≡ little k m ++ (b ∷ [])
unfolding little
little_snoc zero b m hb hm = ap (λ (x : ℕ). x ∷ []) (omega arith)
little_snoc (suc k) b m hb hm =
    let e : b * 256 ^ suc k ≡ b * 256 ^ k * 256 = ap (λ (p : ℕ). b * p) (pow-suc 256 k) ∙ sym (mul_assoc b (256 ^ k) 256) in
    let f : 256 ^ suc k ≡ 256 ^ k * 256 = pow-suc 256 k in
    let r : (b * 256 ^ suc k + m) % 256 ≡ m % 256 = omega arith in
    let q : (b * 256 ^ suc k + m) / 256 ≡ b * 256 ^ k + m / 256 = omega arith in
    ap₂ (λ (x : ℕ) (l : List ℕ). x ∷ l) r (ap (little (suc k)) q ∙ little_snoc k b (m / 256) hb (omega arith))

bigs_snoc : (k x : ℕ) → bigs (suc k) x ≡ bigs k (x / 256) ++ (x % 256 ∷ [])
unfolding bigs
bigs_snoc k x =
    let e : x % 256 / 256 ^ 0 % 256 ≡ x % 256 = omega arith in
    ap₂ bigs (sym (add-one k)) (sym (split x 8)) ∙ bigs_append k 1 (x / 256) (x % 256) (mod-lt x (lit< tt))
    ∙ ap (λ (b : ℕ). bigs k (x / 256) ++ (b ∷ [])) e

big_front : (k x : ℕ) → big (little (suc k) x) ≡ x % 256 * 256 ^ k + big (little k (x / 256))
unfolding little big
big_front k x = ap (λ (l : ℕ). x % 256 * 256 ^ l + big (little k (x / 256))) (little_long k (x / 256))

flip_none : (x : ℕ) → little 0 (big (little 0 x)) ≡ bigs 0 x
unfolding little bigs
flip_none x = refl

flip_back : (k x : ℕ) → little k (big (little k x)) ≡ bigs k x
flip_back zero x = flip_none x
flip_back (suc k) x =
    ap (little (suc k)) (big_front k x)
    ∙ little_snoc k (x % 256) (big (little k (x / 256))) (mod-lt x (lit< tt)) (big_lt k (little k (x / 256)) (little_row k (x / 256)))
    ∙ ap (λ (s : List ℕ). s ++ (x % 256 ∷ [])) (flip_back k (x / 256)) ∙ sym (bigs_snoc k x)

-- the number of an element, from its halves turned round
pub number_of : (e : Element) → big (little 8 e.lo) * 2 ^ 64 + big (little 8 e.hi) ≡ big (bytes_of_element e)
unfolding bytes_of_element
number_of e =
    sym (big_append (little 8 e.lo) (little 8 e.hi) ∙ ap (λ (l : ℕ). big (little 8 e.lo) * 256 ^ l + big (little 8 e.hi)) (little_long 8 e.hi))

-- and the element of a number
pub of_number : (hi lo : ℕ) → hi < 2 ^ 64 → lo < 2 ^ 64 → big (bytes_of_element (record { lo = big (little 8 hi); hi = big (little 8 lo) })) ≡ hi * 2 ^ 64 + lo
of_number hi lo p q =
    sym (number_of (record { lo = big (little 8 hi); hi = big (little 8 lo) }))
    ∙ ap₂ (λ (x y : List ℕ). big x * 2 ^ 64 + big y) (flip_back 8 hi) (flip_back 8 lo) ∙ ap₂ (λ (x y : ℕ). x * 2 ^ 64 + y) (big_bigs 8 hi p) (big_bigs 8 lo q)

-- eight bytes hold a length in bits modulo 2^64
low_half : (n : ℕ) → little 8 (big (little 8 (n % 2 ^ 64))) ≡ bigs 8 n
low_half n = flip_back 8 (n % 2 ^ 64) ∙ sym (bigs_low 8 (n / 2 ^ 64) (n % 2 ^ 64)) ∙ ap (bigs 8) (split n 64)

pub of_lengths : (d t : ℕ) → bytes_of_element (record { lo = big (little 8 (d * 8 % 2 ^ 64)); hi = big (little 8 (t * 8 % 2 ^ 64)) }) ≡ lengths d t
unfolding bytes_of_element
of_lengths d t = ap₂ (λ (x y : List ℕ). x ++ y) (low_half (d * 8)) (low_half (t * 8))

-- ---- the step of V

half : (hi lo : ℕ) → hi / 2 * 2 ^ 64 + ((hi % 2) * 2 ^ 63 + lo / 2) ≡ (hi * 2 ^ 64 + lo) / 2
half hi lo = omega arith

parity : (hi lo : ℕ) → lo % 2 ≡ (hi * 2 ^ 64 + lo) % 2
parity hi lo = omega arith

-- a shift to the left by 63 keeps the rightmost bit alone
top : (hi : ℕ) → hi * 2 ^ 63 % 2 ^ 64 ≡ (hi % 2) * 2 ^ 63
top hi = omega arith

pub times_x_halves : (hi lo : ℕ) → lo < 2 ^ 64
    → (hi / 2 ⊕ (lo % 2) * 0xe100_0000_0000_0000) * 2 ^ 64 + bit_or (hi * 2 ^ 63 % 2 ^ 64) (lo / 2) ≡ times_x (hi * 2 ^ 64 + lo)
unfolding times_x
times_x_halves hi lo hl =
    let small : lo / 2 < 2 ^ 63 = omega arith in
    let w = (hi % 2) * 2 ^ 63 + lo / 2 in
    let fits : w < 2 ^ 64 = omega arith in
    let e = (lo % 2) * 0xe100_0000_0000_0000 in
    ap (λ (q : ℕ). (hi / 2 ⊕ e) * 2 ^ 64 + q)
    (ap (λ (t : ℕ). bit_or t (lo / 2)) (top hi) ∙ or_shifted (hi % 2) 63 (lo / 2) small ∙ sym (⊕-zero-r w))
    ∙ sym (⊕-block 64 (hi / 2) e w 0 fits (lit< tt))
    ∙ ap₂ ◌⊕◌ (half hi lo)
    (add-zero (e * 2 ^ 64) ∙ mul_assoc (lo % 2) 0xe100_0000_0000_0000 (2 ^ 64) ∙ ap (λ (b : ℕ). b * R) (parity hi lo))
