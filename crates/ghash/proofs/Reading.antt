-- A product read off the table of H. The masks that make a block's indices keep to its bytes; the two entries of a byte are its two halves at their
-- places • H; and the bytes at their places make the block, so that the shares of all of them make the product.
use mathlib.Core.Path.{◌≡◌, refl, sym, ap, ap₂, ◌∙◌}
use mathlib.Core.List.{List, ◌∷◌, ◌++◌, map-append}
use Prim.Native.Nat.{ℕ, zero, suc, ◌+◌, ◌-◌, ◌*◌, ◌/◌, ◌%◌, ◌^◌, ◌<◌, ◌≤◌}
use native.Mathlib.Omega.{arith}
use native.Mathlib.Nat.{mod-lt, mul-one, mul_assoc, pow-succ'}
use lib.Bits.{bit_and, and_block, and_mask}
use lib.Dec.{lit<}
use lib.ListN.{length, get_or, take, length-append, length-map, get_or-append, get_or-map}
use lib.Pow.{split, pow-add}
use lib.Seq.{sets, length-sets, get_or-append-add, take_all}
use Rattle.words.specs.Xor.{◌⊕◌, xors}
use Rattle.words.specs.Bytes.{little, part, IsBlock}
use Rattle.words.proofs.XorLaws.{⊕-shl, ⊕-shifted}
use Rattle.words.proofs.Rows.{window}
use Rattle.words.proofs.Parts.{part_at, part_more, part_row}
use Rattle.words.proofs.Writing.{read_written}
use Rattle.ghash.specs.Field.{product}
use Rattle.ghash.specs.Hash.{big}
use Rattle.ghash.specs.Machine.{bytes_of_element, entry, Table}
use Rattle.ghash.specs.Inner.{highs, lows, indices, share, Read}
use Rattle.ghash.specs.declared.Element.{Element}
use Rattle.ghash.proofs.BigEndian.{pow_pow, big_lt, big_append}
use Rattle.ghash.proofs.Elements.{element_block, big_sum}
use Rattle.ghash.proofs.Product.{product_xor}

-- ---- a block's indices

-- 0f in each of k bytes
abbrev fifteens : ℕ → ℕ
fifteens zero = 0
fifteens (suc k) = fifteens k * 256 + 15

pub masked : (k x : ℕ) → little k (bit_and x (fifteens k) * 2) ≡ lows (little k x)
unfolding little
masked zero x = refl
masked (suc k) x =
    let b = bit_and (x / 256) (fifteens k) in
    let e : bit_and x (fifteens k * 256 + 15) ≡ b * 256 + x % 256 % 16 =
    ap (λ (n : ℕ). bit_and n (fifteens k * 256 + 15)) (sym (split x 8)) ∙ and_block 8 (x / 256) (fifteens k) (x % 256) 15 (mod-lt x (lit< tt)) (lit< tt)
    ∙ ap (λ (n : ℕ). b * 256 + n) (and_mask (x % 256) 4) in
    let r : bit_and x (fifteens k * 256 + 15) * 2 % 256 ≡ x % 256 % 16 * 2 = omega arith in
    let q : bit_and x (fifteens k * 256 + 15) * 2 / 256 ≡ b * 2 = omega arith in
    ap₂ (λ (y : ℕ) (l : List ℕ). y ∷ l) r (ap (little k) q ∙ masked k (x / 256))

lows_high : (k x : ℕ) → lows (little k (x / 16)) ≡ highs (little k x)
unfolding little
lows_high zero x = refl
lows_high (suc k) x =
    let r : x / 16 % 256 % 16 * 2 ≡ x % 256 / 16 * 2 = omega arith in
    let q : x / 16 / 256 ≡ x / 256 / 16 = omega arith in
    ap₂ (λ (y : ℕ) (l : List ℕ). y ∷ l) r (ap (λ (n : ℕ). lows (little k n)) q ∙ lows_high k (x / 256))

module _ (r x : Element) where
  pub low_bytes : little 8 r.lo ≡ lows (little 8 x.lo) → little 8 r.hi ≡ lows (little 8 x.hi) → bytes_of_element r ≡ lows (bytes_of_element x)
  unfolding bytes_of_element
  low_bytes e f = ap₂ (λ (s t : List ℕ). s ++ t) e f ∙ sym (map-append (λ b. b % 16 * 2) (little 8 x.lo) (little 8 x.hi))

  pub high_bytes : little 8 r.lo ≡ lows (little 8 (x.lo / 16)) → little 8 r.hi ≡ lows (little 8 (x.hi / 16)) → bytes_of_element r ≡ highs (bytes_of_element x)
  unfolding bytes_of_element
  high_bytes e f =
      ap₂ (λ (s t : List ℕ). s ++ t) (e ∙ lows_high 8 x.lo) (f ∙ lows_high 8 x.hi)
      ∙ sym (map-append (λ b. b / 16 * 2) (little 8 x.lo) (little 8 x.hi))

-- written, they stand there
pub reads : (m m' s h t : List ℕ) (at : ℕ) → IsBlock s → at + 32 ≤ length m → m' ≡ sets m at (indices s) → Table h t → Read s h m' at t
unfolding indices
reads m m' s h t at b l e k =
    let v = highs s ++ lows s in
    let n : length v ≡ 32 = length-append (highs s) (lows s) ∙ ap₂ ◌+◌ (length-map s _ ∙ b.long) (length-map s _ ∙ b.long) in
    let q : length m' ≡ length m = ap length e ∙ length-sets m at v in
    record { within = omega arith; of_s = ap (part at 32) e ∙ read_written m at 32 v n l; of_h = k }

-- and are read
module _ (m s : List ℕ) (at : ℕ) (b : IsBlock s) (e : part at 32 m ≡ indices s) (k : ℕ) (hk : k < 16) where
  here : (j : ℕ) → j < 32 → get_or m (at + j) 0 ≡ get_or (indices s) j 0
  here j h = part_at m at 32 j h ∙ ap (λ (l : List ℕ). get_or l j 0) e

  pub high_index : get_or m (at + k) 0 ≡ get_or s k 0 / 16 * 2
  unfolding indices
  high_index =
      let n : length (highs s) ≡ 16 = length-map s (λ b. b / 16 * 2) ∙ b.long in
      here k (omega arith) ∙ get_or-append (highs s) (lows s) 0 k (omega arith) ∙ get_or-map (λ b. b / 16 * 2) s k 0

  pub low_index : get_or m (at + 16 + k) 0 ≡ get_or s k 0 % 16 * 2
  unfolding indices
  low_index =
      let n : length (highs s) ≡ 16 = length-map s (λ b. b / 16 * 2) ∙ b.long in
      let p : at + 16 + k ≡ at + (16 + k) = omega arith in
      ap (λ (j : ℕ). get_or m j 0) p ∙ here (16 + k) (omega arith) ∙ ap (λ (l : ℕ). get_or (highs s ++ lows s) (l + k) 0) (sym n)
      ∙ get_or-append-add (highs s) (lows s) k 0 ∙ get_or-map (λ b. b % 16 * 2) s k 0

-- ---- a byte's two entries

-- w at place q • H is its rightmost four bits there, and the others one place to the left
place_split : (w q h : ℕ) → product (w * 16 ^ q) h ≡ product (w / 16 * 16 ^ suc q) h ⊕ product ((w % 16) * 16 ^ q) h
place_split w q h =
    let apart : w ≡ w / 16 * 16 ⊕ w % 16 = sym (split w 4) ∙ sym (⊕-shifted (w / 16) 4 (w % 16) (mod-lt w (lit< tt))) in
    let moved : (w / 16 * 16 ⊕ w % 16) * 16 ^ q ≡ w / 16 * 16 * 16 ^ q ⊕ (w % 16) * 16 ^ q =
    rw (pow_pow 4 q) (⊕-shl (w / 16 * 16) (w % 16) (4 * q)) in
    let up : w / 16 * 16 * 16 ^ q ≡ w / 16 * 16 ^ suc q = mul_assoc (w / 16) 16 (16 ^ q) ∙ ap (λ (p : ℕ). w / 16 * p) (sym (pow-succ' 16 q)) in
    ap (λ (x : ℕ). product x h) (ap (λ (x : ℕ). x * 16 ^ q) apart ∙ moved) ∙ product_xor (w / 16 * 16 * 16 ^ q) ((w % 16) * 16 ^ q) h
    ∙ ap (λ (x : ℕ). product x h ⊕ product ((w % 16) * 16 ^ q) h) up

-- two places are a byte
two_places : (n : ℕ) → 16 ^ (2 * n) ≡ 256 ^ n
two_places n = pow_pow 4 (2 * n) ∙ ap (λ (e : ℕ). 2 ^ e) (let e : 4 * (2 * n) ≡ 8 * n = omega arith in e) ∙ sym (pow_pow 8 n)

byte_entries : (t h : List ℕ) (k b : ℕ) → Table h t → k < 16 → b < 256
    → entry t (64 * k + b / 16 * 2) ⊕ entry t (64 * k + 32 + b % 16 * 2) ≡ product (b * 256 ^ (15 - k)) (big h)
unfolding Table
byte_entries t h k b m hk hb =
    let i : 64 * k + b / 16 * 2 ≡ 2 * k * 32 + b / 16 * 2 = omega arith in
    let j : 64 * k + 32 + b % 16 * 2 ≡ (2 * k + 1) * 32 + b % 16 * 2 = omega arith in
    let p : 31 - 2 * k ≡ suc (2 * (15 - k)) = omega arith in
    let q : 31 - (2 * k + 1) ≡ 2 * (15 - k) = omega arith in
    ap₂ ◌⊕◌
    (ap (entry t) i ∙ m (2 * k) (b / 16) (omega arith) (omega arith) ∙ ap (λ (e : ℕ). product (b / 16 * 16 ^ e) (big h)) p)
    (ap (entry t) j ∙ m (2 * k + 1) (b % 16) (omega arith) (mod-lt b (lit< tt)) ∙ ap (λ (e : ℕ). product ((b % 16) * 16 ^ e) (big h)) q)
    ∙ sym (place_split b (2 * (15 - k)) (big h)) ∙ ap (λ (n : ℕ). product (b * n) (big h)) (two_places (15 - k))

-- ---- shares of a block

module _ (s h : List ℕ) (b : IsBlock s) where
  pub share_all : share s h 0 16 ≡ product (big s) (big h)
  unfolding share
  share_all = ap (λ (n : ℕ). product n (big h)) (mul-one (big (take 16 s)) ∙ ap big (take_all 16 s (let l = b.long in omega arith)))

  one_byte : (k : ℕ) → k < 16 → big (part k 1 s) ≡ get_or s k 0
  unfolding big
  one_byte k hk = ap big (window 1 k s (let l = b.long in omega arith)) ∙ omega arith

  -- the entries of byte k
  pub share_one : (t : List ℕ) (k : ℕ) → Table h t → k < 16
      → entry t (64 * k + get_or s k 0 / 16 * 2) ⊕ entry t (64 * k + 32 + get_or s k 0 % 16 * 2) ≡ share s h k 1
  unfolding share
  share_one t k m hk =
      let e : 15 - k ≡ 16 - (k + 1) = omega arith in
      byte_entries t h k (get_or s k 0) m hk (b.below k)
      ∙ ap₂ (λ (x n : ℕ). product (x * 256 ^ n) (big h)) (sym (one_byte k hk)) e

  -- what stands side by side
  share_join : (k m n : ℕ) → k + m + n ≤ 16 → share s h k m ⊕ share s h (k + m) n ≡ share s h k (m + n)
  unfolding share
  share_join k m n hk =
      let a = big (part k m s) in
      let c = big (part (k + m) n s) in
      let e = 16 - (k + m + n) in
      let r = part_row 256 16 (lit< tt) b (k + m) n (omega arith) in
      let hc : c < 2 ^ (8 * n) = rw (← pow_pow 8 n) (big_lt n (part (k + m) n s) r) in
      let joins : big (part k (m + n) s) ≡ a * 256 ^ n ⊕ c =
      ap big (part_more s k m n) ∙ big_append (part k m s) (part (k + m) n s)
      ∙ ap (λ (l : ℕ). a * 256 ^ l + c) r.long ∙ rw (pow_pow 8 n) (sym (⊕-shifted a (8 * n) c hc)) in
      let moved : (a * 256 ^ n ⊕ c) * 256 ^ e ≡ a * 256 ^ n * 256 ^ e ⊕ c * 256 ^ e = rw (pow_pow 8 e) (⊕-shl (a * 256 ^ n) c (8 * e)) in
      let up : a * 256 ^ n * 256 ^ e ≡ a * 256 ^ (16 - (k + m)) =
      mul_assoc a (256 ^ n) (256 ^ e)
      ∙ ap (λ (p : ℕ). a * p) (sym (pow-add 256 n e) ∙ ap (λ (x : ℕ). 256 ^ x) (let x : n + e ≡ 16 - (k + m) = omega arith in x)) in
      let z : 16 - (k + (m + n)) ≡ e = omega arith in
      sym (product_xor (a * 256 ^ (16 - (k + m))) (c * 256 ^ e) (big h))
      ∙ ap (λ (x : ℕ). product x (big h)) (sym (ap₂ (λ (x y : ℕ). x * 256 ^ y) joins z ∙ moved ∙ ap (λ (x : ℕ). x ⊕ c * 256 ^ e) up))

  -- the four quarters, and the four bytes of one
  share_four : (k n : ℕ) → k + 4 * n ≤ 16
      → (share s h k n ⊕ share s h (k + n) n) ⊕ (share s h (k + 2 * n) n ⊕ share s h (k + 3 * n) n) ≡ share s h k (4 * n)
  share_four k n hk =
      let p : k + 2 * n ≡ k + (n + n) = omega arith in
      let q : k + 3 * n ≡ k + (n + n) + n = omega arith in
      let w : 4 * n ≡ n + n + (n + n) = omega arith in
      rw (p, q, w)
      (ap₂ ◌⊕◌ (share_join k n n (omega arith)) (share_join (k + (n + n)) n n (omega arith)) ∙ share_join k (n + n) (n + n) (omega arith))

-- four elements that are shares of as many bytes each, one behind the other, summed two by two
pub four_shares : (x h r p q a b c d : Element) (k n : ℕ) → k + 4 * n ≤ 16
    → bytes_of_element p ≡ xors (bytes_of_element a) (bytes_of_element b) → bytes_of_element q ≡ xors (bytes_of_element c) (bytes_of_element d)
    → bytes_of_element r ≡ xors (bytes_of_element p) (bytes_of_element q)
    → big (bytes_of_element a) ≡ share (bytes_of_element x) (bytes_of_element h) k n → big (bytes_of_element b) ≡ share (bytes_of_element x) (bytes_of_element h) (k + n) n
    → big (bytes_of_element c) ≡ share (bytes_of_element x) (bytes_of_element h) (k + 2 * n) n
    → big (bytes_of_element d) ≡ share (bytes_of_element x) (bytes_of_element h) (k + 3 * n) n
    → big (bytes_of_element r) ≡ share (bytes_of_element x) (bytes_of_element h) k (4 * n)
four_shares x h r p q a b c d k n l ep eq er ea eb ec ed =
    big_sum r p q er ∙ ap₂ ◌⊕◌ (big_sum p a b ep ∙ ap₂ ◌⊕◌ ea eb) (big_sum q c d eq ∙ ap₂ ◌⊕◌ ec ed)
    ∙ share_four (bytes_of_element x) (bytes_of_element h) (element_block x) k n l
