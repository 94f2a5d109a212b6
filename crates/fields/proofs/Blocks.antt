-- The blocks of a list are its parts of 512 bytes one behind the other, so that a block in its place changes that one alone, and whole blocks are the list.
use Rattle.std.proofs.Common.{◌≡◌, ℕ, zero, suc, ◌+◌, ◌-◌, ◌*◌, ◌/◌, ◌%◌, ◌<◌, ◌≤◌, List, [], ◌∷◌, ◌++◌, length, get_or, take, drop, sym, refl, ap, ◌∙◌, ap₂, append_assoc, append-nil, arith, length-append, length-drop, take-append-drop, drop_of_length-le, length-take-le, take_all, drop-drop, take_at, take-add, drop_at}
use borrow.Rule.Slice.PartMut.{put_mid}
use lib.Seq.{take-append-le, drop-append-le}
use Rattle.words.specs.Bytes.{part, joined}
use Rattle.fields.specs.Blocks.{cut, blocks, replaced}

-- ---- the blocks that bytes are cut into

pub cut_long : (n : ℕ) (f : List ℕ) → length (cut n f) ≡ n
unfolding cut
cut_long zero f = refl
cut_long (suc n) f = ap suc (cut_long n (drop 512 f))

pub cut_at : (n i : ℕ) (f : List ℕ) → i < n → get_or (cut n f) i [] ≡ part (512 * i) 512 f
unfolding cut
cut_at zero i f h = absurd (omega arith)
cut_at (suc n) zero f h = refl
cut_at (suc n) (suc i) f h =
    let e : 512 + 512 * i ≡ 512 * suc i = omega arith in
    cut_at n i (drop 512 f) (omega arith) ∙ ap (take 512) (drop-drop (512 * i) 512 f ∙ ap (λ (k : ℕ). drop k f) e)

-- the first of them, and those behind
cut_add : (i k : ℕ) (f : List ℕ) → cut (i + k) f ≡ cut i f ++ cut k (drop (512 * i) f)
unfolding cut
cut_add zero k f = ap (λ (n : ℕ). cut n f) (let e : 0 + k ≡ k = omega arith in e)
cut_add (suc i) k f =
    let e : suc i + k ≡ suc (i + k) = omega arith in
    let g : 512 + 512 * i ≡ 512 * suc i = omega arith in
    ap (λ (n : ℕ). cut n f) e
    ∙ ap (λ (l : List (List ℕ)). take 512 f ∷ l) (cut_add i k (drop 512 f))
    ∙ ap (λ (l : List ℕ). take 512 f ∷ (cut i (drop 512 f) ++ cut k l)) (drop-drop (512 * i) 512 f ∙ ap (λ (n : ℕ). drop n f) g)

cut_one : (f : List ℕ) → cut 1 f ≡ take 512 f ∷ []
unfolding cut
cut_one f = refl

pub cut_more : (n : ℕ) (f : List ℕ) → cut (n + 1) f ≡ cut n f ++ part (512 * n) 512 f ∷ []
cut_more n f = cut_add n 1 f ∙ ap (λ (l : List (List ℕ)). cut n f ++ l) (cut_one (drop (512 * n) f))

-- what stands behind the blocks has no part in them
cut_front : (n : ℕ) (s t : List ℕ) → 512 * n ≤ length s → cut n (s ++ t) ≡ cut n s
unfolding cut
cut_front zero s t h = refl
cut_front (suc n) s t h =
    ap₂ (λ (b : List ℕ) (l : List (List ℕ)). b ∷ l)
    (take-append-le 512 s t (omega arith))
    (ap (cut n) (drop-append-le 512 s t (omega arith)) ∙ cut_front n (drop 512 s) t (omega (arith, length-drop 512 s)))

cut_take : (n : ℕ) (f : List ℕ) → 512 * n ≤ length f → cut n (take (512 * n) f) ≡ cut n f
cut_take n f h =
    sym (cut_front n (take (512 * n) f) (drop (512 * n) f) (omega (arith, length-take-le (512 * n) f h)))
    ∙ ap (cut n) (take-append-drop (512 * n) f)

-- ---- a block in its place

cut_around : (i m : ℕ) (f : List ℕ) → cut (i + suc m) f ≡ cut i f ++ part (512 * i) 512 f ∷ cut m (drop (512 * i + 512) f)
unfolding cut
cut_around i m f =
    cut_add i (suc m) f ∙ ap (λ (l : List ℕ). cut i f ++ part (512 * i) 512 f ∷ cut m l) (drop-drop 512 (512 * i) f)

module _ (f : List ℕ) (i : ℕ) (whole : length f % 512 ≡ 0) (inside : 512 * i < length f) where
  -- how many blocks stand behind it
  rest : ℕ
  rest = length f / 512 - (i + 1)

  rest_is : length f / 512 ≡ i + suc rest
  unfolding rest
  rest_is = omega arith

  rest_long : length f ≡ 512 * i + 512 + 512 * rest
  unfolding rest
  rest_long = omega arith

  blocks_are : blocks f ≡ cut (i + suc rest) f
  unfolding blocks
  blocks_are = ap (λ (n : ℕ). cut n f) rest_is

  pub blocks_before : take i (blocks f) ≡ cut i f
  blocks_before = ap (take i) (blocks_are ∙ cut_add i (suc rest) f) ∙ take_at (cut i f) (cut (suc rest) (drop (512 * i) f)) i (cut_long i f)

  blocks_behind : drop (i + 1) (blocks f) ≡ cut rest (drop (512 * i + 512) f)
  blocks_behind =
      ap (drop (i + 1)) (blocks_are ∙ cut_around i rest f)
      ∙ sym (drop-drop 1 i (cut i f ++ part (512 * i) 512 f ∷ cut rest (drop (512 * i + 512) f)))
      ∙ ap (drop 1) (drop_at (cut i f) (part (512 * i) 512 f ∷ cut rest (drop (512 * i + 512) f)) i (cut_long i f))

  -- the blocks are those before it, itself and those behind it
  pub blocks_split : blocks f ≡ take i (blocks f) ++ part (512 * i) 512 f ∷ drop (i + 1) (blocks f)
  blocks_split =
      blocks_are ∙ cut_around i rest f
      ∙ ap₂ (λ (us vs : List (List ℕ)). us ++ part (512 * i) 512 f ∷ vs) (sym blocks_before) (sym blocks_behind)

  module _ (b : List ℕ) (long : length b ≡ 512) where
    pub replaced_long : length (replaced i b f) ≡ length f
    unfolding replaced
    replaced_long =
        length-append (take (512 * i) f ++ b) (drop (512 * i + 512) f)
        ∙ ap (λ (k : ℕ). k + length (drop (512 * i + 512) f)) (length-append (take (512 * i) f) b)
        ∙ omega (arith, length-take-le (512 * i) f (omega arith), length-drop (512 * i + 512) f, rest_long)

    pub blocks_replaced : blocks (replaced i b f) ≡ take i (blocks f) ++ b ∷ drop (i + 1) (blocks f)
    unfolding blocks replaced cut
    blocks_replaced =
        let u : List ℕ = take (512 * i) f in
        let v : List ℕ = drop (512 * i + 512) f in
        let ul : length u ≡ 512 * i = length-take-le (512 * i) f (omega arith) in
        ap (λ (n : ℕ). cut (n / 512) (replaced i b f)) replaced_long
        ∙ ap₂ cut rest_is (append_assoc u b v)
        ∙ cut_add i (suc rest) (u ++ (b ++ v))
        ∙ ap₂ (λ (us : List (List ℕ)) (l : List ℕ). us ++ cut (suc rest) l)
        (cut_front i u (b ++ v) (omega arith) ∙ cut_take i f (omega arith) ∙ sym blocks_before)
        (drop_at u (b ++ v) (512 * i) ul)
        ∙ ap₂ (λ (c l : List ℕ). take i (blocks f) ++ c ∷ cut rest l) (take_at b v 512 long) (drop_at b v 512 long)
        ∙ ap (λ (vs : List (List ℕ)). take i (blocks f) ++ b ∷ vs) (sym blocks_behind)

    -- byte by byte: those before it, its own and those behind it
    replaced_front : length (take (512 * i) f) ≡ 512 * i
    replaced_front = length-take-le (512 * i) f (omega arith)

    replaced_parts : replaced i b f ≡ take (512 * i) f ++ (b ++ drop (512 * i + 512) f)
    unfolding replaced
    replaced_parts = append_assoc (take (512 * i) f) b (drop (512 * i + 512) f)

    pub replaced_before : take (512 * i) (replaced i b f) ≡ take (512 * i) f
    replaced_before =
        ap (take (512 * i)) replaced_parts ∙ take_at (take (512 * i) f) (b ++ drop (512 * i + 512) f) (512 * i) replaced_front

    replaced_from : drop (512 * i) (replaced i b f) ≡ b ++ drop (512 * i + 512) f
    replaced_from =
        ap (drop (512 * i)) replaced_parts ∙ drop_at (take (512 * i) f) (b ++ drop (512 * i + 512) f) (512 * i) replaced_front

    pub replaced_at : part (512 * i) 512 (replaced i b f) ≡ b
    replaced_at = ap (take 512) replaced_from ∙ take_at b (drop (512 * i + 512) f) 512 long

    pub replaced_behind : drop (512 * i + 512) (replaced i b f) ≡ drop (512 * i + 512) f
    replaced_behind = sym (drop-drop 512 (512 * i) (replaced i b f)) ∙ ap (drop 512) replaced_from ∙ drop_at b (drop (512 * i + 512) f) 512 long

-- ---- whole blocks are the bytes

cut_joined : (n : ℕ) (f : List ℕ) → joined (cut n f) ≡ take (512 * n) f
unfolding cut
cut_joined zero f = refl
cut_joined (suc n) f =
    let e : 512 + 512 * n ≡ 512 * suc n = omega arith in
    ap (λ (l : List ℕ). take 512 f ++ l) (cut_joined n (drop 512 f)) ∙ sym (take-add 512 (512 * n) f) ∙ ap (λ (k : ℕ). take k f) e

blocks_joined : (f : List ℕ) → length f % 512 ≡ 0 → joined (blocks f) ≡ f
unfolding blocks
blocks_joined f h = cut_joined (length f / 512) f ∙ take_all (512 * (length f / 512)) f (omega arith)

pub blocks_same : (f g : List ℕ) → length f % 512 ≡ 0 → length g % 512 ≡ 0 → blocks f ≡ blocks g → f ≡ g
blocks_same f g h k e = sym (blocks_joined f h) ∙ ap joined e ∙ blocks_joined g k

-- what was lent from a place on is back, with p in its front
pub lent_back : (f p ys : List ℕ) (i : ℕ) → 512 * i + 512 ≤ length f → ys ≡ p ++ drop 512 (take (length f - 512 * i) (drop (512 * i) f))
    → put_mid (512 * i) (length f - 512 * i) f ys ≡ replaced i p f
unfolding replaced
lent_back f p ys i h e =
    let a = 512 * i in
    let l : length (drop a f) ≡ length f - a = length-drop a f in
    let behind : drop (length f - a) (drop a f) ≡ [] = drop_of_length-le (drop a f) {i = length f - a} (omega arith) in
    ap₂ (λ (x y : List ℕ). take a f ++ (x ++ y))
    (e ∙ ap (λ (x : List ℕ). p ++ drop 512 x) (take_all (length f - a) (drop a f) (omega arith)) ∙ ap (λ (x : List ℕ). p ++ x) (drop-drop 512 a f))
    behind
    ∙ ap (λ (x : List ℕ). take a f ++ x) (append-nil (p ++ drop (a + 512) f))
    ∙ sym (append_assoc (take a f) p (drop (a + 512) f))
