-- A place's bytes and its stay determine each other, and so do places one behind the other and their stays: stays are taken from, put into and taken out of bytes by whole places.
use mathlib.Core.Path.{◌≡◌, refl, sym, ap, ap₂, ◌∙◌}
use mathlib.Core.List.{List, [], ◌∷◌, ◌++◌, append_assoc, append-nil}
use Prim.Native.Nat.{ℕ, zero, suc, ◌+◌, ◌*◌, ◌^◌, ◌≤◌, ◌<◌}
use native.Mathlib.Omega.{arith}
use lib.Dec.{lit<}
use lib.ListN.{length, take, drop, length-append, length-drop}
use lib.Seq.{take_all, take_at, drop_at, take-add, drop-drop, length-take-le}
use Rattle.words.specs.Bytes.{little, number, part, Row}
use Rattle.words.proofs.Rows.{Below, below_take, below_drop}
use Rattle.words.proofs.Bytes.{little_long, number_little, little_number, number_lt}
use Rattle.words.proofs.Parts.{At, down, here, part_long}
use Rattle.scheduler.specs.Scheduler.{Stay, at}
use Rattle.scheduler.specs.Bytes.{stay_bytes, stay_in, places, stays_in}

-- ---- one place

-- what 256 bytes can list
pub record FitStay (x : Stay) : Type 0 where
  pub session_long : length x.session ≡ 240
  pub left_fits : x.left < 256 ^ 8
  pub mark_fits : x.mark < 256 ^ 8

module _ (x : Stay) (f : FitStay x) where
  pub stay_long : length (stay_bytes x) ≡ 256
  unfolding stay_bytes
  stay_long =
      let a = length-append (x.session ++ little 8 x.left) (little 8 x.mark) in
      let b = length-append x.session (little 8 x.left) in
      omega (arith, a, b, f.session_long, little_long 8 x.left, little_long 8 x.mark)

  module _ (r : List ℕ) where
    at0 : At (stay_bytes x ++ r) 0 (x.session ∷ little 8 x.left ∷ little 8 x.mark ∷ r ∷ [])
    unfolding stay_bytes
    at0 = record { is = simp (append_assoc, append-nil) }

    parts : (part 0 240 (stay_bytes x ++ r) ≡ x.session) × (part 240 8 (stay_bytes x ++ r) ≡ little 8 x.left) × (part 248 8 (stay_bytes x ++ r) ≡ little 8 x.mark)
    parts =
        let d240 = down at0 240 f.session_long in
        let d248 = down d240 8 (little_long 8 x.left) in
        (here at0 240 f.session_long, here d240 8 (little_long 8 x.left), here d248 8 (little_long 8 x.mark))

  pub stay_back : stay_in (stay_bytes x) ≡ x
  unfolding stay_in
  stay_back =
      let p = parts [] in
      let e = append-nil (stay_bytes x) in
      let s = ap (part 0 240) (sym e) ∙ p.0 in
      let l = ap (λ (b : List ℕ). number (part 240 8 b)) (sym e) ∙ ap number p.1 ∙ number_little 8 x.left f.left_fits in
      let m = ap (λ (b : List ℕ). number (part 248 8 b)) (sym e) ∙ ap number p.2 ∙ number_little 8 x.mark f.mark_fits in
      λ i. record { session = s i; left = l i; mark = m i }

module _ (b : List ℕ) (r : Row 256 256 b) where
  field_row : (n : ℕ) → n + 8 ≤ 256 → Row 8 256 (part n 8 b)
  field_row n h =
      record {
        long = part_long b n 8 (let l = r.long in omega arith);
        below = below_take 256 8 (drop n b) (lit< tt) (below_drop 256 n b r.below);
      }

  pub stay_fits : FitStay (stay_in b)
  unfolding stay_in
  stay_fits =
      record {
        session_long = part_long b 0 240 (let l = r.long in omega arith);
        left_fits = number_lt 8 (part 240 8 b) (field_row 240 (omega arith));
        mark_fits = number_lt 8 (part 248 8 b) (field_row 248 (omega arith));
      }

  pub stay_again : stay_bytes (stay_in b) ≡ b
  unfolding stay_bytes stay_in
  stay_again =
      let l = r.long in
      let two = ap₂ (λ (p q : List ℕ). take 240 b ++ p ++ q) (little_number 8 (part 240 8 b) (field_row 240 (omega arith))) (little_number 8 (part 248 8 b) (field_row 248 (omega arith))) in
      two
      ∙ ap (λ (p : List ℕ). p ++ part 248 8 b) (sym (take-add 240 8 b))
      ∙ sym (take-add 248 8 b)
      ∙ take_all 256 b (omega arith)

-- ---- places one behind the other

abbrev pub AllFit : List Stay → Type 0
AllFit [] = Unit
AllFit (x ∷ l) = FitStay x × AllFit l

pub all_append : (l m : List Stay) → AllFit l → AllFit m → AllFit (l ++ m)
all_append [] m f g = g
all_append (x ∷ l) m f g = (f.0, all_append l m f.1 g)

pub all_take : (n : ℕ) (l : List Stay) → AllFit l → AllFit (take n l)
all_take zero l f = tt
all_take (suc n) [] f = tt
all_take (suc n) (x ∷ l) f = (f.0, all_take n l f.1)

pub all_drop : (n : ℕ) (l : List Stay) → AllFit l → AllFit (drop n l)
all_drop zero l f = f
all_drop (suc n) [] f = tt
all_drop (suc n) (x ∷ l) f = all_drop n l f.1

pub places_append : (l m : List Stay) → places (l ++ m) ≡ places l ++ places m
unfolding places
places_append [] m = refl
places_append (x ∷ l) m = ap (λ (r : List ℕ). stay_bytes x ++ r) (places_append l m) ∙ sym (append_assoc (stay_bytes x) (places l) (places m))

pub places_long : (l : List Stay) → AllFit l → length (places l) ≡ 256 * length l
unfolding places
places_long [] f = refl
places_long (x ∷ l) f =
    let a = length-append (stay_bytes x) (places l) in
    omega (arith, a, stay_long x f.0, places_long l f.1)

-- the stays that places list, whatever stands behind them
pub stays_back : (l : List Stay) (r : List ℕ) → AllFit l → stays_in (length l) (places l ++ r) ≡ l
unfolding places stays_in
stays_back [] r f = refl
stays_back (x ∷ l) r f =
    let e = append_assoc (stay_bytes x) (places l) r in
    ap₂ (λ (y : Stay) (m : List Stay). y ∷ m)
    (ap (λ (b : List ℕ). stay_in (take 256 b)) e ∙ ap stay_in (take_at (stay_bytes x) (places l ++ r) 256 (stay_long x f.0)) ∙ stay_back x f.0)
    (ap (λ (b : List ℕ). stays_in (length l) (drop 256 b)) e
    ∙ ap (stays_in (length l)) (drop_at (stay_bytes x) (places l ++ r) 256 (stay_long x f.0)) ∙ stays_back l r f.1)

-- ---- the stays that bytes list

pub stays_long : (n : ℕ) (b : List ℕ) → length (stays_in n b) ≡ n
unfolding stays_in
stays_long zero b = refl
stays_long (suc n) b = ap suc (stays_long n (drop 256 b))

next_place : (b : List ℕ) (i : ℕ) → drop (256 * i) (drop 256 b) ≡ drop (256 * suc i) b
next_place b i = drop-drop (256 * i) 256 b ∙ ap (λ (k : ℕ). drop k b) (let e : 256 + 256 * i ≡ 256 * suc i = omega arith in e)

pub stays_at : (n i : ℕ) (b : List ℕ) → i < n → at (stays_in n b) i ≡ stay_in (part (256 * i) 256 b)
unfolding stays_in
stays_at zero i b h = absurd (omega arith)
stays_at (suc n) zero b h = refl
stays_at (suc n) (suc i) b h = stays_at n i (drop 256 b) (omega arith) ∙ ap (λ (r : List ℕ). stay_in (take 256 r)) (next_place b i)

pub stays_take : (i n : ℕ) (b : List ℕ) → i ≤ n → take i (stays_in n b) ≡ stays_in i b
unfolding stays_in
stays_take zero n b h = refl
stays_take (suc i) zero b h = absurd (omega arith)
stays_take (suc i) (suc n) b h = ap (λ (l : List Stay). stay_in (take 256 b) ∷ l) (stays_take i n (drop 256 b) (omega arith))

pub stays_drop : (i m : ℕ) (b : List ℕ) → drop i (stays_in (i + m) b) ≡ stays_in m (drop (256 * i) b)
unfolding stays_in
stays_drop zero m b = ap (λ (k : ℕ). stays_in k b) (let e : 0 + m ≡ m = omega arith in e)
stays_drop (suc i) m b =
    let e : suc i + m ≡ suc (i + m) = omega arith in
    ap (λ (k : ℕ). drop (suc i) (stays_in k b)) e ∙ stays_drop i m (drop 256 b) ∙ ap (stays_in m) (next_place b i)

pub stays_more : (n : ℕ) (b : List ℕ) → stays_in (n + 1) b ≡ stays_in n b ++ (stay_in (part (256 * n) 256 b) ∷ [])
unfolding stays_in
stays_more zero b = refl
stays_more (suc n) b =
    let e : suc n + 1 ≡ suc (n + 1) = omega arith in
    ap (λ (k : ℕ). stays_in k b) e
    ∙ ap (λ (l : List Stay). stay_in (take 256 b) ∷ l)
    (stays_more n (drop 256 b) ∙ ap (λ (r : List ℕ). stays_in n (drop 256 b) ++ (stay_in (take 256 r) ∷ [])) (next_place b n))

first_row : (b : List ℕ) → Below 256 b → 256 ≤ length b → Row 256 256 (take 256 b)
first_row b w h = record { long = length-take-le 256 b h; below = below_take 256 256 b (lit< tt) w }

pub all_fit : (n : ℕ) (b : List ℕ) → Below 256 b → 256 * n ≤ length b → AllFit (stays_in n b)
unfolding stays_in
all_fit zero b w h = tt
all_fit (suc n) b w h =
    (stay_fits (take 256 b) (first_row b w (omega arith)), all_fit n (drop 256 b) (below_drop 256 256 b w) (omega (arith, length-drop 256 b)))

pub places_again : (n : ℕ) (b : List ℕ) → Below 256 b → 256 * n ≤ length b → places (stays_in n b) ≡ take (256 * n) b
unfolding places stays_in
places_again zero b w h = refl
places_again (suc n) b w h =
    let e : 256 + 256 * n ≡ 256 * suc n = omega arith in
    ap₂ (λ (p q : List ℕ). p ++ q) (stay_again (take 256 b) (first_row b w (omega arith)))
    (places_again n (drop 256 b) (below_drop 256 256 b w) (omega (arith, length-drop 256 b)))
    ∙ sym (take-add 256 (256 * n) b) ∙ ap (λ (k : ℕ). take k b) e
