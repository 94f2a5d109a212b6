-- Lists of bytes, one function at each byte; and the numbers that they spell, which masks and products go through byte by byte.
use mathlib.Core.Path.{◌≡◌, refl, sym, ap, ap₂, ◌∙◌}
use mathlib.Core.List.{List, [], ◌∷◌, map}
use Prim.Native.Nat.{ℕ, zero, suc, ◌+◌, ◌*◌, ◌^◌, ◌<◌}
use native.Mathlib.Omega.{arith}
use native.Mathlib.Nat.{add-mul, mul_assoc, zero-mul}
use lib.Bits.{bit_and, and_block}
use lib.Dec.{lit<}
use lib.ListN.{length, replicate, length-map}
use Rattle.words.specs.Xor.{◌⊕◌, xors}
use Rattle.words.specs.Bytes.{number, Row}
use Rattle.words.proofs.Rows.{Below}

module _ (f : ℕ → ℕ) (small : (b : ℕ) → f b < 256) where
  map_below : (s : List ℕ) → Below 256 (map f s)
  map_below [] i = lit< tt
  map_below (b ∷ s) zero = small b
  map_below (b ∷ s) (suc i) = map_below s i

  pub map_row : (n : ℕ) (s : List ℕ) → length s ≡ n → Row n 256 (map f s)
  map_row n s e = record { long = length-map s f ∙ e; below = map_below s }

pub map_undo : (f g : ℕ → ℕ) → ((b : ℕ) → b < 256 → g (f b) ≡ b) → (s : List ℕ) → Below 256 s → map g (map f s) ≡ s
map_undo f g u [] h = refl
map_undo f g u (b ∷ s) h = ap₂ (λ (x : ℕ) (l : List ℕ). x ∷ l) (u b (h 0)) (map_undo f g u s (λ i. h (suc i)))

pub map_same : (f g : ℕ → ℕ) → ((b : ℕ) → b < 256 → f b ≡ g b) → (s : List ℕ) → Below 256 s → map f s ≡ map g s
map_same f g e [] h = refl
map_same f g e (b ∷ s) h = ap₂ (λ (x : ℕ) (l : List ℕ). x ∷ l) (e b (h 0)) (map_same f g e s (λ i. h (suc i)))

pub xors_map : (f g : ℕ → ℕ) (s : List ℕ) → xors (map f s) (map g s) ≡ map (λ b. f b ⊕ g b) s
unfolding xors
xors_map f g [] = refl
xors_map f g (b ∷ s) = ap (λ (l : List ℕ). (f b ⊕ g b) ∷ l) (xors_map f g s)

-- ---- what they spell

pub number_and : (m : ℕ) → m < 256 → (s : List ℕ) → Below 256 s
    → bit_and (number s) (number (replicate (length s) m)) ≡ number (map (λ b. bit_and b m) s)
unfolding number
number_and m hm [] h = refl
number_and m hm (b ∷ s) h =
    let x = number s in
    let y = number (replicate (length s) m) in
    ap₂ bit_and (swap b x) (swap m y) ∙ and_block 8 x y b m (h 0) hm ∙ sym (swap (bit_and b m) (bit_and x y))
    ∙ ap (λ (n : ℕ). bit_and b m + 256 * n) (number_and m hm s (λ i. h (suc i)))
  where
    swap : (b x : ℕ) → b + 256 * x ≡ x * 2 ^ 8 + b
    swap b x = omega arith

pub number_times : (k : ℕ) (f : ℕ → ℕ) (s : List ℕ) → number (map (λ b. f b * k) s) ≡ number (map f s) * k
unfolding number
number_times k f [] = sym (zero-mul k)
number_times k f (b ∷ s) =
    let n = number (map f s) in
    ap (λ (x : ℕ). f b * k + 256 * x) (number_times k f s) ∙ sym (add-mul (f b) (256 * n) k ∙ ap (λ (x : ℕ). f b * k + x) (mul_assoc 256 n k))
