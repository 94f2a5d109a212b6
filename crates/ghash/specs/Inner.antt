-- What only inner functions' contracts use: a table's entries as they are filled in, and the indices and shares by which a product is read off it.
use Rattle.std.specs.Prelude.{ℕ, zero, suc, ◌+◌, ◌-◌, ◌*◌, ◌/◌, ◌%◌, ◌^◌, ◌≤◌, ◌≡◌, List, [], ◌∷◌, ◌++◌, map, length}
use Rattle.words.specs.Xor.{◌⊕◌}
use Rattle.words.specs.Bytes.{part}
use Rattle.ghash.specs.Field.{product}
use Rattle.ghash.specs.Hash.{big}
use Rattle.ghash.specs.Machine.{bytes_of_element, Table}
use Rattle.ghash.specs.declared.Element.{Element}
use Rattle.ghash.specs.declared.Number.{Number}

-- ---- filling

-- bytes 0 to 7 are the high half
abbrev pub number_of : Number → ℕ
number_of v = v.hi * 2 ^ 64 + v.lo

-- all entries
unfoldable pub entries : List ℕ → List ℕ
entries [] = []
entries (a ∷ []) = []
entries (a ∷ b ∷ t) = big (bytes_of_element (record { lo = a; hi = b })) ∷ entries t

-- w, and w with each sum of a and b
abbrev pub fours : (w a b ab : ℕ) → List ℕ
fours w a b ab = w ∷ (w ⊕ a) ∷ (w ⊕ b) ∷ (w ⊕ ab) ∷ []

-- f k, f (k + 1) and so on, n of them
abbrev pub row : (n k : ℕ) → (ℕ → ℕ) → List ℕ
row zero k f = []
row (suc n) k f = f k ∷ row n (suc k) f

-- the 16 values of the leftmost place, • V
unfoldable pub multiples : ℕ → List ℕ
multiples v = row 16 0 (λ k. product (k * 2 ^ 124) v)

-- ---- reading

-- twice the high, twice the low four bits of each byte
abbrev pub highs : List ℕ → List ℕ
highs = map (λ b. b / 16 * 2)

abbrev pub lows : List ℕ → List ℕ
lows = map (λ b. b % 16 * 2)

-- where the entries of a block's bytes stand within their places
unfoldable pub indices : List ℕ → List ℕ
indices s = highs s ++ lows s

-- what n bytes of a block from byte k on, at their places, • H make
unfoldable pub share : (s h : List ℕ) (k n : ℕ) → ℕ
share s h k n = product (big (part k n s) * 256 ^ (16 - (k + n))) (big h)

-- the indices of s stand in m at a place, and the table is that of h
pub record Read (s h m : List ℕ) (at : ℕ) (table : List ℕ) : Type 0 where
  pub within : at + 32 ≤ length m
  pub of_s : part at 32 m ≡ indices s
  pub of_h : Table h table

-- a to d are the shares of bytes 0 to 3, 4 to 7, 8 to 11 and 12 to 15
pub record Quarters (s h : List ℕ) (a b c d : Element) : Type 0 where
  pub first : big (bytes_of_element a) ≡ share s h 0 4
  pub second : big (bytes_of_element b) ≡ share s h 4 4
  pub third : big (bytes_of_element c) ≡ share s h 8 4
  pub fourth : big (bytes_of_element d) ≡ share s h 12 4
