-- Numbers as bytes, low byte first, parts of lists, and rows of numbers of one size. A byte is a number below 256. Document 01: a block is 16 bytes, and
-- byte 0 is its least significant one; key and IV words, cells and the words of ⊞32 are made of such bytes.
use Rattle.std.specs.Prelude.{◌≡◌, ℕ, zero, suc, ◌+◌, ◌*◌, ◌/◌, ◌%◌, ◌<◌, Bool, true, false, ◌&&◌, List, [], ◌∷◌, ◌++◌, length, take, drop, replicate, ◌==◌, slice_index}

-- the k low bytes of n, low byte first
unfoldable pub little : ℕ → ℕ → List ℕ
little zero n = []
little (suc k) n = n % 256 ∷ little k (n / 256)

-- the number that bytes spell, low byte first
unfoldable pub number : List ℕ → ℕ
number [] = 0
number (b ∷ s) = b + 256 * number s

-- numbers of k bytes each, as bytes
unfoldable pub littles : ℕ → List ℕ → List ℕ
littles k [] = []
littles k (x ∷ xs) = little k x ++ littles k xs

-- bytes as n numbers of k bytes each
unfoldable pub numbers : (k n : ℕ) → List ℕ → List ℕ
numbers k zero s = []
numbers k (suc n) s = number (take k s) ∷ numbers k n (drop k s)

-- k bytes from byte `at` on
abbrev pub part : (at k : ℕ) → List ℕ → List ℕ
part at k s = take k (drop at s)

-- lists one behind the other
abbrev pub joined : List (List ℕ) → List ℕ
joined [] = []
joined (x ∷ xs) = x ++ joined xs

-- whether two lists are the same
unfoldable pub same : List ℕ → List ℕ → Bool
same [] [] = true
same [] (y ∷ t) = false
same (x ∷ s) [] = false
same (x ∷ s) (y ∷ t) = x == y && same s t

-- n numbers below m. Past the end `get_or` gives 0, which is below every m of use here, so that `below` says it of the n numbers and of nothing else
pub record Row (n m : ℕ) (s : List ℕ) : Type 0 where
  pub long : length s ≡ n
  pub below : (i : ℕ) → slice_index s i < m

-- a block: 16 bytes
abbrev pub IsBlock : List ℕ → Type 0
IsBlock = Row 16 256

-- a block of zeros
abbrev pub zeros : List ℕ
zeros = replicate 16 0
