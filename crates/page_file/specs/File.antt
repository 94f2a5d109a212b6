-- A page file (document 02, S-1): "A file is pages of 512 bytes". Its pages in file order, what it says of a stay, and when it breaks a rule.
use Rattle.std.specs.Prelude.{ℕ, ◌+◌, Bool, true, not, ◌&&◌, List, [], ◌∷◌, map, eqb, leb}
use Rattle.scope.specs.Limits.{most_page_text, last_day}
use Rattle.scope.specs.Refusals.{pick}
use Rattle.words.specs.Bytes.{same}
use Rattle.fields.specs.Fields.{every}
use Rattle.fields.specs.Blocks.{blocks, whole}
use Rattle.page_file.specs.Layout.{stay_of, page_number, departure, text_length}

-- the pages of a file, in file order
abbrev pub pages : (file : List ℕ) → List (List ℕ)
pages f = blocks f

-- ---- 13

-- not "a stored length over 474", nor "a stored day out of range"
unfoldable pub in_range : (page : List ℕ) → Bool
in_range b = leb (text_length b) most_page_text && leb (departure b) last_day

-- not "A file length that isn't a multiple of 512"; and "Stored lengths and days are tested by opening only, in every page of the file; an all-zero page
-- counts like any other"
unfoldable pub in_order : (file : List ℕ) → Bool
in_order f = whole f && every (map in_range (pages f))

-- ---- 14

-- the pages of a stay, in file order; an all-zero page is page 0 of the stay of 12 zeros
unfoldable pub of_stay : (stay : List ℕ) → List (List ℕ) → List (List ℕ)
of_stay s [] = []
of_stay s (b ∷ bs) = pick (same (stay_of b) s) (b ∷ of_stay s bs) (of_stay s bs)

-- "lacks the page named"
unfoldable pub lacks : ℕ → List (List ℕ) → Bool
lacks n bs = every (map (λ (b : List ℕ). not (eqb (page_number b) n)) bs)

-- "run 0, 1, 2 in file order": here from k on
unfoldable pub running : ℕ → List (List ℕ) → Bool
running k [] = true
running k (b ∷ bs) = eqb (page_number b) k && running (k + 1) bs

-- all hold that day
unfoldable pub all_on : (day : ℕ) → List (List ℕ) → Bool
all_on day bs = every (map (λ (b : List ℕ). eqb (departure b) day) bs)

-- not "hold different days": all hold the first one's
unfoldable pub one_day : List (List ℕ) → Bool
one_day [] = true
one_day (b ∷ bs) = all_on (departure b) bs

-- whether a stay with these pages has page n, and they are in order
unfoldable pub stay_in_order : ℕ → List (List ℕ) → Bool
stay_in_order n bs = not (lacks n bs) && running 0 bs && one_day bs

-- the page of that number, the first if there are several; where they run 0, 1, 2 there is one
unfoldable pub named : ℕ → List (List ℕ) → List ℕ
named n [] = []
named n (b ∷ bs) = pick (eqb (page_number b) n) b (named n bs)
