-- A key store (document 02, S-6): blocks of 512 bytes, one behind the other. What it says of a stay number, and when it breaks the layout.
use Rattle.std.specs.Prelude.{ℕ, zero, suc, Bool, true, false, not, ◌&&◌, ◌||◌, List, [], ◌∷◌, map, eqb, get_or}
use Rattle.scope.specs.Refusals.{pick}
use Rattle.words.specs.Bytes.{same}
use Rattle.fields.specs.Fields.{every}
use Rattle.fields.specs.Blocks.{blocks, whole}
use Rattle.key_store.specs.Layout.{empty, held, mark_of, iv_of, well_laid}

-- ---- tests of a block

abbrev pub is_empty : (block : List ℕ) → Bool
is_empty b = eqb (mark_of b) empty

-- "present with mark 1 or 2": a mark over 2 breaks a rule, so that where it matters not empty is mark 1 or 2
abbrev pub present : (iv block : List ℕ) → Bool
present iv b = not (is_empty b) && same (iv_of b) iv

-- present, and not erased
abbrev pub holds : (iv block : List ℕ) → Bool
holds iv b = eqb (mark_of b) held && same (iv_of b) iv

-- ---- tests of blocks

-- whether a test holds of one of them
unfoldable pub any : (List ℕ → Bool) → List (List ℕ) → Bool
any p [] = false
any p (b ∷ bs) = p b || any p bs

-- the place of the first of which it holds; as many as there are where it holds of none
unfoldable pub first : (List ℕ → Bool) → List (List ℕ) → ℕ
first p [] = zero
first p (b ∷ bs) = pick (p b) zero (suc (first p bs))

-- and that block
abbrev pub found : (List ℕ → Bool) → List (List ℕ) → List ℕ
found p bs = get_or bs (first p bs) []

-- not "a number present twice with mark 1 or 2"
unfoldable pub once : List (List ℕ) → Bool
once [] = true
once (b ∷ bs) = (is_empty b || not (any (present (iv_of b)) bs)) && once bs

-- not "A block or shelf length that breaks the layout, or a number present twice with mark 1 or 2"
unfoldable pub well_kept : (store : List ℕ) → Bool
well_kept s = whole s && (every (map well_laid (blocks s)) && once (blocks s))
