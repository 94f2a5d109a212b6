-- Lists of calls on a key store, refused ones included: the store that they leave, and what they did with a stay number.
use Rattle.std.specs.Prelude.{ℕ, ◌≡◌, Bool, true, false, not, ◌&&◌, ◌||◌, List, [], ◌∷◌, length}
use Rattle.scope.specs.Refusals.{granted}
use Rattle.words.specs.Bytes.{same}
use Rattle.key_store.specs.Store.{any}
use Rattle.key_store.specs.Calls.{store_number, store_after, erase_after}

-- a call, and all that it is handed beside the store
pub data Call : Type 0 where
  store : (key iv stay-key : List ℕ) → Call
  fetch : (key iv : List ℕ) → Call
  erase : (iv : List ℕ) → Call

-- the store that a call leaves: a fetch only reads it
abbrev pub left : Call → (store : List ℕ) → List ℕ
left (store key iv k) s = store_after key iv k s
left (fetch key iv) s = s
left (erase iv) s = erase_after iv s

-- the store that a list of calls leaves
unfoldable pub after : List Call → (store : List ℕ) → List ℕ
after [] s = s
after (c ∷ cs) s = after cs (left c s)

-- ---- what is done with a number

abbrev pub stores : (iv : List ℕ) → Call → Bool
stores iv (store key v k) = same v iv
stores iv (fetch key v) = false
stores iv (erase v) = false

abbrev pub erases : (iv : List ℕ) → Call → Bool
erases iv (store key v k) = false
erases iv (fetch key v) = false
erases iv (erase v) = same v iv

-- no call of a list, accepted or not, erases it
unfoldable pub never_erases : (iv : List ℕ) → List Call → Bool
never_erases iv [] = true
never_erases iv (c ∷ cs) = not (erases iv c) && never_erases iv cs

-- no call of a list, accepted or not, stores a key for it or erases it
unfoldable pub never_names : (iv : List ℕ) → List Call → Bool
never_names iv [] = true
never_names iv (c ∷ cs) = not (stores iv c || erases iv c) && never_names iv cs

-- the numbers of the stores that were accepted, in their order
unfoldable pub accepted : List Call → (store : List ℕ) → List (List ℕ)
accepted [] s = []
accepted (store key iv k ∷ cs) s =
    granted (store_number key iv k s) (iv ∷ accepted cs (store_after key iv k s)) (accepted cs (store_after key iv k s))
accepted (fetch key iv ∷ cs) s = accepted cs s
accepted (erase iv ∷ cs) s = accepted cs (erase_after iv s)

-- no two of them are the same
unfoldable pub apart : List (List ℕ) → Bool
apart [] = true
apart (v ∷ vs) = not (any (same v) vs) && apart vs

-- ---- the same calls but for a stay's key

-- two calls that are one, or that both store a key for the number, under one season key, and hand over keys of one length
pub data Alike (iv : List ℕ) : Call → Call → Type 0 where
  one : (c : Call) → Alike iv c c
  other_key : (key k k' : List ℕ) → length k ≡ length k' → Alike iv (store key iv k) (store key iv k')

-- two lists of such calls, one by one
pub data AllAlike (iv : List ℕ) : List Call → List Call → Type 0 where
  none : AllAlike iv [] []
  more : (c c' : Call) (cs cs' : List Call) → Alike iv c c' → AllAlike iv cs cs' → AllAlike iv (c ∷ cs) (c' ∷ cs')
