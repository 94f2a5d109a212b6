-- What the private functions compute: their contracts name it.
use Rattle.std.specs.Prelude.{ℕ, ◌≡◌, Bool, not, ◌&&◌, List, [], map, ◌<◌, Option, MatchOption, Result}
use Rattle.std.specs.Bool.{then_some}
use Rattle.scope.specs.Refusals.{refuse, bad_tag}
use Rattle.scope.specs.declared.Refusal.{Refusal}
use Rattle.scope.specs.Machine.{Answers}
use Rattle.words.specs.Bytes.{same}
use Rattle.fields.specs.Fields.{every}
use Rattle.page.specs.Page.{cipher_of, tag_for}
use Rattle.key_store.specs.Layout.{iv_of, sealed_in, tag_in, well_laid}
use Rattle.key_store.specs.Store.{is_empty, present, holds, any, first, once}
use Rattle.key_store.specs.Machine.{mark_number}
use Rattle.key_store.specs.declared.Mark.{Mark}
use Rattle.key_store.specs.declared.Seen.{Seen}

-- what is read of a byte that ought to be a mark
abbrev pub Reads : (byte : ℕ) → Option Mark → Type 0
Reads b m = MatchOption m (2 < b) (λ k. mark_number k ≡ b)

-- a block has, with mark 1 or 2, a number that one of those before it has
abbrev pub repeats : (block : List ℕ) → (before : List (List ℕ)) → Bool
repeats b bs = not (is_empty b) && any (present (iv_of b)) bs

-- the place of the first block of which a test holds, if it holds of one
abbrev pub place : (List ℕ → Bool) → List (List ℕ) → Option ℕ
place p bs = then_some (any p bs) (first p bs)

-- s says of these blocks, and of a number among them, what the definitions say; w is whether there are whole blocks only
pub record Surveyed (iv : List ℕ) (w : Bool) (bs : List (List ℕ)) (s : Seen) : Type 0 where
  pub sound : s.sound ≡ (w && (every (map well_laid bs) && once bs))
  pub empty : s.empty ≡ place is_empty bs
  pub present : s.present ≡ place (present iv) bs
  pub holding : s.holding ≡ place (holds iv) bs

-- a fetch from this block, whose number comes first: 5 or the key
abbrev pub open_number : (key iv block : List ℕ) → ℕ
open_number key iv b = refuse (not (same (tag_in b) (tag_for key iv [] (sealed_in b)))) bad_tag 0

abbrev pub Opens : (key iv block : List ℕ) → Result (List ℕ) Refusal → Type 0
Opens key iv b r = Answers r (open_number key iv b) (λ k. k ≡ cipher_of key iv (sealed_in b))
