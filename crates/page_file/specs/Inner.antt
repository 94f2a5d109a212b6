-- What `read` and the private functions of `open` compute: their contracts name it.
use Rattle.std.specs.Prelude.{ℕ, ◌≤◌, ◌<◌, ◌≡◌, List, [], ◌∷◌, map, length, get_or, Option, Some, None, Result}
use Rattle.scope.specs.Limits.{most_page_text}
use Rattle.scope.specs.declared.Refusal.{Refusal}
use Rattle.scope.specs.Machine.{Answers}
use Rattle.fields.specs.Fields.{every}
use Rattle.page_file.specs.Layout.{departure, text_length}
use Rattle.page_file.specs.File.{in_range, of_stay, running, one_day}
use Rattle.page_file.specs.Calls.{content}
use Rattle.page_file.specs.declared.Seen.{Seen}
use Rattle.page_file.specs.declared.Content.{Content}

-- the day of the first of a stay's pages
abbrev pub first_day : List (List ℕ) → Option ℕ
first_day [] = None
first_day (b ∷ bs) = Some (departure b)

-- a place among these pages is that of page n of a stay's pages us; there is none where the stay has no such page
abbrev pub IsPlace : (bs us : List (List ℕ)) → (n : ℕ) → Option ℕ → Type 0
IsPlace bs us n None = length us ≤ n
IsPlace bs us n (Some j) = (n < length us) × (j < length bs) × (get_or bs j [] ≡ get_or us n [])

-- s says of these pages, and of page n of a stay among them, what the definitions say
pub record Surveyed (stay : List ℕ) (n : ℕ) (bs : List (List ℕ)) (s : Seen) : Type 0 where
  pub ranged : s.ranged ≡ every (map in_range bs)
  pub run : s.running ≡ running 0 (of_stay stay bs)
  pub dated : s.dated ≡ one_day (of_stay stay bs)
  pub counted : s.count ≡ length (of_stay stay bs)
  pub day : s.day ≡ first_day (of_stay stay bs)
  pub placed : IsPlace bs (of_stay stay bs) n s.place

-- the content of page b: the length of its text, and the text with its padding
pub record Holds (key b : List ℕ) (c : Content) : Type 0 where
  pub long : c.length ≡ text_length b
  pub found : c.text ≡ content key b
  pub fits : c.length ≤ most_page_text

-- what an open finds that answers n and opens page b
abbrev pub Finds : (n : ℕ) → (key b : List ℕ) → Result Content Refusal → Type 0
Finds n key b r = Answers r n (Holds key b)
