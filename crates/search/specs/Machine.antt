-- Document 01's numbers and values for each case of the code's answer to a search: the IV is the two halves' bytes, low byte first.
use Rattle.std.specs.Prelude.{◌≡◌, ◌++◌, Result, Ok, Err}
use Rattle.scope.specs.declared.Refusal.{Refusal}
use Rattle.scope.specs.Machine.{refusal_number}
use Rattle.words.specs.Bytes.{little}
use Rattle.start.specs.Machine.{mode_of}
use Rattle.search.specs.declared.Located.{Located}
use Rattle.search.specs.declared.NotFound.{NotFound}
use Rattle.search.specs.Search.{Searched, Searched.found, Searched.refused}

abbrev pub searched_of : Result Located NotFound → Searched
searched_of (Ok l) = found l.count (little 8 l.lo ++ little 8 l.hi) (mode_of l.mode) l.steps
searched_of (Err r) = refused (refusal_number r.refusal) r.steps

-- a refusal before the walk, of which no step was walked
abbrev pub Unwalked : Refusal → NotFound → Type 0
Unwalked e r = r ≡ record { refusal = e; steps = 0 }
