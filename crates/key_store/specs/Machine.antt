-- What the code's types are in the definitions' terms.
use Rattle.std.specs.Prelude.{ℕ, List, Result, Ok, Err, replicate}
use Rattle.scope.specs.declared.Refusal.{Refusal}
use Rattle.key_store.specs.Layout as Layout
use Rattle.key_store.specs.declared.Mark.{Mark}
use Rattle.key_store.specs.declared.Mark.TheVariants.{Empty, Held, Erased}

abbrev pub mark_number : Mark → ℕ
mark_number Empty = Layout.empty
mark_number Held = Layout.held
mark_number Erased = Layout.erased

-- the key that a fetch gives: zeros where it is refused
abbrev pub key_of : Result (List ℕ) Refusal → List ℕ
key_of (Ok k) = k
key_of (Err e) = replicate 32 0
