-- The tag that a seal of the code gives, in the definitions' terms: zeros where it is refused.
use Rattle.std.specs.Prelude.{ℕ, List, Result, Ok, Err}
use Rattle.scope.specs.declared.Refusal.{Refusal}
use Rattle.words.specs.Bytes.{zeros}

abbrev pub tag_of : Result (List ℕ) Refusal → List ℕ
tag_of (Ok t) = t
tag_of (Err e) = zeros
