-- What reading standard input answers. No contract can say which bytes the system gives; where a reader's bytes are known, as those of a list in
-- memory, `Took` and `Answers` say what becomes of them.
use Rattle.std.specs.Prelude.{ℕ, ◌≤◌, ◌≡◌, List, length, take, None, Some, Result, Ok, Err}
use Rattle.std.specs.declared.option.Option.{Option}
use Rattle.std.specs.Io.KnownBytes.{Appends}
use Rattle.scope.specs.Refusals.{malformed}
use Rattle.command.specs.Output.{Answer.refused, printed, output}

-- so many bytes stand at the front of the buffer; the second part follows from the first
abbrev pub Counted : {E : Type 0} → (buffer : List ℕ) → Result ℕ E → Type 0
Counted b (Ok n) = (n ≤ length b) × (n ≡ length (take n b))
Counted b (Err e) = Unit

-- what stands at the front of a buffer is all that a reader had, or as much of it as fits
abbrev pub Took : {E : Type 0} → (had : Option (List ℕ)) (buffer : List ℕ) → Result ℕ E → Type 0
Took None b r = Unit
Took (Some s) b (Ok n) = take n b ≡ take (length b) s
Took (Some s) b (Err e) = Unit

-- what is written on an input of so many bytes: the output, or the refusal of one that could not be read to its end
abbrev pub Answers : (had : Option (List ℕ)) → Option ℕ → (before after : Option (List ℕ)) → Type 0
Answers None (Some n) before after = Unit
Answers (Some s) (Some n) before after = Appends before after (output s)
Answers had None before after = Appends before after (printed (refused malformed))
