-- What is said of a lent slice of which the front part is handed back, so that what it ends as cannot be read off its last list yet.
use Rattle.std.specs.Prelude.{ℕ, List, ◌++◌}
use Rattle.std.specs.Borrow.{Lends, MutBor, Array, Fml, u8}

-- The front part r of x, with rest behind it: whoever lent the slice x finds, once the borrow is over, the list that r ends as, and behind it
-- the rest. Where nothing is behind it x ends as r does.
abbrev pub front_of : (x r : MutBor (List ℕ)) → List ℕ → Fml
front_of x r rest = Lends (Array u8 0) (Array u8 0) x r (λ (front : List ℕ). front ++ rest)
