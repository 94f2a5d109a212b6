-- What a table with an entry for each byte is to hold: document 01, "a table of 256 bytes whose rule is shown over the whole table", and the words of document
-- 02, S-7.
use Rattle.std.specs.Prelude.{◌≡◌, List, ℕ, ◌<◌, get_or}

-- the list holds f's value at each byte
pub record Holds (f : ℕ → ℕ) (t : List ℕ) : Type 0 where
  pub rule : (b : ℕ) → b < 256 → get_or t b 0 ≡ f b
