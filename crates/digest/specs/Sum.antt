-- A hash that is not over (document 01, "Sessions and parking"): the hash so far, and the bytes not yet hashed, from the left, with zeros behind them.
use Rattle.std.specs.Prelude.{ℕ, List}
use Rattle.words.specs.Bytes.{zeros}

pub record Sum : Type 0 where
  pub hash : List ℕ
  pub pending : List ℕ

-- a hash with no bytes held
abbrev pub fresh : List ℕ → Sum
fresh y = record { hash = y; pending = zeros }
