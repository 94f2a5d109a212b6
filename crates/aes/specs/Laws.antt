-- What is stated of the round undone beside the contracts. `undone` of proofs/Rounds.antt proves it.
use Rattle.std.specs.Prelude.{ℕ, ◌≡◌, List}
use Rattle.words.specs.Bytes.{IsBlock}
use Rattle.aes.specs.Round.{round}
use Rattle.aes.specs.Unround.{unround}

pub record RoundUndone : Type 0 where
  pub back : (s : List ℕ) → IsBlock s → unround (round s) ≡ s
  pub forth : (s : List ℕ) → IsBlock s → round (unround s) ≡ s
