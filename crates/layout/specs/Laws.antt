-- What is stated of the block beside the contracts. `read_and_written` of proofs/ReadAndWritten.antt proves it.
use Rattle.std.specs.Prelude.{ℕ, ◌%◌, ◌<◌, ◌≤◌, ◌≡◌, true, List, get_or}
use Rattle.scope.specs.Limits.{most_data, most_text}
use Rattle.words.specs.Bytes.{IsBlock}
use Rattle.cipher.specs.Registers.{IsRegisters}
use Rattle.layout.specs.Block.{Suspended, block_of, read}
use Rattle.layout.specs.Rules.{phase_length, well_laid}

-- what may be written, so that its block obeys the rules
pub record Fine (k : Suspended) : Type 0 where
  pub phase_is : k.phase ≤ 1
  pub ad_fits : k.ad ≤ most_data
  pub text_fits : k.text ≤ most_text
  pub text_none : k.phase ≡ 0 → k.text ≡ 0
  pub registers_good : IsRegisters k.registers
  pub hash_block : IsBlock k.sum.hash
  pub pending_block : IsBlock k.sum.pending
  pub zeros_behind : (i : ℕ) → phase_length k.phase k.ad k.text % 16 ≤ i → get_or k.sum.pending i 0 ≡ 0

pub record ReadAndWritten : Type 0 where
  -- A block that is written obeys the rules, and reads back as what it was written for.
  pub laid : (k : Suspended) → Fine k → well_laid (block_of k) ≡ true
  pub reads_back : (k : Suspended) → Fine k → read (block_of k) ≡ k
  -- Bytes that obey the rules are the block of what is read from them, and that is fine to write.
  pub fine : (b : List ℕ) → ((i : ℕ) → get_or b i 0 < 256) → well_laid b ≡ true → Fine (read b)
  pub only_block : (b : List ℕ) → ((i : ℕ) → get_or b i 0 < 256) → well_laid b ≡ true → block_of (read b) ≡ b
