-- What is stated of a block beside the contracts. `read_and_written` of proofs/ReadAndWritten.antt proves it.
use Rattle.std.specs.Prelude.{ℕ, ◌≤◌, ◌<◌, ◌≡◌, true, List, length, get_or, replicate}
use Rattle.words.specs.Bytes.{zeros}
use Rattle.key_store.specs.Layout.{empty, held, Entry, block_of, read, well_laid}

-- what may be written, so that its block obeys the rules
pub record Fine (e : Entry) : Type 0 where
  pub mark_is : e.mark ≤ 2
  pub iv_long : length e.iv ≡ 16
  pub sealed_long : length e.sealed ≡ 32
  pub tag_long : length e.tag ≡ 16
  pub no_iv : e.mark ≡ empty → e.iv ≡ zeros
  pub no_sealed : ¬ (e.mark ≡ held) → e.sealed ≡ replicate 32 0
  pub no_tag : ¬ (e.mark ≡ held) → e.tag ≡ zeros

pub record ReadAndWritten : Type 0 where
  -- A block that is written obeys the rules, and reads back as what it was written for.
  pub laid : (e : Entry) → Fine e → well_laid (block_of e) ≡ true
  pub reads_back : (e : Entry) → Fine e → read (block_of e) ≡ e
  -- Bytes that obey the rules are the block of what is read from them, and that is fine to write (a lent store holds bytes: `known_bytes` of
  -- crates/words/proofs/Typed.antt).
  pub fine : (b : List ℕ) → ((i : ℕ) → get_or b i 0 < 256) → well_laid b ≡ true → Fine (read b)
  pub only_block : (b : List ℕ) → ((i : ℕ) → get_or b i 0 < 256) → well_laid b ≡ true → block_of (read b) ≡ b
