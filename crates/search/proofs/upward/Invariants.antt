-- `search::upward` meets its contract: at each turn the registers lie as many steps back as the count says, as many steps are counted as were walked, and what is
-- found from this count on is what the whole range has.
use Prim.Native.Nat.{ℕ, ◌+◌, ◌*◌, ◌-◌}
use mathlib.Core.Path.{◌≡◌}
use mathlib.Core.List.{List, ◌++◌}
use Rattle.words.specs.Machine.{bytes_of}
use Rattle.words.specs.declared.Block.{Block}
use Rattle.cipher.specs.Registers.{Registers}
use Rattle.cipher.specs.Run.{backward, moves}
use Rattle.cipher.specs.Machine.{registers_of}
use Rattle.search.specs.Counts.{upward}
use Rattle.search.proofs.upward.Given as goal

abbrev pub key_of : Block → Block → List ℕ
key_of low high = bytes_of low ++ bytes_of high

-- t lies c steps behind the registers s, steps are counted so far, and the counts from c on have what the whole range has
pub record Stands (low high : Block) (s : Registers) (lowest highest c : ℕ) (t : Registers) (steps : ℕ) : Type 0 where
  pub back : t ≡ moves backward c s
  pub counted : steps ≡ c + 16 * (c - lowest)
  pub rest : upward (key_of low high) s lowest c (highest - c) ≡ upward (key_of low high) s lowest lowest (highest - lowest)

abbrev pub invariant-loop-c : goal.invariant-loop-c
invariant-loop-c l = Stands l.low l.high (registers_of l.fn.s) l.lowest l.highest l.c (registers_of l.w.registers) l.w.steps
