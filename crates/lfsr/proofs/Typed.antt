-- What the type of the code's registers says of them: every value of it has sixteen cells of 16 bits in each.
use mathlib.Core.List.{List}
use Prim.Native.Nat.{ℕ}
use borrow.Author.Rules.{rules}
use lib.ListN.{get_or}
use mir.Syntax.{w16}
use mir.Val.{Val, Fits}
use denote.Shadow.{shadow}
use Rattle.lfsr.specs.declared.Lfsr as machine
use Rattle.lfsr.specs.Clock.{IsLfsr}
use Rattle.lfsr.specs.Machine.{lfsr_of}
use Rattle.lfsr.specs.contracts.Lfsr.{the_row}

pub every_lfsr : (s : machine.Lfsr) (vs : List Val) → shadow (the_row.own_val s vs) → IsLfsr (lfsr_of s)
every_lfsr s vs h =
    let fa : (i : ℕ) → Fits w16 (get_or s.a i 0) = λ i. search rules in
    let fb : (i : ℕ) → Fits w16 (get_or s.b i 0) = λ i. search rules in
    record {
      in_a = record { long = search rules; below = λ i. (fa i).fits };
      in_b = record { long = search rules; below = λ i. (fb i).fits };
    }
