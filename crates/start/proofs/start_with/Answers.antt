-- `start::start_with` meets its contract, by the lengths of key and IV.
use mathlib.Core.Path.{◌≡◌, sym, ap, ap₂, ◌∙◌}
use mathlib.Core.List.{List}
use Prim.Native.Nat.{ℕ}
use native.Mathlib.Omega.{arith}
use lib.ListN.{length}
use Rattle.cipher.specs.Registers.{Registers}
use Rattle.cipher.specs.State.{State}
use Rattle.start.specs.Start.{start}
use Rattle.start.proofs.Answers.{lengths_right, key_whole, iv_whole}
use Rattle.start.specs.Machine.{mode_of}
use Rattle.start.proofs.start_with.Goals as goal
use Rattle.start.proofs.start_with.Goals.{In_ok-lengths}

abbrev at_start : Registers → State
at_start r = record { registers = r; count = 0 }

right : (c : In_ok-lengths) → (length c.args.key.now ≡ 32) × (length c.args.iv.now ≡ 16)
right c = lengths_right _ _ (sym (c.in_ok-lengths.ensures))

pub returns : goal.returns
returns c =
    let a = c.args in
    let r = right (goal.at.returns c).In_ok-lengths in (
      c.in_ok-lengths.ensures,
      ap at_start (c.sixteen_steps-registers.ensures
          ∙ ap₂ (λ (k v : List ℕ). start k v (mode_of a.mode)) (key_whole a.key.now _ _ r.0 c.load.ensures c.load-2.ensures)
          (iv_whole a.iv.now _ r.1 c.load-3.ensures)),
    )

pub load-requires : goal.load-requires
load-requires c = omega (arith, right (goal.at.load-requires c).In_ok-lengths)

pub load-requires-2 : goal.load-requires-2
load-requires-2 c = omega (arith, right (goal.at.load-requires-2 c).In_ok-lengths)

pub load-requires-3 : goal.load-requires-3
load-requires-3 c = omega (arith, right (goal.at.load-requires-3 c).In_ok-lengths)
