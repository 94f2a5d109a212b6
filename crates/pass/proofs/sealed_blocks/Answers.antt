-- `pass::sealed_blocks` meets its contract: after each batch, of every pass whose blocks these are, the blocks up to there are written and hashed. Within a
-- batch the same holds after every block.
use Prim.Native.Nat.{ℕ, ◌+◌, ◌*◌, min}
use mathlib.Core.Path.{◌≡◌, refl, ap, subst, ◌∙◌}
use native.Mathlib.Omega.{arith}
use lib.ListN.{length}
use Rattle.ghash.specs.Machine.{bytes_of_element}
use Rattle.cipher.specs.Registers.{IsRegisters}
use Rattle.cipher.specs.Run.{forward, moves}
use Rattle.cipher.specs.Machine.{registers_of}
use Rattle.cipher.proofs.Typed.{every_registers}
use Rattle.cipher.proofs.Moves.{moves_add}
use Rattle.cipher.proofs.Running.{batch_leads}
use Rattle.pass.specs.Pass.{Sealed}
use Rattle.pass.proofs.Sealing.{sealed_none, sealed_joined}
use Rattle.pass.proofs.sealed_blocks.Goals as goal
use Rattle.pass.proofs.sealed_blocks.Goals.{After-sealed_batch-v, Start}

good : (c : Start) → IsRegisters (registers_of c.args.t.registers)
good c = every_registers c.args.t.registers _ c.well_formed.0.1.1.0

pub loop-i-init : goal.loop-i-init
unfolding moves
loop-i-init c =
    let a = c.args in
    let S = registers_of a.t.registers in
    let e : 0 ≡ min 0 a.n = omega arith in (
      subst (λ (k : ℕ). Sealed (bytes_of_element a.h) S a.text.now a.from a.n a.out.now (bytes_of_element a.t.hash) k a.out.now (bytes_of_element a.t.hash)) e
          (sealed_none (bytes_of_element a.h) S (good (goal.at.loop-i-init c).Start) a.text.now a.from a.n a.out.now (bytes_of_element a.t.hash)),
      refl,
      ap (λ (k : ℕ). moves forward k S) e,
    )

-- what holds i blocks on, or n
abbrev So : (c : After-sealed_batch-v) → ℕ → Type 0
So c i =
    let a = c.args in
    let S = registers_of a.t.registers in
    let w = c.sealed_batch-v in
    Sealed (bytes_of_element a.h) S a.text.now a.from a.n a.out.now (bytes_of_element a.t.hash) i w.new.out (bytes_of_element w.result.hash)
    × (length w.new.out ≡ length a.out.now) × (registers_of w.result.registers ≡ moves forward i S)

more : (c : After-sealed_batch-v) → So c (min (c.loop-i.i + 16) c.args.n)
more c =
    let w = c.sealed_batch-v in
    let l = c.loop-i in
    let a = c.args in
    let S = registers_of a.t.registers in
    let g = every_registers a.t.registers _ c.well_formed.0.1.1.0 in
    let k = c.at_most-k.result in
    let most = c.at_most-k.ensures.1 in
    let h = c.loop-i-test.true in
    let i = min l.i a.n in
    let e : l.i ≡ i = omega (arith, h) in
    let f : i + k ≡ min (l.i + 16) a.n = ap (λ (m : ℕ). i + m) c.at_most-k.ensures.3 ∙ batch_leads l.i a.n h in
    subst (So c) f (
      sealed_joined (bytes_of_element a.h) S g a.text.now a.from a.n a.out.now (bytes_of_element a.t.hash) i k (omega (arith, most, h)) l.invariant.2 l.invariant.0
          (subst (λ (m : ℕ). Sealed (bytes_of_element a.h) (registers_of l.u.registers) a.text.now (a.from + 16 * m) k l.out (bytes_of_element l.u.hash) k w.new.out (bytes_of_element w.result.hash)) e w.ensures.pass),
      w.auto.out ∙ l.invariant.1,
      w.ensures.registers ∙ ap (moves forward k) l.invariant.2 ∙ moves_add forward i k S,
    )

pub loop-i-preserved : goal.loop-i-preserved
loop-i-preserved c = more (goal.at.loop-i-preserved c).After-sealed_batch-v

pub returns-2 : goal.returns-2
returns-2 c =
    let p = more (goal.at.returns-2 c).After-sealed_batch-v in
    let e : min (c.loop-i.i + 16) c.args.n ≡ c.args.n = omega arith in
    let q = subst (So (goal.at.returns-2 c).After-sealed_batch-v) e p in
    record { registers = q.2; pass = q.0 }
