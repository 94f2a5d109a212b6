-- `pass::sealed_batch` meets its contract: after i turns, of every pass whose blocks these are, i blocks more are written and hashed, and the lanes stand
-- at step i.
use Prim.Native.Nat.{ℕ, ◌+◌, ◌*◌, ◌≤◌, zero-le}
use mathlib.Core.Path.{◌≡◌, refl, sym, ap, ap₂, subst, ◌∙◌}
use mathlib.Core.List.{List}
use native.Mathlib.Omega.{arith}
use lib.ListN.{length}
use lib.Seq.{length-sets}
use Rattle.words.specs.Xor.{xors}
use Rattle.words.specs.Bytes.{littles, part}
use Rattle.words.specs.Sums.{◌⊞◌}
use Rattle.words.specs.Machine.{bytes_of}
use Rattle.words.proofs.Blocks.{bytes_of_block}
use Rattle.ghash.specs.Hash.{eat}
use Rattle.ghash.specs.Machine.{bytes_of_element}
use Rattle.ghash.proofs.Padding.{padded_none}
use Rattle.cipher.specs.Registers.{IsRegisters}
use Rattle.cipher.specs.Step.{sigma}
use Rattle.cipher.specs.Run.{forward, moves}
use Rattle.cipher.specs.Machine.{registers_of}
use Rattle.cipher.proofs.Typed.{every_registers}
use Rattle.cipher.proofs.Standing.{Standing, Turned, standing_first, batch_z, batch_stands, standing_read, moves_lfsr}
use Rattle.pass.specs.Pass.{Sealed}
use Rattle.pass.proofs.Sealing.{sealed_none, sealed_more}
use Rattle.pass.proofs.sealed_batch.Goals as goal
use Rattle.pass.proofs.sealed_batch.Goals.{After-output-z, In-loop-i, Start}

good : (c : Start) → IsRegisters (registers_of c.args.t.registers)
good c = every_registers c.args.t.registers _ c.well_formed.0.1.1.0

read : (c : In-loop-i) → c.args.from + 16 * c.loop-i.i + 16 ≤ length c.args.text.now
read c = let h = c.requires.1 in omega arith

pub loop-i-init : goal.loop-i-init
unfolding moves
loop-i-init c =
    let a = c.args in
    let S = registers_of a.t.registers in (
      sealed_none (bytes_of_element a.h) S (good (goal.at.loop-i-init c).Start) a.text.now a.from a.n a.out.now (bytes_of_element a.t.hash),
      zero-le,
      refl,
      standing_first S (good (goal.at.loop-i-init c).Start) _ _ _ _ refl refl c.store.ensures c.store-2.ensures,
      refl,
    )

turned : (c : After-output-z) → let l = c.loop-i in let t = c.taps-l.new in
    Turned (16 * l.i) l.l1 l.l2 (bytes_of l.r3) (littles 2 (part (8 * l.i) 8 t.t1)) (littles 2 (part (8 * l.i) 8 t.t2))
    c.store-in-loop-i.new.out c.store-in-loop-i-2.new.out (bytes_of c.round_at-n3.result) (bytes_of c.output-z.result)
turned c =
    let l = c.loop-i in
    record {
      n1 = bytes_of c.next_r1-n1.result;
      n2 = bytes_of c.round_at-n2.result;
      makes1 = c.next_r1-n1.ensures ∙ ap (λ (x : List ℕ). sigma (part (16 * l.i) 16 l.l2 ⊞ xors (bytes_of l.r3) x)) c.tap.ensures;
      makes2 = c.round_at-n2.ensures;
      makes3 = c.round_at-n3.ensures;
      writes1 = c.store-in-loop-i.ensures;
      writes2 = c.store-in-loop-i-2.ensures;
      gives = c.output-z.ensures
          ∙ ap (λ (x : List ℕ). xors (part (16 * l.i) 16 c.store-in-loop-i.new.out ⊞ x) (part (16 * l.i) 16 c.store-in-loop-i-2.new.out)) c.tap-in-loop-i.ensures;
    }

pub loop-i-preserved : goal.loop-i-preserved
loop-i-preserved c =
    let l = c.loop-i in
    let a = c.args in
    let S = registers_of a.t.registers in
    let p = c.taps-l.ensures.taps in
    let t = turned (goal.at.loop-i-preserved c).After-output-z in
    let block = batch_z S (good (goal.at.loop-i-preserved c).Start) a.n p l.i c.loop-i-test.true c.requires.0 l.invariant.3 t in
    let long = (bytes_of_block c.xor-c.result).long in (
      sealed_more (bytes_of_element a.h) S (good (goal.at.loop-i-preserved c).Start) a.text.now a.from a.n a.out.now (bytes_of_element a.t.hash) l.i c.loop-i-test.true (omega (arith, read (goal.at.loop-i-preserved c).In-loop-i)) l.invariant.0
          (c.xor-c.ensures ∙ ap₂ xors c.load-x.ensures block)
          c.store-in-loop-i-3.ensures
          (c.absorb_at-y.ensures.hash ∙ ap (eat (bytes_of_element a.h) (bytes_of_element l.y)) (c.from_block.ensures ∙ sym (padded_none (bytes_of c.xor-c.result) (omega arith)))),
      omega (arith, c.loop-i-test.true),
      ap length c.store-in-loop-i-3.ensures ∙ length-sets l.out (a.from + 16 * l.i) (bytes_of c.xor-c.result) ∙ l.invariant.2,
      batch_stands S (good (goal.at.loop-i-preserved c).Start) a.n p l.i c.loop-i-test.true c.requires.0 l.invariant.3 t,
      ap length c.absorb_at-y.ensures.scratch ∙ simp length-sets l.invariant.4,
    )

pub returns : goal.returns
returns c =
    let a = c.args in
    let S = registers_of a.t.registers in
    let e : c.loop-i.i ≡ a.n = omega (arith, c.loop-i.invariant.1, c.loop-i-test.false) in
    let st = subst (λ (k : ℕ). Standing (moves forward k S) (16 * k) c.loop-i.l1 c.loop-i.l2 (bytes_of c.loop-i.r3)) e c.loop-i.invariant.3 in record { registers = c.moved_to.ensures ∙ standing_read _ st (c.taps-l.ensures.lfsr ∙ sym (moves_lfsr a.n S)); pass = subst (λ (k : ℕ). Sealed (bytes_of_element a.h) S a.text.now a.from a.n a.out.now (bytes_of_element a.t.hash) k c.loop-i.out (bytes_of_element c.loop-i.y)) e c.loop-i.invariant.0 }
