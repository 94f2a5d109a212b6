-- `cipher::lanes::batch` meets its contract: after i turns the lanes stand at step i, and the blocks of i steps are written.
use Prim.Native.Nat.{ℕ, ◌*◌}
use mathlib.Core.Path.{◌≡◌, refl, sym, ap, subst, ◌∙◌}
use mathlib.Core.List.{List}
use native.Mathlib.Omega.{arith}
use Rattle.words.specs.Xor.{xors}
use Rattle.words.specs.Bytes.{littles, part}
use Rattle.words.specs.Sums.{◌⊞◌}
use Rattle.words.specs.Machine.{bytes_of}
use Rattle.cipher.specs.Run.{forward, moves}
use Rattle.cipher.specs.Step.{sigma}
use Rattle.cipher.specs.Machine.{registers_of}
use Rattle.cipher.proofs.Typed.{every_registers}
use Rattle.cipher.proofs.Running.{made_none, made_one, made_all}
use Rattle.cipher.proofs.Standing.{Standing, Turned, standing_first, batch_z, batch_stands, standing_read, moves_lfsr, next_moves}
use Rattle.cipher.proofs.lanes.batch.Goals as goal
use Rattle.cipher.proofs.lanes.batch.Goals.{After-slice_known-in-loop-i-1}

pub loop-i-init : goal.loop-i-init
unfolding moves
loop-i-init c =
    let S = registers_of c.args.s in (
      made_none forward S (every_registers c.args.s _ c.well_formed.0) c.args.out.now c.args.from c.args.n,
      standing_first S (every_registers c.args.s _ c.well_formed.0) _ _ _ _ refl refl c.store.ensures c.store-2.ensures,
    )

turned : (c : After-slice_known-in-loop-i-1) → let l = c.loop-i in let t = c.taps-l in
    Turned (16 * l.i) l.l1 l.l2 (bytes_of l.r3) (littles 2 (part (8 * l.i) 8 t.new.t1)) (littles 2 (part (8 * l.i) 8 t.new.t2))
    c.store-in-loop-i.new.out c.store-in-loop-i-2.new.out (bytes_of c.round_at-n3.result) (bytes_of c.output.result)
turned c =
    let l = c.loop-i in
    record {
      n1 = bytes_of c.next_r1-n1.result;
      n2 = bytes_of c.round_at-n2.result;
      makes1 = c.next_r1-n1.ensures ∙ ap (λ (x : List ℕ). sigma (part (16 * l.i) 16 l.l2 ⊞ xors (bytes_of l.r3) x)) c.tap.ensures;
      makes2 = c.round_at-n2.ensures;
      makes3 = c.round_at-n3.ensures;
      writes1 = c.store-in-loop-i.ensures;
      writes2 = c.store-in-loop-i-2.ensures;
      gives = c.output.ensures ∙ ap (λ (x : List ℕ). xors (part (16 * l.i) 16 c.store-in-loop-i.new.out ⊞ x) (part (16 * l.i) 16 c.store-in-loop-i-2.new.out)) c.tap-in-loop-i.ensures;
    }

pub loop-i-preserved : goal.loop-i-preserved
loop-i-preserved c =
    let l = c.loop-i in
    let S = registers_of c.args.s in
    let p = c.taps-l.ensures.taps in
    let t = turned (goal.at.loop-i-preserved c).After-slice_known-in-loop-i-1 in (
      made_one forward S (every_registers c.args.s _ c.well_formed.0) c.args.out.now c.args.from c.args.n l.i c.loop-i-test.true l.invariant.0 (next_moves l.i S)
          (batch_z S (every_registers c.args.s _ c.well_formed.0) c.args.n p l.i c.loop-i-test.true c.requires.0 l.invariant.1 t) c.store-in-loop-i-3.ensures,
      batch_stands S (every_registers c.args.s _ c.well_formed.0) c.args.n p l.i c.loop-i-test.true c.requires.0 l.invariant.1 t,
    )

pub returns : goal.returns
returns c =
    let S = registers_of c.args.s in
    let e : c.loop-i.i ≡ c.args.n = omega (arith, c.loop-i.invariant.0.at_most, c.loop-i-test.false) in record {
      registers = c.moved_to.ensures
          ∙ standing_read _ (subst (λ (k : ℕ). Standing (moves forward k S) (16 * k) c.loop-i.l1 c.loop-i.l2 (bytes_of c.loop-i.r3)) e c.loop-i.invariant.1)
          (c.taps-l.ensures.lfsr ∙ sym (moves_lfsr c.args.n S));
      out = (made_all forward S (every_registers c.args.s _ c.well_formed.0) c.args.out.now c.args.from c.args.n (omega arith) c.loop-i.invariant.0).1;
    }
