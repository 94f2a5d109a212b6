-- `session::lent::masked_blocks` meets its contract: batch by batch, the blocks up to there are under keystream.
use Prim.Native.Nat.{ℕ, ◌+◌, ◌*◌, ◌≤◌, min}
use mathlib.Core.Path.{◌≡◌, refl, sym, ap, subst, ◌∙◌}
use native.Mathlib.Omega.{arith}
use lib.ListN.{length}
use lib.Seq.{sets, slice, length-sets}
use Rattle.cipher.specs.Registers.{IsRegisters}
use Rattle.cipher.specs.Run.{forward, blocks}
use Rattle.cipher.proofs.Moves.{moves_good}
use Rattle.pass.specs.Inner.{under_blocks}
use Rattle.cipher.specs.Machine.{registers_of}
use Rattle.cipher.proofs.Typed.{every_registers}
use Rattle.cipher.proofs.Running.{batch_leads}
use Rattle.pass.proofs.Masking.{under_drawn}
use Rattle.session.proofs.Masked.{Masked, masked_none, masked_more}
use Rattle.session.proofs.lent.masked_blocks.Goals as goal
use Rattle.session.proofs.lent.masked_blocks.Goals.{After-under_keystream}

pub loop-i-init : goal.loop-i-init
loop-i-init c =
    let S = registers_of c.args.s in
    let e : 0 ≡ min 0 c.args.n = omega arith in (
      subst (λ (m : ℕ). Masked S c.args.input.now c.args.out.now m S c.args.out.now) e
          (masked_none S (every_registers c.args.s _ c.well_formed.0) c.args.input.now c.args.out.now),
      refl,
    )

-- a batch more
more : (c : After-under_keystream)
    → Masked (registers_of c.args.s) c.args.input.now c.args.out.now (min (c.loop-i.i + 16) c.args.n) (registers_of c.batch-u.result) c.under_keystream.new.out
more c =
    let l = c.loop-i in
    let p = c.args.input.now in
    let n = c.args.n in
    let k = c.at_most-k.result in
    let S = registers_of c.args.s in
    let w = c.batch-u.ensures in
    let i = min l.i n in
    let e : l.i ≡ i = omega (arith, c.loop-i-test.true) in
    let f : i + k ≡ min (l.i + 16) n = ap (λ (m : ℕ). i + m) c.at_most-k.ensures.3 ∙ batch_leads l.i n c.loop-i-test.true in
    let fits : 16 * k ≤ length l.stream = omega (arith, c.at_most-k.ensures.0, l.invariant.1) in
    let g = subst IsRegisters (sym l.invariant.0.state) (moves_good forward i S (every_registers c.args.s _ c.well_formed.0)) in
    let eo = under_drawn p l.out l.stream (registers_of l.t) (16 * l.i) k g fits w.out c.under_keystream.ensures in
    subst (λ (m : ℕ). Masked S p c.args.out.now m (registers_of c.batch-u.result) c.under_keystream.new.out) f
    (masked_more S (every_registers c.args.s _ c.well_formed.0) p c.args.out.now i k (omega arith) l.invariant.0 w.registers
    (eo ∙ ap (λ (m : ℕ). sets l.out (16 * m) (under_blocks (registers_of l.t) k (slice (16 * m) (16 * m + 16 * k) p))) e))

pub loop-i-preserved : goal.loop-i-preserved
loop-i-preserved c =
    let l = c.loop-i in (
      more (goal.at.loop-i-preserved c).After-under_keystream,
      ap length c.batch-u.ensures.out ∙ length-sets l.stream 0 (blocks forward c.at_most-k.result (registers_of l.t)) ∙ l.invariant.1,
    )

pub returns-2 : goal.returns-2
returns-2 c =
    let e : min (c.loop-i.i + 16) c.args.n ≡ c.args.n = omega arith in
    let m = subst (λ (m : ℕ). Masked (registers_of c.args.s) c.args.input.now c.args.out.now m (registers_of c.batch-u.result) c.under_keystream.new.out) e
    (more (goal.at.returns-2 c).After-under_keystream) in
    record { registers = m.state; out = m.written }
