-- `session::lent::apply_keystream` meets its contract: whole blocks are under keystream, and then the rest is under a block of its own.
use Prim.Native.Nat.{ℕ, ◌+◌, ◌*◌, ◌/◌}
use mathlib.Core.Path.{◌≡◌, refl, sym, ap, subst, ◌∙◌}
use mathlib.Core.List.{List}
use native.Mathlib.Omega.{arith}
use lib.ListN.{length}
use lib.Seq.{sets, slice}
use Rattle.words.specs.Xor.{xors}
use Rattle.cipher.specs.Step.{z}
use Rattle.cipher.specs.Run.{made}
use Rattle.cipher.specs.Machine.{registers_of}
use Rattle.cipher.proofs.Typed.{every_state}
use Rattle.digest.proofs.Slices.{slice_take}
use Rattle.pass.specs.Inner.{under_blocks}
use Rattle.session.specs.Machine.{session_of}
use Rattle.session.proofs.Streaming.{Streaming, begun, stream_blocks, stream_end, stream_done}
use Rattle.session.proofs.lent.apply_keystream.Goals as goal
use Rattle.session.proofs.lent.apply_keystream.Goals.{After-masked_blocks-registers}

-- the whole blocks are done
whole : (c : After-masked_blocks-registers)
    → let a = c.args in
    Streaming (session_of a.s) a.input.now a.out.now c.masked_blocks-registers.new.out (registers_of c.masked_blocks-registers.result) (16 * (length a.input.now / 16))
whole c =
    let a = c.args in
    let s = session_of a.s in
    let p = a.input.now in
    let n = length p / 16 in
    let w = c.masked_blocks-registers.ensures in
    let eo = w.out ∙ ap (λ (l : List ℕ). sets a.out.now 0 (under_blocks s.state.registers n l)) (sym (slice_take 0 (16 * n) p)) in
    let e : 0 + 16 * n ≡ 16 * n = omega arith in
    subst (Streaming s p a.out.now c.masked_blocks-registers.new.out (registers_of c.masked_blocks-registers.result)) e
    (stream_blocks (begun s p a.out.now s.state.registers refl (every_state a.s.state _ c.well_formed.0.1.1.1.1.1.1.1.1.1.0) c.requires.0)
    c.masked_blocks-registers.new.out n (omega arith) eo _ w.registers)

pub returns-then-i-n : goal.returns-then-i-n
unfolding made
returns-then-i-n c =
    let p = c.args.input.now in
    let i = 16 * (length p / 16) in
    let g = whole (goal.at.returns-then-i-n c).After-masked_blocks-registers in
    let r = registers_of c.masked_blocks-registers.result in
    let key : c.to_bytes.result ≡ z r = c.to_bytes.ensures ∙ c.forward-w.ensures.z in
    let eo = c.under.ensures.out ∙ ap (λ (k : List ℕ). sets c.masked_blocks-registers.new.out i (xors (slice i (length p) p) k)) key in
    stream_end g _ (length p) c.if-i-n.true (omega arith) refl eo c.requires.1

pub returns-else-i-n : goal.returns-else-i-n
returns-else-i-n c = stream_done (whole (goal.at.returns-else-i-n c).After-masked_blocks-registers) (omega arith) c.requires.1
