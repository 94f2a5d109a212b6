-- `pass::sealed_text` meets its contract: whole blocks in batches, and a short last block behind them, which is hashed with zeros behind it.
use Prim.Native.Nat.{ℕ, ◌+◌, ◌-◌, ◌*◌, ◌/◌, ◌<◌}
use mathlib.Core.Path.{◌≡◌, sym, ap, ap₂, subst, ◌∙◌}
use native.Mathlib.Nat.{zero-add}
use native.Mathlib.Omega.{arith}
use lib.ListN.{length}
use lib.Seq.{sets, slice, length-slice, take_all}
use Rattle.words.specs.Xor.{xors}
use Rattle.words.specs.Bytes.{part}
use Rattle.words.specs.Machine.{bytes_of}
use Rattle.words.proofs.Blocks.{bytes_of_block}
use Rattle.words.proofs.Rows.{xors_within}
use Rattle.ghash.specs.Hash.{eat, ceil16, padded}
use Rattle.ghash.specs.Machine.{bytes_of_element}
use Rattle.ghash.proofs.Padding.{padded_block}
use Rattle.cipher.specs.Registers.{IsRegisters}
use Rattle.cipher.specs.Run.{forward, made, moves}
use Rattle.cipher.specs.Machine.{registers_of}
use Rattle.cipher.proofs.Typed.{every_registers}
use Rattle.digest.proofs.Settling.{sets_padded}
use Rattle.pass.specs.Pass.{Sealed}
use Rattle.pass.proofs.Sealing.{sealed_front, sealed_more, last_part}
use Rattle.pass.proofs.sealed_text.Goals as goal
use Rattle.pass.proofs.sealed_text.Goals.{Else-n-eq0, Start}

good : (c : Start) → IsRegisters (registers_of c.args.s)
good c = every_registers c.args.s _ c.well_formed.0

-- a short block is left
short : (c : Else-n-eq0) → let n = length c.args.text.now in (16 * (n / 16) < n) × (n - 16 * (n / 16) < 16) × (ceil16 n ≡ n / 16 + 1)
short c =
    let n = length c.args.text.now in
    let h = c.if-n-eq0.false in
    (omega arith, omega arith, omega arith)

pub returns : goal.returns
returns c =
    let a = c.args in
    let n = length a.text.now in
    let q = n / 16 in
    let h = short (goal.at.returns c).Else-n-eq0 in
    let s = registers_of a.s in
    let g = good (goal.at.returns c).Start in
    let key = c.to_bytes-key in
    let x = slice (16 * q) n a.text.now in
    let z = c.forward-w.result.z in
    let l : length x ≡ n - 16 * q = length-slice (16 * q) n a.text.now (omega arith) in
    let lz = (bytes_of_block z).long in
    let b = xors x key.result in
    let lb : length b ≡ n - 16 * q = xors_within x key.result (rw key.ensures (omega (arith, l, lz, h.1))) ∙ l in
    let some : 0 < length b = omega (arith, lb, h.0) in
    let few : length b < 16 = omega (arith, lb, h.1) in
    let block : key.result ≡ made forward (moves forward q s) = key.ensures ∙ c.forward-w.ensures.z ∙ ap (made forward) c.sealed_blocks-u.ensures.registers in
    let held : c.under-last.result ≡ padded b = c.under-last.ensures.held ∙ sets_padded b some few in
    let read : bytes_of c.load.result ≡ padded b = c.load.ensures ∙ ap (part 0 16) held ∙ take_all 16 (padded b) (omega (arith, padded_block b some (omega arith))) in
    subst (λ (k : ℕ). Sealed (bytes_of_element a.h) s a.text.now 0 (ceil16 n) a.out.now (bytes_of_element a.y) k c.under-last.new.out (bytes_of_element c.absorb.result)) (sym h.2)
    (sealed_more (bytes_of_element a.h) s g a.text.now 0 (ceil16 n) a.out.now (bytes_of_element a.y) q (omega (arith, h.2)) (omega (arith, h.0))
    (sealed_front (bytes_of_element a.h) s g a.text.now 0 (ceil16 n) a.out.now (bytes_of_element a.y) q (omega (arith, h.2)) c.sealed_blocks-u.ensures.pass)
    (ap₂ xors (last_part a.text.now q (omega (arith, h.1)) ∙ ap (λ (m : ℕ). part m 16 a.text.now) (sym (zero-add (16 * q)))) block)
    (c.under-last.ensures.out ∙ ap (λ (m : ℕ). sets c.sealed_blocks-u.new.out m b) (sym (zero-add (16 * q))))
    (c.absorb.ensures ∙ ap (eat (bytes_of_element a.h) (bytes_of_element c.sealed_blocks-u.result.hash)) read))
