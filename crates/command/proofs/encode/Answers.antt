-- `command::encode` meets its contract: each turn writes the two digits of a byte.
use Prim.Native.Nat.{ℕ, ◌+◌, ◌*◌}
use mathlib.Core.Path.{refl, sym, subst}
use mathlib.Core.List.{[], ◌∷◌}
use native.Mathlib.Omega.{arith}
use native.Mathlib.Numerals.{add-one}
use lib.ListN.{set}
use Rattle.words.proofs.Writing.{Written, written_more, written_all}
use Rattle.command.specs.Hex.{hex_of}
use Rattle.command.proofs.Digits.{one_byte, hex_length}
use Rattle.command.proofs.encode.Goals as goal

pub loop-i-preserved : goal.loop-i-preserved
loop-i-preserved c =
    let a = c.args in
    let s = a.bytes.now in
    let i = c.loop-i.i in
    let to = a.at + 2 * i in
    subst (λ (k : ℕ). Written hex_of s a.out.now a.at (i + 1) (a.at + 2 * (i + 1)) (set (set c.loop-i.out to c.glyph.result) k c.glyph-in-loop-i.result)) (sym (add-one to))
    (written_more hex_of s a.out.now a.at i (i + 1) to (a.at + 2 * (i + 1)) c.loop-i.out (c.glyph.result ∷ c.glyph-in-loop-i.result ∷ []) (rw (c.glyph.ensures, c.glyph-in-loop-i.ensures) (one_byte s i (omega arith))) (omega arith) c.loop-i.invariant)

pub returns : goal.returns
unfolding hex_of
returns c =
    let a = c.args in
    let w = written_all hex_of a.bytes.now a.out.now a.at c.loop-i.i _ c.loop-i.out refl (omega arith) c.loop-i.invariant in
    record { out = w.0; next = omega (arith, hex_length a.bytes.now) }
