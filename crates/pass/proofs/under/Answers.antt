-- `pass::under` meets its contract: at each byte, what is left to write makes the whole, in the bytes held and in the output.
use Prim.Native.Nat.{◌+◌, ◌-◌, ◌<◌}
use mathlib.Core.Path.{◌≡◌, refl, sym, ◌∙◌}
use native.Mathlib.Omega.{arith}
use borrow.Author.Rules.{rules}
use lib.ListN.{length, length-set}
use Rattle.words.specs.Xor.{◌⊕◌}
use Rattle.pass.proofs.Masking.{mask_turn, mask_end}
use Rattle.pass.proofs.under.Goals as goal
use Rattle.pass.proofs.under.Goals.{Start}

key_long : (c : Start) → length c.args.key ≡ 16
key_long c = search rules

pub loop-i-preserved : goal.loop-i-preserved
unfolding ◌⊕◌
loop-i-preserved c =
    let l = c.loop-i in
    let a = c.args in
    let n : length a.key ≡ 16 = key_long (goal.at.loop-i-preserved c).Start in
    let j = a.at + (l.i - a.from) in
    let k : j < length a.key = omega (arith, n, c.requires.1) in
    let e : a.at + (l.i + 1 - a.from) ≡ j + 1 = omega arith in (
      omega arith,
      omega arith,
      simp length-set l.invariant.2,
      simp length-set l.invariant.3,
      rw e (mask_turn l.q a.piece.now a.key j j l.i a.to _ k (omega arith) c.requires.0.read refl ∙ l.invariant.4),
      rw e (mask_turn l.out a.piece.now a.key l.i j l.i a.to _ k (omega arith) c.requires.0.read refl ∙ l.invariant.5),
    )

pub returns : goal.returns
returns c =
    let l = c.loop-i in
    let a = c.args in
    let e : l.i ≡ a.to = omega arith in
    let j = a.at + (a.to - a.from) in
    record { held = sym (mask_end l.q a.piece.now a.key j j a.to) ∙ (rw e at l.invariant.4); out = sym (mask_end l.out a.piece.now a.key a.to j a.to) ∙ (rw e at l.invariant.5) }
