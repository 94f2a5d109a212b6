-- `pass::under_keystream` meets its contract: after i turns i blocks are written.
use mathlib.Core.Path.{ap₂, ◌∙◌}
use Rattle.words.specs.Xor.{xors}
use Rattle.pass.proofs.Masking.{under_none, under_turn}
use Rattle.pass.proofs.under_keystream.Goals as goal

pub loop-i-init : goal.loop-i-init
loop-i-init c = let a = c.args in under_none a.input.now a.stream.now a.out.now a.from a.n

pub loop-i-preserved : goal.loop-i-preserved
loop-i-preserved c =
    let l = c.loop-i in
    let a = c.args in
    under_turn a.input.now a.stream.now a.out.now a.from a.n c.requires.0 c.requires.2 l.i c.loop-i-test.true l.invariant
    (c.xor.ensures ∙ ap₂ xors c.load.ensures c.load-in-loop-i.ensures) c.store.ensures
