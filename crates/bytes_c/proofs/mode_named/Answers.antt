-- `bytes_c::mode_named` meets its contract, by its test.
use borrow.Author.Tests.{eq-eqb, ne_eqb}
use Rattle.bytes_c.proofs.mode_named.Goals as goal

pub returns-then-sealed-eq0 : goal.returns-then-sealed-eq0
returns-then-sealed-eq0 c = rw (eq-eqb c.args.sealed 0 c.if-sealed-eq0.true)

pub returns : goal.returns
returns c = rw (ne_eqb c.args.sealed 0 c.if-sealed-eq0.false)
