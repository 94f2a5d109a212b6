-- `layout::pending_count` meets its contract, by the phase.
use native.Mathlib.Omega.{arith}
use borrow.Author.Tests.{eq-eqb, ne_eqb}
use Rattle.layout.proofs.pending_count.Goals as goal

pub returns-then-phase-eq0 : goal.returns-then-phase-eq0
returns-then-phase-eq0 c = (simp (eq-eqb _ _ c.if-phase-eq0.true), omega arith)

pub returns-else-phase-eq0 : goal.returns-else-phase-eq0
returns-else-phase-eq0 c = (simp (ne_eqb _ _ c.if-phase-eq0.false), omega arith)
