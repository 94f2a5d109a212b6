-- `search::tried` meets its contract: 16 steps are undone, and what they come to is looked at.
use Prim.Native.Nat.{ℕ}
use mathlib.Core.Path.{ap, ap₂, ◌∙◌}
use mathlib.Core.List.{◌++◌}
use Rattle.words.specs.Machine.{bytes_of}
use Rattle.start.specs.Leads.{Traced}
use Rattle.start.specs.Trace.{unload}
use Rattle.search.specs.Counts.{told}
use Rattle.search.proofs.tried.Goals as goal

pub returns : goal.returns
returns c =
    let a = c.args in
    c.answer.ensures
    ∙ ap₂ (λ (x : Traced) (n : ℕ). told x a.c n) (c.unload.ensures ∙ ap (unload (bytes_of a.low ++ bytes_of a.high)) c.loaded-w.ensures.registers)
    c.loaded-w.ensures.steps
