-- `fields::check_holds` meets its contract: it compares what the definition does.
use Rattle.std.proofs.Common.{eqb, ap₂}
use Rattle.fields.specs.Fields.{check_holds}
use Rattle.fields.proofs.check_holds.Goals as goal

pub returns : goal.returns
unfolding check_holds
returns c = ap₂ eqb c.word-stored.ensures c.check-sum.ensures
