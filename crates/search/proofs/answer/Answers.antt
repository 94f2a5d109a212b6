-- `search::answer` meets its contract, by what the trace answers.
use Rattle.search.specs.Counts.{told}
use Rattle.search.proofs.answer.Goals as goal

pub returns-in-Ok : goal.returns-in-Ok
unfolding told
returns-in-Ok c = rw c.in-Ok.is

pub returns-in-Err : goal.returns-in-Err
unfolding told
returns-in-Err c = rw c.in-Err.is
