-- `page_file::survey` meets its contract: at each turn, what is known is known of the pages up to there.
use Rattle.fields.specs.Blocks.{cut}
use Rattle.page_file.specs.Inner.{Surveyed}
use Rattle.page_file.proofs.survey.Given as goal

abbrev pub invariant-loop-i : goal.invariant-loop-i
invariant-loop-i l = Surveyed l.stay l.n (cut l.i l.file) l.s
