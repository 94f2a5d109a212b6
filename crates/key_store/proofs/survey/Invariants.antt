-- `key_store::survey` meets its contract: at each turn, what is known is known of the blocks up to there.
use Rattle.words.specs.Machine.{bytes_of}
use Rattle.fields.specs.Blocks.{cut, whole}
use Rattle.key_store.specs.Inner.{Surveyed}
use Rattle.key_store.proofs.survey.Given as goal

abbrev pub invariant-loop-i : goal.invariant-loop-i
invariant-loop-i l = Surveyed (bytes_of l.number) (whole l.store) (cut l.i l.store) l.s
