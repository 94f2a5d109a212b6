-- `start::mode_block` meets its contract: the words are the mode's cells, two to a word.
use mathlib.Core.Path.{sym, ap, ◌∙◌}
use Rattle.words.specs.Bytes.{little, littles}
use Rattle.words.specs.Machine.{bytes_of}
use Rattle.start.specs.declared.Mode as machine
use Rattle.start.specs.Start.{mode_cells}
use Rattle.start.specs.Machine.{mode_of}
use Rattle.start.proofs.mode_block.Goals as goal

pub returns-in-Plain : goal.returns-in-Plain
unfolding littles little
returns-in-Plain c = c.zero.ensures ∙ ap (λ (m : machine.Mode). littles 2 (mode_cells (mode_of m))) (sym c.in-Plain.is)

pub returns-in-Sealed : goal.returns-in-Sealed
unfolding bytes_of littles little
returns-in-Sealed c = ap (λ (m : machine.Mode). littles 2 (mode_cells (mode_of m))) (sym c.in-Sealed.is)
