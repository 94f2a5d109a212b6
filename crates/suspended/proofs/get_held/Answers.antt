-- `suspended::get_held` meets its contract: each block is read at its place.
use mathlib.Core.Path.{◌∙◌}
use Rattle.suspended.proofs.get_held.Goals as goal

pub returns : goal.returns
returns c =
    (c.from_block-acc.ensures ∙ c.load.ensures, c.to_bytes-pending.ensures ∙ c.load-2.ensures)
