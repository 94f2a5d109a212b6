-- `suspended::put_registers` meets its contract: the fields are written one behind the other.
use mathlib.Core.Path.{◌≡◌}
use borrow.Author.Rules.{rules}
use lib.ListN.{length}
use Rattle.suspended.proofs.Placing.{put_registers}
use Rattle.suspended.proofs.put_registers.Goals as goal
use Rattle.suspended.proofs.put_registers.Goals.{Start}

long : (c : Start) → (length c.args.s.lfsr.a ≡ 16) × (length c.args.s.lfsr.b ≡ 16)
long c = (search rules, search rules)

pub returns : goal.returns
returns c =
    put_registers c.args.s (long (goal.at.returns c).Start).0 (long (goal.at.returns c).Start).1 c.args.out.now c.args.at
    c.put_cells.ensures c.put_cells-2.ensures c.store.ensures c.store-2.ensures c.store-3.ensures
