-- `key_store::present` meets its contract: at each turn, what is known is known of the blocks up to there.
use Rattle.std.proofs.Common.{◌≡◌}
use Rattle.words.specs.Machine.{bytes_of}
use Rattle.fields.specs.Blocks.{cut}
use Rattle.key_store.specs.Store.{present, any}
use Rattle.key_store.proofs.present.Given as goal

abbrev pub invariant-loop-i : goal.invariant-loop-i
invariant-loop-i l = l.found ≡ any (present (bytes_of l.iv)) (cut l.i l.store)
