-- `digest::blocks` meets its contract: what is left, from the hash so far on, leads where the whole leads.
use Rattle.std.proofs.Common.{◌≡◌}
use Rattle.ghash.specs.Hash.{hash_from}
use Rattle.ghash.specs.Machine.{bytes_of_element}
use Rattle.digest.proofs.blocks.Given as goal

abbrev pub invariant-loop-block : goal.invariant-loop-block
invariant-loop-block l =
    (l.block-iterator.size ≡ 16)
    × (hash_from (bytes_of_element l.h) (bytes_of_element l.z) l.block-iterator.rest.now ≡ hash_from (bytes_of_element l.h) (bytes_of_element l.fn.y) l.bytes)
