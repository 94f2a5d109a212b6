-- `digest::keep` meets its contract: what is copied is the part that the contract names.
use Rattle.std.proofs.Common.{◌≡◌, ◌+◌, ◌-◌, length, arith, rules}
use Rattle.words.proofs.Writing.{put_part}
use Rattle.digest.proofs.keep.Goals as goal

pub returns : goal.returns
returns c =
    let a = c.args in
    let n : length a.p ≡ 16 = search rules in
    put_part a.p a.at (a.at + length a.bytes.now - a.at) c.copy_from_slice.ensures.after (omega arith) (omega arith)
