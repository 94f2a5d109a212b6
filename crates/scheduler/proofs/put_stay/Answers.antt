-- `scheduler::put_stay` meets its contract: the session fills what is lent of the place, and the two numbers stand behind it.
use mathlib.Core.Path.{◌≡◌}
use mathlib.Core.List.{◌++◌}
use Prim.Native.Nat.{◌+◌, ◌-◌, ◌*◌}
use native.Mathlib.Omega.{arith}
use lib.ListN.{length, take, drop, length-append}
use Rattle.words.specs.Bytes.{little}
use Rattle.words.proofs.Bytes.{little_long}
use Rattle.words.proofs.Writing.{put_next}
use Rattle.session.specs.Machine.{session_of}
use Rattle.bytes_c.specs.SessionBytes.{session_bytes}
use Rattle.scheduler.specs.Bytes.{stay_bytes}
use Rattle.scheduler.proofs.Reading.{filled}
use borrow.Author.Rules.{rules}
use Rattle.scheduler.proofs.put_stay.Goals as goal

pub returns : goal.returns
unfolding stay_bytes
returns c =
    let a = c.args in
    let s = a.s.now in
    let at = 16 + 256 * a.i in
    let v = session_bytes (session_of a.session) in
    let k : at + 240 - at ≡ 240 = omega arith in
    let l : length c.store_session.new.out ≡ length (take (at + 240 - at) (drop at s)) = search rules in
    let f = filled s v c.store_session.new.out at (at + 240 - at) k (omega arith) c.store_session.ensures.bytes l in
    let m = length-append v (little 8 a.left) in
    let p = put_next s v (little 8 a.left) at (at + 240) (omega (arith, f.1)) f.0 c.put.ensures in
    (put_next s (v ++ little 8 a.left) (little 8 a.mark) at (at + 248) (omega (arith, f.1, m, little_long 8 a.left)) p c.put-2.ensures, f.1)
