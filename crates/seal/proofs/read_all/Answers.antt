-- Each read goes on where the one before ended.
use Rattle.std.proofs.Common.{length, ◌-◌, ◌∙◌, arith}
use borrow.Rule.Slice.PartMut.{same_len_mid}
use Rattle.seal.proofs.Taken.{more}
use Rattle.seal.proofs.read_all.Goals as goal

pub loop-done-preserved : goal.loop-done-preserved
loop-done-preserved g c =
    let l = c.loop-done in
    let r = c.read in
    let n = c.in_ok-n.ensures in
    let long = same_len_mid l.done (length l.buf - l.done) l.buf r.new.buf r.auto.buf in (
      long ∙ l.invariant.0,
      rw long (omega (arith, n.bound.0, r.auto.buf)),
      more _ _ _ l.done _ c.in_ok-n.n l.buf r.new.buf (omega arith) n.bound.0 l.invariant.2 n.bytes.0,
    )
