-- `aes::inverse_sbox` meets its contract: at each turn, every byte passed stands at the place that its entry names.
use native.Mathlib.Omega.{arith}
use Rattle.aes.proofs.Inverting.{inverts_more, inverts_all}
use Rattle.aes.proofs.inverse_sbox.Goals as goal

pub loop-i-preserved : goal.loop-i-preserved
loop-i-preserved c =
    let l = c.loop-i in
    inverts_more l.i _ l.r (omega arith) (c.sbox-s.ensures.rule l.i (omega arith)) l.invariant

pub returns : goal.returns
returns c =
    let l = c.loop-i in
    inverts_all l.i l.r (omega arith) l.invariant
