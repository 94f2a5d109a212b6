-- `aes::inverse_sbox` meets its contract: at each turn, every byte passed stands at the place that its entry names.
use Rattle.aes.proofs.Inverting.{Inverts}
use Rattle.aes.proofs.inverse_sbox.Given as goal

abbrev pub invariant-loop-i : goal.invariant-loop-i
invariant-loop-i l = Inverts l.i l.r
