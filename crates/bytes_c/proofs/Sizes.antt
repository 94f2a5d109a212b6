-- The sizes that the parts of every state and of every session of the code have by their types, so that their bytes list them.
use mathlib.Core.List.{List}
use Prim.Native.Nat.{◌^◌, ◌<◌}
use mir.Val.{Val}
use denote.Shadow.{shadow}
use Rattle.words.specs.Bytes.{IsBlock}
use Rattle.cipher.specs.Registers.{IsRegisters}
use Rattle.cipher.specs.State.{State}
use Rattle.cipher.specs.declared.State as machine
use Rattle.cipher.specs.Machine.{state_of}
use Rattle.cipher.specs.contracts.State.{the_row}
use Rattle.cipher.proofs.Typed.{every_state}
use Rattle.session.specs.Session.{Session}

pub record SizedState (s : State) : Type 0 where
  pub registers_good : IsRegisters s.registers
  pub count_fits : s.count < 256 ^ 8

pub every_sized : (s : machine.State) (vs : List Val) → shadow (the_row.own_val s vs) → SizedState (state_of s)
every_sized s vs h = record { registers_good = every_state s vs h; count_fits = h.1.1.1.0.1 }

pub record Sized (s : Session) : Type 0 where
  pub phase_byte : s.phase < 256
  pub ad_fits : s.ad < 256 ^ 8
  pub text_fits : s.text < 256 ^ 8
  pub state_sized : SizedState s.state
  pub h_block : IsBlock s.h
  pub pad_block : IsBlock s.pad
  pub current_block : IsBlock s.current
  pub hash_block : IsBlock s.sum.hash
  pub pending_block : IsBlock s.sum.pending
  pub iv_block : IsBlock s.iv
