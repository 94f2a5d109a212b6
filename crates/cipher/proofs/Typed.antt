-- What the types of the code's registers and state say of what they hold, and that the view of either determines it.
use mathlib.Core.Path.{◌≡◌, ap}
use mathlib.Core.List.{List}
use mir.Val.{Val}
use denote.Shadow.{shadow}
use Rattle.words.proofs.Blocks.{bytes_of_block}
use Rattle.words.proofs.Typed.{block_one}
use Rattle.lfsr.proofs.Typed.{every_lfsr}
use Rattle.cipher.specs.declared.Registers as machine
use Rattle.cipher.specs.declared.State.{State}
use Rattle.cipher.specs.Registers.{Registers, IsRegisters}
use Rattle.cipher.specs.State as definition
use Rattle.cipher.specs.Machine.{registers_of, state_of}
use Rattle.cipher.specs.contracts.Registers.{the_row}
use Rattle.cipher.specs.contracts.State as counted

-- every value of the type holds cells and blocks
pub every_registers : (s : machine.Registers) (vs : List Val) → shadow (the_row.own_val s vs) → IsRegisters (registers_of s)
every_registers s vs h =
    record { cells = every_lfsr s.lfsr _ h.1.1.0; in_r1 = bytes_of_block s.r1; in_r2 = bytes_of_block s.r2; in_r3 = bytes_of_block s.r3 }

pub every_state : (s : State) (vs : List Val) → shadow ((counted.the_row).own_val s vs) → IsRegisters (registers_of s.registers)
every_state s vs h = every_registers s.registers _ h.1.1.0

pub registers_of_one : (s t : machine.Registers) (vs ws : List Val) → shadow (the_row.own_val s vs) → shadow (the_row.own_val t ws) → registers_of s ≡ registers_of t → s ≡ t
registers_of_one s t vs ws p q e =
    let e1 = block_one s.r1 t.r1 _ _ p.1.1.1.0 q.1.1.1.0 (ap (λ (u : Registers). u.r1) e) in
    let e2 = block_one s.r2 t.r2 _ _ p.1.1.1.1.0 q.1.1.1.1.0 (ap (λ (u : Registers). u.r2) e) in
    let e3 = block_one s.r3 t.r3 _ _ p.1.1.1.1.1.0 q.1.1.1.1.1.0 (ap (λ (u : Registers). u.r3) e) in
    λ i. record { lfsr = record { a = (e i).lfsr.a; b = (e i).lfsr.b }; r1 = e1 i; r2 = e2 i; r3 = e3 i }

pub state_of_one : (s t : State) (vs ws : List Val) → shadow ((counted.the_row).own_val s vs) → shadow ((counted.the_row).own_val t ws) → state_of s ≡ state_of t → s ≡ t
state_of_one s t vs ws p q e =
    let er = registers_of_one s.registers t.registers _ _ p.1.1.0 q.1.1.0 (ap (λ (u : definition.State). u.registers) e) in
    λ i. record { registers = er i; count = (e i).count }
