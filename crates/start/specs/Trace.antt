-- Trace (document 01, "Start and trace"): walking back from a state to the IV and mode that lead to it, or a refusal. How the walk goes need
-- not be believed by reading: the contract of `start::trace` says of its answer, beside the equation with this, what `Traces` of Leads.antt says,
-- in terms of "leads to" alone.
use Rattle.std.specs.Prelude.{ℕ, zero, suc, Bool, not, ◌&&◌, List, eqb, ltb, length, take, drop}
use Rattle.scope.specs.Limits.{most_blocks}
use Rattle.scope.specs.Refusals.{pick, key_length, count_too_high, no_origin}
use Rattle.words.specs.Bytes.{littles, same, zeros}
use Rattle.cipher.specs.Registers.{Registers}
use Rattle.cipher.specs.Back.{back, z_before}
use Rattle.cipher.specs.Run.{backward, moves}
use Rattle.cipher.specs.State.{State}
use Rattle.start.specs.Start.{Mode, Mode.plain, Mode.sealed, mode_cells, into_a, into_r1}
use Rattle.start.specs.Leads.{Traced, Traced.origin, Traced.refused}

-- one of the 16 steps undone: z is had without a8 to a15, xored out of them, and the step goes back
unfoldable pub uninitial : Registers → Registers
uninitial s = back (into_a (z_before s) s)

unfoldable pub uninitials : ℕ → Registers → Registers
uninitials zero s = s
uninitials (suc n) s = uninitials n (uninitial s)

-- what a start under this key would have loaded
unfoldable pub loaded : (key : List ℕ) → Registers → Registers
loaded key s = uninitials 15 (into_r1 (take 16 key) (uninitial (into_r1 (drop 16 key) s)))

-- whether a start in this mode under this key loads these registers, with some IV
unfoldable pub loads : (key : List ℕ) → Mode → Registers → Bool
loads key m s =
    same (littles 2 (drop 8 s.lfsr.a)) (take 16 key) && same (littles 2 (take 8 s.lfsr.b)) (littles 2 (mode_cells m))
    && same (littles 2 (drop 8 s.lfsr.b)) (drop 16 key) && same s.r1 zeros && same s.r2 zeros && same s.r3 zeros

-- the IV and mode that load them, or 6
unfoldable pub unload : (key : List ℕ) → Registers → Traced
unload key s =
    pick (loads key plain s)
    (origin (littles 2 (take 8 s.lfsr.a)) plain)
    (pick (loads key sealed s) (origin (littles 2 (take 8 s.lfsr.a)) sealed) (refused no_origin))

-- 1, 9, 6
unfoldable pub trace : State → (key : List ℕ) → Traced
trace s key =
    pick (not (eqb (length key) 32))
    (refused key_length)
    (pick (ltb most_blocks s.count) (refused count_too_high) (unload key (loaded key (moves backward s.count s.registers))))
