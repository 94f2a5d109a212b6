-- How resume finds its answer, by walking back (document 01, "Sessions and parking": "H, the end pad and the current keystream block come from walking
-- back"). It need not be believed by reading: the contract of `suspend::resume`, and `revives` of crates/claims/specs/Claims.antt, say of its answer what
-- `Revives` of Calls.antt says, in terms of "leads to" alone.
use Rattle.std.specs.Prelude.{not, List, ℕ, eqb, length}
use Rattle.scope.specs.Refusals.{pick, key_length, no_origin, bad_block}
use Rattle.start.specs.Start.{Mode.plain, Mode.sealed}
use Rattle.start.specs.Leads.{Traced, Traced.origin, Traced.refused}
use Rattle.start.specs.Trace.{trace}
use Rattle.layout.specs.Block.{Suspended, read}
use Rattle.layout.specs.Rules.{well_laid}
use Rattle.suspend.specs.Calls.{state_for, Resumed, not_resumed, revived}

-- 6: no IV leads to the registers in sealed mode
unfoldable pub by_origin : (key : List ℕ) → Suspended → Traced → Resumed
by_origin key k (origin iv plain) = not_resumed no_origin
by_origin key k (origin iv sealed) = record { number = 0; iv = iv; session = revived key iv k }
by_origin key k (refused n) = not_resumed no_origin

unfoldable pub resume_call : (key block : List ℕ) → Resumed
resume_call key b =
    pick (not (eqb (length key) 32))
    (not_resumed key_length)
    (pick (not (well_laid b)) (not_resumed bad_block) (by_origin key (read b) (trace (state_for (read b)) key)))
