-- The count of a session that was begun or resumed is that of the blocks which its text has drawn.
use mathlib.Core.Path.{◌≡◌, refl}
use mathlib.Core.Bool.{Bool, true, false}
use mathlib.Core.List.{List}
use Prim.Native.Nat.{ℕ}
use native.Mathlib.Omega.{arith}
use lib.Dec.{eqb}
use lib.ListN.{length}
use Rattle.start.specs.Start.{Mode.plain, Mode.sealed}
use Rattle.start.specs.Leads.{Traced, Traced.origin, Traced.refused}
use Rattle.start.specs.Trace.{trace}
use Rattle.session.specs.Calls.{begin_call, begun, text_call}
use Rattle.session.proofs.Beginning.{granted_session}
use Rattle.session.proofs.Counts.{text_number_fits, data_fits, text_fits, finish_fits, text_none_refused, text_steps}
use Rattle.layout.specs.Block.{Suspended, read}
use Rattle.layout.specs.Rules.{well_laid}
use Rattle.suspend.specs.Calls.{state_for, revived}
use Rattle.suspend.specs.Walk.{by_origin, resume_call}
use Rattle.suspend.proofs.RoundTrip.{suspend_session}
use Rattle.claims.specs.Claims.{Fits, CountFits}

begun_fits : (key iv : List ℕ) → (begin_call key iv).number ≡ 0 → Fits (begin_call key iv).session
unfolding begin_call begun
begun_fits key iv e = rw (granted_session key iv e) refl

-- whatever the trace found
origin_fits : (key : List ℕ) (k : Suspended) (a : Traced) → (by_origin key k a).number ≡ 0 → Fits (by_origin key k a).session
unfolding by_origin revived
origin_fits key k (origin iv plain) e = absurd (omega arith)
origin_fits key k (origin iv sealed) e = refl
origin_fits key k (refused n) e = absurd (omega arith)

resumed_fits : (key block : List ℕ) → (resume_call key block).number ≡ 0 → Fits (resume_call key block).session
unfolding resume_call
resumed_fits key b e = go (eqb (length key) 32) refl (well_laid b) refl
  where
    go : (i : Bool) → eqb (length key) 32 ≡ i → (j : Bool) → well_laid b ≡ j → Fits (resume_call key b).session
    go true p true q = rw (p, q) (origin_fits key (read b) (trace (state_for (read b)) key) (rw (p, q) at e))
    go true p false q = absurd (let z = rw q at (rw p at e) in omega arith)
    go false p j q = absurd (let z = rw p at e in omega arith)

pub count_fits : CountFits
unfolding text_call
count_fits =
    record {
      begun = begun_fits;
      resumed = resumed_fits;
      data_keeps = data_fits;
      text_keeps = text_fits;
      finish_keeps = finish_fits;
      suspend_keeps = λ s e out. rw (suspend_session s out) e;
      text_steps = λ s p out e. (text_none_refused s p out e, text_steps s p out e);
      never_too_far = text_number_fits;
    }
