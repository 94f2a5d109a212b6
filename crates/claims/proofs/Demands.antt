-- Demands 2 and 3. What a list ends in is the start that it began with, moved on by what it drew; and at a count a state has one such start, which
-- trace finds.
use mathlib.Core.Path.{◌≡◌, refl, sym, ap, subst, ◌∙◌}
use mathlib.Core.List.{List}
use Prim.Native.Nat.{ℕ, ◌+◌, ◌*◌, ◌≤◌}
use lib.Dec.{ltb}
use lib.ListN.{length}
use Rattle.scope.specs.Limits.{most_blocks}
use Rattle.scope.specs.Refusals.{refuse, count_too_high, short_output}
use Rattle.words.specs.Bytes.{Row}
use Rattle.cipher.specs.Registers.{IsRegisters}
use Rattle.cipher.specs.Run.{forward}
use Rattle.cipher.specs.State.{State, run_number}
use Rattle.cipher.proofs.Counting.{run_forward}
use Rattle.start.specs.Start.{Mode, start_number}
use Rattle.start.specs.Leads.{LeadsTo, LeadsToState, Traced.origin}
use Rattle.start.specs.Trace.{trace}
use Rattle.start.proofs.Answers.{both_right, lengths_right}
use Rattle.start.proofs.Undo.{drawn_good}
use Rattle.start.proofs.Tracing.{leads_one, traces}
use Rattle.suspend.proofs.Resuming.{revives}
use Rattle.session.specs.Calls.{begin_call}
use Rattle.claims.specs.Lists.{Bytes, Run, History, History.in_session, History.in_runs, key_of, iv_of, mode_of, Accepted, end, drawn, state_after}
use Rattle.claims.specs.Claims.{Keyed, SealsByPieces, SealsAndOpens, OneStayPerState}
use Rattle.claims.proofs.Within.{row_of}
use Rattle.claims.proofs.SuspendedLists.{state_leads, state_kept, state_counted, state_fits, text_answered, suspended, resumed, written}
use Rattle.claims.proofs.Pieces.{page, any_list, writes, session_after}
use Rattle.claims.proofs.Opening.{seals, opens, gives_back, no_other}
use Rattle.claims.proofs.Runs.{course_state, course_count, course_fits}

-- ---- demand 2

pub seals_by_pieces : SealsByPieces
seals_by_pieces =
    record {
      page = page;
      any_list = any_list;
      writes = writes;
      text_answers = λ key iv l cs p out. text_answered key iv l cs p.list out.list;
      session = session_after;
      resumed = λ key iv l cs out room. (suspended key iv l cs out room, resumed key iv l cs out (suspended key iv l cs out room));
    }

pub seals_and_opens : SealsAndOpens
seals_and_opens =
    record {
      seals = seals;
      opens = opens;
      gives_back = λ key iv ad text out into o room. gives_back key iv ad text out o into room;
      no_other = λ key iv ad text out into tag o room. no_other key iv ad text out o into room tag;
    }

-- ---- demand 3

-- what an accepted start, or begin, says of the lengths
pub start_keyed : (key iv : Bytes) → start_number key.list iv.list ≡ 0 → Keyed key iv
start_keyed key iv e = let n = lengths_right key.list iv.list e in record { key_long = n.0; iv_long = n.1 }

pub begin_keyed : (key iv : Bytes) → (begin_call key.list iv.list).number ≡ 0 → Keyed key iv
unfolding begin_call
begin_keyed key iv e = start_keyed key iv e

accepted : (a : History) → length (key_of a) ≡ 32 → length (iv_of a) ≡ 16 → Accepted a
unfolding begin_call
accepted (in_session key iv cs) k v = both_right key.list iv.list k v
accepted (in_runs key iv m rs) k v = both_right key.list iv.list k v

pub key_row : (a : History) → Accepted a → Row 32 256 (key_of a)
key_row (in_session key iv cs) e = row_of key (begin_keyed key iv e).key_long
key_row (in_runs key iv m rs) e = row_of key (start_keyed key iv e).key_long

leads : (a : History) → Accepted a → LeadsTo (key_of a) (drawn a) (iv_of a) (mode_of a) (end a)
leads (in_session key iv cs) e =
    record { iv_block = row_of iv (begin_keyed key iv e).iv_long; arrives = state_leads key iv (begin_keyed key iv e) cs }
leads (in_runs key iv m rs) e =
    record { iv_block = row_of iv (start_keyed key iv e).iv_long; arrives = sym (ap (λ (t : State). t.registers) (course_state key iv m rs e)) }

-- ---- the state that a list leaves

registers_kept : (a : History) → Accepted a → (state_after a).registers ≡ end a
registers_kept (in_session key iv cs) e = state_kept key iv (begin_keyed key iv e) cs
registers_kept (in_runs key iv m rs) e = refl

counted : (a : History) → Accepted a → (state_after a).count ≡ drawn a
counted (in_session key iv cs) e = state_counted key iv (begin_keyed key iv e) cs
counted (in_runs key iv m rs) e = course_count key iv m rs e

at_most : (a : History) → Accepted a → drawn a ≤ most_blocks
at_most (in_session key iv cs) e = state_fits key iv (begin_keyed key iv e) cs
at_most (in_runs key iv m rs) e = course_fits key iv m rs e

leads_after : (a : History) → Accepted a → LeadsToState (key_of a) (iv_of a) (mode_of a) (state_after a)
leads_after a e = rw (registers_kept a e, counted a e) (leads a e)

-- two lists that end in one state
one : (a b : History) → Accepted a → Accepted b → key_of a ≡ key_of b → drawn a ≡ drawn b → end a ≡ end b
    → (iv_of a ≡ iv_of b) × (mode_of a ≡ mode_of b)
one a b p q k n e =
    let l : LeadsTo (key_of a) (drawn a) (iv_of b) (mode_of b) (end a) = rw (k, n, e) (leads b q) in
    leads_one (key_of a) (key_row a p) (drawn a) (leads a p) l

pub end_good : (a : History) → Accepted a → IsRegisters (end a)
end_good a e =
    let l = leads a e in
    subst IsRegisters l.arrives (drawn_good (key_of a) (key_row a e) (iv_of a) (mode_of a) l.iv_block (drawn a))

names : (a : History) → Accepted a → trace (state_after a) (key_of a) ≡ origin (iv_of a) (mode_of a)
names a e =
    let good = subst IsRegisters (sym (registers_kept a e)) (end_good a e) in
    let fits : (state_after a).count ≤ most_blocks = rw (counted a e) (at_most a e) in
    ((traces (state_after a) good (key_of a) (key_row a e).below).found (iv_of a) (mode_of a)).1 (((key_row a e).long, fits), leads_after a e)

run_answers : (key iv : Bytes) (m : Mode) (rs : List Run) (r : Run) → Accepted (in_runs key iv m rs)
    → let a = in_runs key iv m rs in
    run_number forward (state_after a).count (length r.out.list) r.n
    ≡ refuse (ltb most_blocks (drawn a + r.n)) count_too_high (refuse (ltb (length r.out.list) (16 * r.n)) short_output 0)
run_answers key iv m rs r e =
    run_forward (state_after (in_runs key iv m rs)).count (length r.out.list) r.n
    ∙ ap (λ (c : ℕ). refuse (ltb most_blocks (c + r.n)) count_too_high (refuse (ltb (length r.out.list) (16 * r.n)) short_output 0)) (counted (in_runs key iv m rs) e)

pub one_stay_per_state : OneStayPerState
one_stay_per_state =
    record {
      accepted = accepted;
      leads = leads;
      apart = λ a b p q k n differ e. differ (one a b p q k n e);
      registers_kept = registers_kept;
      counted = counted;
      at_most = at_most;
      run_answers = run_answers;
      names = names;
      traces = λ s g key. traces s g key.list key.below;
      revives = λ key block. revives key.list block.list key.below block.below;
      registers_written = λ key iv cs e out n. written key iv (begin_keyed key iv e) cs out n;
      resumed = λ key iv cs e out n. resumed key iv (begin_keyed key iv e) cs out n;
    }
