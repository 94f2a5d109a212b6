-- What a search finds of where a list ended: its own count is one at which its stay number and mode lead there, so that the range is not without any, and the
-- least is its own or a lesser one.
use mathlib.Core.Path.{◌≡◌, sym, ap, subst, ◌∙◌}
use mathlib.Core.Logic.{◌↔◌}
use mathlib.Core.List.{List}
use Prim.Native.Nat.{ℕ, ◌+◌, ◌≤◌}
use native.Mathlib.Omega.{arith}
use native.Mathlib.Decide.{dec_lt}
use lib.ListN.{length, take, length-take}
use Rattle.scope.specs.Limits.{most_blocks}
use Rattle.words.specs.Bytes.{part}
use Rattle.words.proofs.Parts.{part_long}
use Rattle.cipher.specs.Registers.{Registers}
use Rattle.start.specs.Start.{Mode}
use Rattle.start.specs.Leads.{LeadsTo}
use Rattle.start.proofs.Tracing.{leads_one}
use Rattle.layout.specs.Block.{registers_at, registers_bytes}
use Rattle.layout.proofs.RegisterBytes.{good_row, registers_back}
use Rattle.layout.proofs.Obeying.{laid_long}
use Rattle.suspend.specs.Calls.{Resumed}
use Rattle.suspend.proofs.Resuming.{resumed_laid}
use Rattle.search.specs.Search.{Searched, Searched.found, steps_to, NoneLeads, Searchable, Searches}
use Rattle.search.specs.Counts.{search}
use Rattle.search.proofs.Searching.{searches, Decided, Decided.at, Decided.nowhere, decided}
use Rattle.claims.specs.Lists.{Bytes, Call, Run, History, History.in_session, History.in_runs, key_of, iv_of, mode_of, Accepted, end, drawn, state_after}
use Rattle.claims.specs.Claims.{suspended_number, suspended_out}
use Rattle.claims.proofs.Demands.{one_stay_per_state, key_row, end_good}
use Rattle.claims_search.specs.Claims.{DumpOf, NoLesserCount, FoundAgain}

-- ---- dumps

module _ (key iv : Bytes) (cs : List Call) (e : Accepted (in_session key iv cs)) (out dump : Bytes) (n : suspended_number key iv cs out ≡ 0)
    (is : dump.list ≡ part 16 112 (suspended_out key iv cs out)) where
  -- suspend has written a whole block, since resume takes it
  block_long : length (take 512 (suspended_out key iv cs out)) ≡ 512
  block_long =
      laid_long (take 512 (suspended_out key iv cs out))
      (resumed_laid key.list (take 512 (suspended_out key iv cs out)) (ap (λ (r : Resumed). r.number) (one_stay_per_state.resumed key iv cs e out n)))

  pub suspended_dump : DumpOf (in_session key iv cs) dump
  suspended_dump =
      record {
        long = ap length is ∙ part_long (suspended_out key iv cs out) 16 112 (omega (arith, simp length-take at block_long));
        lists = ap registers_at is ∙ one_stay_per_state.registers_written key iv cs e out n;
      }

module _ (key iv : Bytes) (m : Mode) (rs : List Run) (e : Accepted (in_runs key iv m rs)) (dump : Bytes)
    (is : dump.list ≡ registers_bytes (state_after (in_runs key iv m rs)).registers) where
  pub run_dump : DumpOf (in_runs key iv m rs) dump
  run_dump =
      let good = end_good (in_runs key iv m rs) e in
      record {
        long = ap length is ∙ (good_row (end (in_runs key iv m rs)) good).long;
        lists = ap registers_at is ∙ registers_back (end (in_runs key iv m rs)) good;
      }

-- ---- what is found

module _ (a : History) (e : Accepted a) (dump : Bytes) (d : DumpOf a dump) (lowest highest : ℕ) (from : lowest ≤ drawn a) (up_to : drawn a ≤ highest)
    (within : highest ≤ most_blocks) where
  abbrev answer : Searched
  answer = search dump.list (key_of a) lowest highest

  fit : Searchable dump.list (key_of a) lowest highest
  fit = record { key_long = (key_row a e).long; dump_long = d.long; within = within; ordered = omega arith }

  says : Searches dump.list (key_of a) lowest highest answer
  says = searches dump.list (key_of a) lowest highest dump.below (key_row a e).below

  leads : LeadsTo (key_of a) (drawn a) (iv_of a) (mode_of a) (registers_at dump.list)
  leads = subst (LeadsTo (key_of a) (drawn a) (iv_of a) (mode_of a)) (sym d.lists) (one_stay_per_state.leads a e)

  some : (c : ℕ) × (iv : List ℕ) × (m : Mode) × (c ≤ drawn a) × (answer ≡ found c iv m (steps_to lowest c))
  some = by (decided dump.list (key_of a) lowest highest dump.below (key_row a e).below fit)
    where
      by : Decided dump.list (key_of a) lowest highest dump.below (key_row a e).below fit
          → (c : ℕ) × (iv : List ℕ) × (m : Mode) × (c ≤ drawn a) × (answer ≡ found c iv m (steps_to lowest c))
      by (at c iv m l f) =
          let less : c ≤ drawn a = elim (dec_lt (drawn a) c) [ yes x ↦ absurd (l.none_before (drawn a) from x (iv_of a) (mode_of a) leads) | no x ↦ omega arith ] in
          (c, iv, m, less, f)
      by (nowhere l f) = absurd (l (drawn a) from up_to (iv_of a) (mode_of a) leads)

  itself : (answer ≡ found (drawn a) (iv_of a) (mode_of a) (steps_to lowest (drawn a))) ↔ NoLesserCount a lowest
  itself = (
    λ f. let l = ((says.found_least (drawn a) (iv_of a) (mode_of a)).0 f).1 in
        λ c p q. subst (λ (s : Registers). NoneLeads (key_of a) s c) d.lists (l.none_before c p q),
    λ h. (says.found_least (drawn a) (iv_of a) (mode_of a)).1 (
      fit,
      record {
        from = from;
        up_to = up_to;
        leads = leads;
        none_before = λ c p q. subst (λ (s : Registers). NoneLeads (key_of a) s c) (sym d.lists) (h c p q);
      },
    ),
  )

  own : (iv : List ℕ) (m : Mode) → answer ≡ found (drawn a) iv m (steps_to lowest (drawn a)) → (iv ≡ iv_of a) × (m ≡ mode_of a)
  own iv m f = leads_one (key_of a) (key_row a e) (drawn a) ((says.found_least (drawn a) iv m).0 f).1.leads leads

  pub found_again : FoundAgain a dump lowest highest
  found_again =
      record {
        some = some;
        itself = itself;
        from_there = λ z.
            let n : steps_to lowest (drawn a) ≡ drawn a + 16 = omega arith in
            itself.1 (λ c p q. absurd (omega arith)) ∙ ap (found (drawn a) (iv_of a) (mode_of a)) n;
        own = own;
      }
