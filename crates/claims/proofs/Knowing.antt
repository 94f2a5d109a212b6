-- A session from an accepted begin or resume on (document 02, S-5): it stands where its key and stay number lead, and goes on standing there by every call, refused
-- ones included; a finish, the first of which is accepted, ends it where it stands. So trace gives the number that it carries.
use mathlib.Core.Path.{◌≡◌, refl, sym, ap, subst, ◌∙◌}
use mathlib.Core.Bool.{Bool, true, false, ◌||◌}
use mathlib.Core.List.{List, [], ◌∷◌}
use Prim.Native.Nat.{ℕ}
use native.Mathlib.Nat.{zero-add}
use native.Mathlib.Omega.{arith}
use borrow.Author.Tests.{eqb-true}
use lib.Dec.{eqb}
use lib.ListN.{take}
use Rattle.scope.specs.Refusals.{pick, refuse, out_of_phase}
use Rattle.words.specs.Bytes.{Row, IsBlock, zeros, part}
use Rattle.cipher.specs.Run.{forward, moves}
use Rattle.cipher.specs.State.{State}
use Rattle.start.specs.Start.{Mode.sealed, start}
use Rattle.start.specs.Leads.{LeadsToState, Traced.origin}
use Rattle.start.specs.Trace.{trace}
use Rattle.session.specs.Session.{Session, drawn_at}
use Rattle.session.specs.Calls.{begun, begin_call, data_number, data_call, text_number, text_call, finish_number, finished, finish_call, Finished}
use Rattle.session.specs.Pieces.{closed, tag_of}
use Rattle.session.proofs.Beginning.{granted_session}
use Rattle.session.proofs.Numbers.{data_open, text_within, finish_due, finish_accepted}
use Rattle.session.proofs.Pieces.{closed_text}
use Rattle.layout.specs.Block.{registers_at, read}
use Rattle.layout.proofs.Taken.{read_fine}
use Rattle.suspend.specs.Calls.{suspend_number, suspend_call}
use Rattle.suspend.specs.Walk.{resume_call}
use Rattle.suspend.proofs.Resuming.{revives}
use Rattle.suspend.proofs.RoundTrip.{Led, traced, same_state, suspend_session, suspend_registers, resumes}
use Rattle.suspend.proofs.Leading.{begun_led, revived_led, data_led, closed_led, text_led}
use Rattle.claims.specs.Lists.{Bytes, Call, Call.give_data, Call.give_text, Call.suspend_alone, Call.suspend_and_resume, left_by, Source, Source.by_begin, Source.by_resume, source_key, source_number, source_session, source_iv, SessionCall, SessionCall.as_before, SessionCall.finish, goes_on, come_to, ends}
use Rattle.claims.specs.Claims.{Fits, KnowsItsStay}
use Rattle.claims.proofs.Within.{row_of}
use Rattle.claims.proofs.Suspending.{left_same}
use Rattle.claims.proofs.Demands.{begin_keyed}

module _ (key iv : List ℕ) (k : Row 32 256 key) (v : IsBlock iv) where
  -- open, where key and stay number lead, or ended there
  unfoldable pub Placed : (ended : Bool) → Session → Type 0
  Placed false s = Led key iv s
  Placed true s = (u : Session) × Led key iv u × (s ≡ finished u)

  -- ---- an open session

  module _ (s : Session) (l : Led key iv s) where
    data_stands : (p : Bytes) → Led key iv (data_call s p.list).session
    unfolding data_call
    data_stands p = go (eqb (data_number s p.list) 0) refl
      where
        go : (b : Bool) → eqb (data_number s p.list) 0 ≡ b → Led key iv (data_call s p.list).session
        go true e =
            let o = data_open s p.list (eqb-true (data_number s p.list) 0 e) in
            rw e (data_led key iv k v s p.list o.0 o.1 p.below l)
        go false e = rw e l

    text_stands : (p out : Bytes) → Led key iv (text_call s p.list out.list).session
    unfolding text_call
    text_stands p out = go (eqb (text_number s p.list out.list) 0) refl
      where
        go : (b : Bool) → eqb (text_number s p.list out.list) 0 ≡ b → Led key iv (text_call s p.list out.list).session
        go true e =
            let fits = (text_within s p.list out.list (eqb-true (text_number s p.list out.list) 0 e)).0 in
            let c = closed_led key iv k v s l in
            rw e (text_led key iv k v (closed s) p.list c.1 (rw (closed_text s) fits) p.below c.0)
        go false e = rw e l

    open_stands : (c : Call) → Led key iv (left_by key s c)
    unfolding left_by
    open_stands (give_data p) = data_stands p
    open_stands (give_text p out) = text_stands p out
    open_stands (suspend_alone out) = subst (Led key iv) (sym (suspend_session s out.list)) l
    open_stands (suspend_and_resume out) = subst (Led key iv) (sym (left_same key iv s out (resumes key iv k v s l out.list))) l

    finish_is : finish_call s ≡ record { number = 0; tag = tag_of s; iv = s.iv; session = finished s }
    finish_is = finish_accepted s (finish_due s (omega (arith, l.fine.phase_is)))

  -- ---- an ended one: every call gives 7

  ended_same : (u : Session) (c : Call) → left_by key (finished u) c ≡ finished u
  unfolding left_by finished data_call data_number text_call text_number suspend_call suspend_number
  ended_same u (give_data p) = refl
  ended_same u (give_text p out) = refl
  ended_same u (suspend_alone out) = refl
  ended_same u (suspend_and_resume out) = refl

  ended_finish : (u : Session) → finish_call (finished u) ≡ record { number = 7; tag = zeros; iv = zeros; session = finished u }
  unfolding finished finish_call finish_number
  ended_finish u = refl

  -- ---- every list

  pub called : (b : Bool) (s : Session) (c : Call) → Placed b s → Placed b (left_by key s c)
  unfolding Placed
  called false s c l = open_stands s l c
  called true s c (u, l, e) = (u, l, ap (λ (t : Session). left_by key t c) e ∙ ended_same u c)

  pub ended : (b : Bool) (s : Session) → Placed b s → Placed true (finish_call s).session
  unfolding Placed
  ended false s l = (s, l, ap (λ (f : Finished). f.session) (finish_is s l))
  ended true s (u, l, e) = (u, l, ap (λ (t : Session). (finish_call t).session) e ∙ ap (λ (f : Finished). f.session) (ended_finish u))

  pub gone_on : (b : Bool) (s : Session) (cs : List SessionCall) → Placed b s → Placed (b || ends cs) (goes_on key s cs)
  unfolding goes_on ends
  gone_on false s [] t = t
  gone_on true s [] t = t
  gone_on b s (as_before c ∷ cs) t = gone_on b (left_by key s c) cs (called b s c t)
  gone_on false s (finish ∷ cs) t = gone_on true (finish_call s).session cs (ended false s t)
  gone_on true s (finish ∷ cs) t = gone_on true (finish_call s).session cs (ended true s t)

  -- ---- what is known of such a session

  pub record Known (ended : Bool) (s : Session) : Type 0 where
    pub leads : LeadsToState key iv sealed s.state
    pub known : trace s.state key ≡ origin iv sealed
    pub carried : s.iv ≡ iv
    pub number : (finish_call s).number ≡ refuse ended out_of_phase 0
    pub given : (finish_call s).iv ≡ pick ended zeros iv
    pub written : (out : List ℕ) → (suspend_call s out).number ≡ 0 → registers_at (part 16 112 (suspend_call s out).out) ≡ s.state.registers
    pub counted : Fits s
    pub resumed : (out : List ℕ) → (suspend_call s out).number ≡ 0 → resume_call key (take 512 (suspend_call s out).out) ≡ record { number = 0; iv = iv; session = s }

  led_there : (s : Session) → Led key iv s → LeadsToState key iv sealed s.state
  led_there s l =
      let n : s.state.count ≡ drawn_at s.text = ap (λ (t : State). t.count) l.state_led ∙ zero-add (drawn_at s.text) in
      record {
        iv_block = v;
        arrives = ap (λ (i : ℕ). moves forward i (start key iv sealed)) n ∙ sym (ap (λ (t : State). t.registers) l.state_led);
      }

  open_known : (s : Session) → Led key iv s → Known false s
  open_known s l =
      record {
        leads = led_there s l;
        known = ap (λ (t : State). trace t key) (sym (same_state key iv k v s l)) ∙ traced key iv k v s l;
        carried = l.iv_led;
        number = ap (λ (f : Finished). f.number) (finish_is s l);
        given = ap (λ (f : Finished). f.iv) (finish_is s l) ∙ l.iv_led;
        written = λ out n. suspend_registers s l.fine out n;
        counted = ap (λ (t : State). t.count) l.state_led ∙ zero-add (drawn_at s.text);
        resumed = λ out n. resumes key iv k v s l out n;
      }

  ended_known : (u : Session) → Led key iv u → Known true (finished u)
  unfolding finished suspend_call suspend_number
  ended_known u l =
      let o = open_known u l in
      record {
        leads = o.leads;
        known = o.known;
        carried = o.carried;
        number = ap (λ (f : Finished). f.number) (ended_finish u);
        given = ap (λ (f : Finished). f.iv) (ended_finish u);
        written = λ out n. absurd (omega arith);
        counted = o.counted;
        resumed = λ out n. absurd (omega arith);
      }

  pub placed_known : (b : Bool) (s : Session) → Placed b s → Known b s
  unfolding Placed
  placed_known false s l = open_known s l
  placed_known true s (u, l, e) = subst (Known true) (sym e) (ended_known u l)

-- ---- from an accepted begin or resume on

pub record From (o : Source) : Type 0 where
  pub key_row : Row 32 256 (source_key o)
  pub iv_block : IsBlock (source_iv o)
  pub led : Led (source_key o) (source_iv o) (source_session o)

pub from : (o : Source) → source_number o ≡ 0 → From o
unfolding begun begin_call
from (by_begin key iv) n =
    let l = begin_keyed key iv n in
    let k = row_of key l.key_long in
    let v = row_of iv l.iv_long in
    record { key_row = k; iv_block = v; led = subst (Led key.list iv.list) (sym (granted_session key.list iv.list n)) (begun_led key.list iv.list k v) }
from (by_resume key block) n =
    let r = revives key.list block.list key.below block.below in
    let f = (r.found (resume_call key.list block.list).iv).0 (n, refl) in
    let k = row_of key f.0.0 in
    record {
      key_row = k;
      iv_block = f.1.iv_block;
      led = subst (Led key.list (source_iv (by_resume key block))) (sym (r.session n))
          (revived_led key.list (source_iv (by_resume key block)) k f.1.iv_block (read block.list) (read_fine block.list block.below f.0.1) f.1);
    }

at : (o : Source) (n : source_number o ≡ 0) (cs : List SessionCall) → Known (source_key o) (source_iv o) (from o n).key_row (from o n).iv_block (ends cs) (come_to o cs)
unfolding Placed
at o n cs =
    let f = from o n in
    placed_known (source_key o) (source_iv o) f.key_row f.iv_block (ends cs) (come_to o cs)
    (gone_on (source_key o) (source_iv o) f.key_row f.iv_block false (source_session o) cs f.led)

pub knows_its_stay : KnowsItsStay
knows_its_stay =
    record {
      leads = λ o n cs. rw (at o n cs).carried (at o n cs).leads;
      known = λ o n cs. (at o n cs).known ∙ ap (λ (i : List ℕ). origin i sealed) (sym (at o n cs).carried);
      carried = λ o n cs. (at o n cs).carried;
      finish_answers = λ o n cs. (at o n cs).number;
      finish_gives = λ o n cs. (at o n cs).given;
      written = λ o n cs out. (at o n cs).written out.list;
      counted = λ o n cs. (at o n cs).counted;
      resumed = λ o n cs out. (at o n cs).resumed out.list;
    }
