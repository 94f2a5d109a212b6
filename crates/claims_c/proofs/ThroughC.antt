-- Through C every list of calls leaves the bytes of the session, or of the state, that the same list leaves below, from which the rest follows.
use mathlib.Core.Path.{◌≡◌, refl, sym, ap, ap₂, subst, ◌∙◌}
use mathlib.Core.Bool.{Bool, true, false}
use mathlib.Core.List.{List, [], ◌∷◌, ◌++◌}
use Prim.Native.Nat.{ℕ, ◌≤◌}
use native.Mathlib.Omega.{arith}
use borrow.Author.Tests.{eqb-true}
use lib.Dec.{eqb}
use lib.ListN.{length, take, drop}
use lib.Seq.{take_at}
use Rattle.scope.specs.Refusals.{pick, refuse, granted, out_of_phase}
use Rattle.words.specs.Bytes.{Row, IsBlock, little, zeros, part}
use Rattle.cipher.specs.State.{State}
use Rattle.start.specs.Start.{Mode.plain, Mode.sealed, start_number}
use Rattle.start.specs.Leads.{Traced, Traced.origin, Traced.refused}
use Rattle.start.specs.Trace.{trace}
use Rattle.layout.specs.Block.{registers_bytes, read}
use Rattle.layout.proofs.RegisterBytes.{good_row}
use Rattle.layout.specs.Rules.{well_laid}
use Rattle.start.proofs.Answers.{both_right}
use Rattle.session.specs.Session.{Session}
use Rattle.session.specs.Calls.{begin_call, finish_call}
use Rattle.suspend.specs.Calls.{state_for, suspend_call, Resumed, revived}
use Rattle.suspend.specs.Walk.{by_origin, resume_call}
use Rattle.suspend.proofs.RoundTrip.{suspend_session}
use Rattle.suspend.proofs.Resuming.{resumed_laid}
use Rattle.claims.specs.Lists.{Bytes, Call, Call.give_data, Call.give_text, Call.suspend_alone, Call.suspend_and_resume, Trail, left_by, call, calls, after, Run, course, History, History.in_session, History.in_runs, Source, Source.by_begin, Source.by_resume, source_key, source_number, source_session, source_iv, goes_on, come_to, ends}
use Rattle.claims.specs.Claims.{Keyed, suspended_number, suspended_out, Resumes}
use Rattle.claims.proofs.Demands.{seals_by_pieces, one_stay_per_state}
use Rattle.claims.proofs.Within.{row_of}
use Rattle.claims.proofs.Suspending.{left_same}
use Rattle.claims.proofs.Knowing.{Placed, called, ended, gone_on, placed_known, from, knows_its_stay}
use Rattle.claims_search.proofs.Claimed.{search_claims}
use Rattle.bytes_c.specs.Order.{room}
use Rattle.bytes_c.specs.StateBytes.{state_bytes}
use Rattle.bytes_c.specs.SessionBytes.{session_bytes, session_in}
use Rattle.bytes_c.specs.Modes.{mode_named}
use Rattle.bytes_c.proofs.Sizes.{Sized}
use Rattle.claims_scheduler.proofs.Sizes.{sized, after_led, after_sized}
use Rattle.tulvekas.specs.Sessions.{begin_answer, finish_writes_iv, suspend_writes}
use Rattle.tulvekas.proofs.SessionAnswers.{begin_right, resume_right}
use Rattle.tulvekas.proofs.CipherAnswers.{state_of_right}
use Rattle.claims_c.specs.Lists.{left, Buffers, CCall, c_call, c_calls, c_after, below, left_state, c_course, CSessionCall, CSessionCall.as_before, CSessionCall.finish, c_goes_on, c_source, c_come_to, session_below}
use Rattle.claims_c.specs.ThroughC.{Stands, ResumesThroughC, TracesThroughC, NamedThroughC, FindsThroughC, ThroughC}
use Rattle.claims_c.proofs.CipherThroughC.{keystream, tells_state, traces}
use Rattle.claims_c.proofs.PagesThroughC.{seals, altered_refused}
use Rattle.claims_c.proofs.FilesThroughC.{opens_file}
use Rattle.claims_c.proofs.KeysThroughC.{fetches_key, key_fetched, key_gone}
use Rattle.claims_c.proofs.ScheduleThroughC.{schedules}
use Rattle.claims_c.proofs.SearchThroughC.{searches, finds_dump}
use Rattle.claims_c.proofs.DatesThroughC.{day_through, kept_through, kept_byte, no_date, no_day, no_kept_date, no_verdict, no_room}
use Rattle.claims_c.proofs.OnBytes.{stored, bytes, stands, data_left, text_left, answered, resumed_left, resumed_iv, resumed_fresh, both_fit, finish_left, finish_short}
use Rattle.claims_c.proofs.StatesOnBytes.{stored_state, course_sized, course_left, stands_course, returned}

-- ---- lists of them

module _ (key iv : List ℕ) (k : Row 32 256 key) (v : IsBlock iv) where
  -- a call on the bytes of a session that stands where key and IV lead, open or ended
  step : (b : Bool) (s : Session) → Placed key iv k v b s → (f : Buffers) (c : Call) → c_call key (session_bytes s) f c ≡ session_bytes (left_by key s c)
  unfolding left_by bytes c_call
  step b s t f (give_data p) = data_left s (sized key iv k v b s t) key f p
  step b s t f (give_text p out) = text_left s (sized key iv k v b s t) key f p out
  step b s t f (suspend_alone out) = ap session_bytes (sym (suspend_session s out.list))
  step b s t f (suspend_and_resume out) =
      let back = (placed_known key iv k v b s t).resumed out.list in
      resumed_fresh s (sized key iv k v b s t) key iv f out back ∙ ap session_bytes (sym (left_same key iv s out back))

  -- lists with finish, which goes on from a session ended, or, without room, from the same one
  finish_goes : (b : Bool) (s : Session) → Placed key iv k v b s → (tag into : List ℕ) (cs : List CSessionCall)
      → c_goes_on key (session_bytes (finish_call s).session) cs ≡ session_bytes (goes_on key (finish_call s).session (session_below cs))
      → c_goes_on key (session_bytes s) cs ≡ session_bytes (goes_on key s (session_below cs))
      → c_goes_on key (session_bytes s) (finish tag into ∷ cs) ≡ session_bytes (goes_on key s (session_below (finish tag into ∷ cs)))
  unfolding c_goes_on goes_on session_below bytes
  finish_goes b s t tag into cs then same = go (eqb (room 16 tag (room 16 into 0)) 0) refl
    where
      go : (u : Bool) → eqb (room 16 tag (room 16 into 0)) 0 ≡ u
          → c_goes_on key (session_bytes s) (finish tag into ∷ cs) ≡ session_bytes (goes_on key s (session_below (finish tag into ∷ cs)))
      go true e =
          let r = both_fit tag into (eqb-true (room 16 tag (room 16 into 0)) 0 e) in
          rw e (ap (λ (l : List ℕ). c_goes_on key l cs) (finish_left s (sized key iv k v b s t) tag into r.0 r.1) ∙ then)
      go false e = rw e (ap (λ (l : List ℕ). c_goes_on key l cs) (finish_short s (sized key iv k v b s t) tag into e) ∙ same)

  going : (b : Bool) (s : Session) → Placed key iv k v b s → (cs : List CSessionCall) → c_goes_on key (session_bytes s) cs ≡ session_bytes (goes_on key s (session_below cs))
  unfolding c_goes_on goes_on session_below bytes
  going b s t [] = refl
  going b s t (as_before c ∷ cs) =
      ap (λ (l : List ℕ). c_goes_on key l cs) (step b s t c.buffers c.call) ∙ going b (left_by key s c.call) (called key iv k v b s c.call t) cs
  going b s t (finish tag into ∷ cs) =
      finish_goes b s t tag into cs (going true (finish_call s).session (ended key iv k v b s t) cs) (going b s t cs)

  -- lists of the first kind, which have none
  call_session : (t : Trail) (c : Call) → (call key t c).session ≡ left_by key t.session c
  unfolding call
  call_session t (give_data p) = refl
  call_session t (give_text p out) = refl
  call_session t (suspend_alone out) = refl
  call_session t (suspend_and_resume out) = refl

  steps : (t : Trail) → Placed key iv k v false t.session → (cs : List CCall)
      → c_calls key (session_bytes t.session) cs ≡ session_bytes (calls key t (below cs)).session
  unfolding c_calls calls below
  steps t l [] = refl
  steps t l (c ∷ cs) =
      let e = sym (call_session t c.call) in
      ap (λ (b : List ℕ). c_calls key b cs) (step false t.session l c.buffers c.call ∙ ap session_bytes e)
      ∙ steps (call key t c.call) (subst (Placed key iv k v false) e (called key iv k v false t.session c.call l)) cs

-- the session that is had from a block has the state that it says
resumed_state : (key b : List ℕ) → (resume_call key b).number ≡ 0 → (resume_call key b).session.state ≡ state_for (read b)
unfolding resume_call by_origin revived
resumed_state key b n = go (eqb (length key) 32) refl (well_laid b) refl
  where
    found : (a : Traced) → (by_origin key (read b) a).number ≡ 0 → (by_origin key (read b) a).session.state ≡ state_for (read b)
    found (origin iv plain) e = absurd (omega arith)
    found (origin iv sealed) e = refl
    found (refused i) e = absurd (omega arith)

    go : (i : Bool) → eqb (length key) 32 ≡ i → (j : Bool) → well_laid b ≡ j → (resume_call key b).session.state ≡ state_for (read b)
    go true p true q = rw (p, q) (found (trace (state_for (read b)) key) (rw (p, q) at n))
    go true p false q = absurd (let z = rw q at (rw p at n) in omega arith)
    go false p j q = absurd (let z = rw p at n in omega arith)

-- the bytes b of a session: what suspend wrote of it gives it back, into any buffers with room
resumes_bytes : (key iv : List ℕ) (s : Session) → Sized s → (b : List ℕ) → Stands b s → (out : Bytes) → (suspend_call s out.list).number ≡ 0
    → resume_call key (take 512 (suspend_call s out.list).out) ≡ record { number = 0; iv = iv; session = s } → (fresh into : List ℕ) → 240 ≤ length fresh
    → 16 ≤ length into → ResumesThroughC key iv b out.list fresh into
unfolding bytes
resumes_bytes key iv s g b t out z e fresh into room-240 room-16 =
    let block : List ℕ = take 512 (suspend_writes b out.list) in
    let back = ap (λ (o : List ℕ). resume_call key (take 512 o)) (t.suspend_output out.list) ∙ e in
    record {
      suspended = t.suspend_answers out.list ∙ z;
      answered = answered s g key iv block back fresh into room-240 room-16;
      same_bytes = resumed_left s g key iv block back fresh into room-240 room-16 ∙ ap (λ (l : List ℕ). l ++ drop 240 fresh) (sym t.bytes);
      same_iv = resumed_iv s g key iv block back fresh into room-240 room-16;
    }

-- ---- from begin or resume on

begun : (key iv session : List ℕ) → start_number key iv ≡ 0 → length session ≡ 240
    → left (begin_answer key iv session) (begin_call key iv).session session ≡ session_bytes (begin_call key iv).session
begun key iv session e long =
    ap (λ (n : ℕ). left n (begin_call key iv).session session) (sym (begin_right key iv session refl e (omega arith)))
    ∙ stored (begin_call key iv).session session long

given : (o : Source) → source_number o ≡ 0 → (f : Buffers) → c_source o f ≡ session_bytes (source_session o)
unfolding begin_call
given (by_begin key iv) n f = begun key.list iv.list f.session n f.session_long
given (by_resume key block) n f =
    ap (λ (n : ℕ). left n (resume_call key.list block.list).session f.session)
    (sym (resume_right key.list block.list f.session f.iv refl n (let l = f.session_long in omega arith) f.iv_room))
    ∙ stored (resume_call key.list block.list).session f.session f.session_long

-- finish has given the number, or one stands in the list already
told : (b : Bool) (n : ℕ) (x v iv : List ℕ) → n ≡ refuse b out_of_phase 0 → x ≡ pick b zeros v
    → granted n (x ++ drop 16 iv) iv ≡ pick b iv (v ++ drop 16 iv)
told true n x v iv e f = rw e
told false n x v iv e f = rw (e, f)

module _ (o : Source) (n : source_number o ≡ 0) (f : Buffers) (cs : List CSessionCall) where
  on : Session
  on = come_to o (session_below cs)

  on_sized : Sized on
  unfolding on Placed
  on_sized =
      let s = from o n in
      sized (source_key o) (source_iv o) s.key_row s.iv_block (ends (session_below cs)) on
      (gone_on (source_key o) (source_iv o) s.key_row s.iv_block false (source_session o) (session_below cs) s.led)

  stands_on : Stands (c_come_to o f cs) (come_to o (session_below cs))
  unfolding bytes on Placed
  stands_on =
      let s = from o n in
      let e = ap (λ (l : List ℕ). c_goes_on (source_key o) l cs) (given o n f)
      ∙ going (source_key o) (source_iv o) s.key_row s.iv_block false (source_session o) s.led cs in
      subst (λ (l : List ℕ). Stands l on) (sym e) (stands on on_sized)

  iv_carried : part 224 16 (c_come_to o f cs) ≡ source_iv o
  unfolding session_in
  iv_carried = ap (λ (s : Session). s.iv) stands_on.lists ∙ knows_its_stay.carried o n (session_below cs)

  iv_given : (tag iv : List ℕ) → 16 ≤ length tag → 16 ≤ length iv
      → finish_writes_iv (c_come_to o f cs) tag iv ≡ pick (ends (session_below cs)) iv (source_iv o ++ drop 16 iv)
  iv_given tag iv r q =
      stands_on.finish_iv tag iv r q
      ∙ told (ends (session_below cs)) _ _ (source_iv o) iv (knows_its_stay.finish_answers o n (session_below cs)) (knows_its_stay.finish_gives o n (session_below cs))

  resumed_on : (out : Bytes) → (suspend_call (come_to o (session_below cs)) out.list).number ≡ 0 → (fresh into : List ℕ) → 240 ≤ length fresh → 16 ≤ length into
      → ResumesThroughC (source_key o) (source_iv o) (c_come_to o f cs) out.list fresh into
  unfolding on
  resumed_on out z =
      resumes_bytes (source_key o) (source_iv o) (come_to o (session_below cs)) on_sized (c_come_to o f cs) stands_on out z
      (knows_its_stay.resumed o n (session_below cs) out z)

module _ (key iv : Bytes) (l : Keyed key iv) (session : List ℕ) (room-240 : length session ≡ 240) where
  after_bytes : (cs : List CCall) → c_after key iv session cs ≡ session_bytes (after key iv (below cs)).session
  unfolding calls Placed
  after_bytes cs =
      ap (λ (b : List ℕ). c_calls key.list b cs)
      (begun key.list iv.list session (both_right key.list iv.list l.key_long l.iv_long) room-240)
      ∙ steps key.list iv.list (row_of key l.key_long) (row_of iv l.iv_long) _ (after_led key iv l []) cs

  module _ (cs : List CCall) where
    here : Session
    here = (after key iv (below cs)).session

    here_sized : Sized here
    unfolding here
    here_sized = after_sized key iv l (below cs)

    stands_after : Stands (c_after key iv session cs) (after key iv (below cs)).session
    unfolding bytes here
    stands_after = subst (λ (b : List ℕ). Stands b here) (sym (after_bytes cs)) (stands here here_sized)

    module _ (out : Bytes) (room-512 : 512 ≤ length out.list) where
      both : (suspended_number key iv (below cs) out ≡ 0) × Resumes key iv (below cs) out
      both = seals_by_pieces.resumed key iv l (below cs) out room-512

      block_is : take 512 (suspend_writes (c_after key iv session cs) out.list) ≡ take 512 (suspended_out key iv (below cs) out)
      block_is = ap (take 512) (stands_after.suspend_output out.list)

      resumes : (fresh into : List ℕ) → 240 ≤ length fresh → 16 ≤ length into
          → ResumesThroughC key.list iv.list (c_after key iv session cs) out.list fresh into
      unfolding here
      resumes = resumes_bytes key.list iv.list here here_sized (c_after key iv session cs) stands_after out both.0 both.1

      -- the block that suspend wrote says the session's own state, which trace below leads back to the begin's IV
      names : (state : List ℕ) → length state ≡ 120
          → NamedThroughC key.list (take 512 (suspend_writes (c_after key iv session cs) out.list)) state (after key iv (below cs)).session.state
          (origin iv.list sealed)
      unfolding here
      names state room-120 =
          let block : List ℕ = take 512 (suspend_writes (c_after key iv session cs) out.list) in
          let s : State = here.state in
          let back = ap (resume_call key.list) block_is ∙ both.1 in
          let number = ap (λ (x : Resumed). x.number) back in
          let answered = sym (state_of_right block state (resumed_laid key.list block number) (omega arith)) in
          let own : state_for (read block) ≡ s = sym (resumed_state key.list block number) ∙ ap (λ (x : Resumed). x.session.state) back in
          let bytes = ap₂ (λ (n : ℕ) (u : State). left_state n u state) answered own ∙ stored_state s state room-120 in
          let h : History = in_session key iv (below cs) in
          let found = one_stay_per_state.names h (one_stay_per_state.accepted h l.key_long l.iv_long) in
          record {
            answered = answered;
            bytes = bytes;
            traced = subst (λ (b : List ℕ). TracesThroughC b key.list (origin iv.list sealed)) (sym bytes)
                (tells_state s here_sized.state_sized key.list found);
          }

-- ---- from start on

names_run : (key iv : Bytes) → Keyed key iv → (mode : ℕ) (state : List ℕ) → length state ≡ 120 → (rs : List Run)
    → TracesThroughC (c_course key iv mode state rs) key.list (origin iv.list (mode_named mode))
names_run key iv l mode state room-120 rs =
    let h : History = in_runs key iv (mode_named mode) rs in
    let found = one_stay_per_state.names h (one_stay_per_state.accepted h l.key_long l.iv_long) in
    subst (λ (b : List ℕ). TracesThroughC b key.list (origin iv.list (mode_named mode))) (sym (course_left key iv l mode state room-120 rs))
    (tells_state (course key iv (mode_named mode) rs).state (course_sized key iv l mode state room-120 rs) key.list found)

-- ---- the search

finds : (key iv : Bytes) → Keyed key iv → (session : List ℕ) → length session ≡ 240 → (cs : List CCall) (out : Bytes) → 512 ≤ length out.list
    → (dump : Bytes) → dump.list ≡ part 16 112 (suspend_writes (c_after key iv session cs) out.list)
    → FindsThroughC (in_session key iv (below cs)) dump.list
finds key iv l session room-240 cs out room-512 dump is =
    let h : History = in_session key iv (below cs) in
    let e = one_stay_per_state.accepted h l.key_long l.iv_long in
    finds_dump h e dump
    (search_claims.suspended key iv (below cs) e out dump (both key iv l session room-240 cs out room-512).0
    (is ∙ ap (part 16 112) ((stands_after key iv l session room-240 cs).suspend_output out.list)))

finds_run : (key iv : Bytes) → Keyed key iv → (mode : ℕ) (state : List ℕ) → length state ≡ 120 → (rs : List Run) (dump : Bytes)
    → dump.list ≡ part 0 112 (c_course key iv mode state rs) → FindsThroughC (in_runs key iv (mode_named mode) rs) dump.list
unfolding state_bytes
finds_run key iv l mode state room-120 rs dump is =
    let h : History = in_runs key iv (mode_named mode) rs in
    let e = one_stay_per_state.accepted h l.key_long l.iv_long in
    let s : State = (course key iv (mode_named mode) rs).state in
    let long = (good_row s.registers (course_sized key iv l mode state room-120 rs).registers_good).long in
    finds_dump h e dump
    (search_claims.ran key iv (mode_named mode) rs e dump
    (is ∙ ap (part 0 112) (course_left key iv l mode state room-120 rs) ∙ take_at (registers_bytes s.registers) (little 8 s.count) 112 long))

pub through_c : ThroughC
through_c =
    record {
      stands = λ key iv l session room cs. stands_after key iv l session room cs;
      resumed = λ key iv l session room cs out room-512. resumes key iv l session room cs out room-512;
      stands_on = stands_on;
      iv_carried = iv_carried;
      iv_given = iv_given;
      resumed_on = resumed_on;
      seals = seals;
      altered_refused = λ key iv ad text out tag l room nz p q d c s o into fits. altered_refused key iv ad text out tag l room nz p q d c s o into fits;
      opens_file = opens_file;
      fetches_key = fetches_key;
      key_fetched = key_fetched;
      key_gone = key_gone;
      schedules = schedules;
      keystream = keystream;
      stands_state = stands_course;
      returned = returned;
      traces = traces;
      names = λ key iv l session room cs out room-512. names key iv l session room cs out room-512;
      names_run = names_run;
      searches = searches;
      finds = finds;
      finds_run = finds_run;
      days = day_through;
      kept_dates = kept_through;
      kept = kept_byte;
      no_date = no_date;
      no_day = no_day;
      no_kept_date = no_kept_date;
      no_verdict = no_verdict;
      no_room = no_room;
    }
