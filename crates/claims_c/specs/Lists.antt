-- The lists of calls of demands 2 and 3 and of S-5 (crates/claims/specs/Lists.antt) as C makes them, on a session in 240 lent bytes and on a state in 120: what the
-- contracts of the calls for C say, one call after the other.
use Rattle.std.specs.Prelude.{ℕ, ◌≤◌, ◌≡◌, List, [], ◌∷◌, length, take}
use Rattle.scope.specs.Refusals.{granted}
use Rattle.cipher.specs.State.{State, moved}
use Rattle.start.specs.Start.{started}
use Rattle.session.specs.Session.{Session}
use Rattle.session.specs.Calls.{begin_call, data_call, text_call, finish_call}
use Rattle.suspend.specs.Walk.{resume_call}
use Rattle.claims.specs.Lists.{Bytes, Call, Call.give_data, Call.give_text, Call.suspend_alone, Call.suspend_and_resume, Run, Source, Source.by_begin, Source.by_resume, source_key, SessionCall}
use Rattle.bytes_c.specs.Order.{room, buffer_after}
use Rattle.bytes_c.specs.StateBytes.{state_bytes, state_in}
use Rattle.bytes_c.specs.SessionBytes.{session_bytes, session_in}
use Rattle.bytes_c.specs.Modes.{mode_named}
use Rattle.tulvekas.specs.Cipher.{back_named, start_answer, run_answer}
use Rattle.tulvekas.specs.Sessions.{begin_answer, data_answer, text_answer, finish_answer, suspend_answer, suspend_writes, resume_answer}

-- what a call that answers n and gives the session g leaves in a lent session, as `Leaves` says
abbrev pub left : ℕ → Session → (session : List ℕ) → List ℕ
left n g b = buffer_after n 240 (session_bytes g) b

-- what a resume is lent, and at the head of a list a begin: 240 bytes for the session and room for the IV, whatever stands in them
pub record Buffers : Type 0 where
  pub session : List ℕ
  pub iv : List ℕ
  pub session_long : length session ≡ 240
  pub iv_room : 16 ≤ length iv

-- a call, and what a resume in it is lent
pub record CCall : Type 0 where
  pub call : Call
  pub buffers : Buffers

-- One call more: the bytes of the session afterwards. Suspend only reads it. Resume, right after an accepted suspend and with the 512 bytes that it
-- wrote, goes into fresh bytes, which are the session from then on.
unfoldable pub c_call : (key : List ℕ) → (session : List ℕ) → Buffers → Call → List ℕ
c_call key b f (give_data p) = left (data_answer b p.list) (data_call (session_in b) p.list).session b
c_call key b f (give_text p out) = left (text_answer b p.list out.list) (text_call (session_in b) p.list out.list).session b
c_call key b f (suspend_alone out) = b
c_call key b f (suspend_and_resume out) =
    let block = take 512 (suspend_writes b out.list) in
    granted (suspend_answer b out.list) (left (resume_answer key block f.session f.iv) (resume_call key block).session f.session) b

unfoldable pub c_calls : (key : List ℕ) → (session : List ℕ) → List CCall → List ℕ
c_calls key b [] = b
c_calls key b (c ∷ cs) = c_calls key (c_call key b c.buffers c.call) cs

-- the whole list, from begin on
abbrev pub c_after : (key iv : Bytes) → (session : List ℕ) → List CCall → List ℕ
c_after key iv b cs =
    c_calls key.list (left (begin_answer key.list iv.list b) (begin_call key.list iv.list).session b) cs

-- the same list below
unfoldable pub below : List CCall → List Call
below [] = []
below (c ∷ cs) = c.call ∷ below cs

-- ---- lists of the second kind, on a state in 120 lent bytes

-- what a call that answers n and gives the state g leaves in a lent state, as `LeavesState` says
abbrev pub left_state : ℕ → State → (state : List ℕ) → List ℕ
left_state n g s = buffer_after n 120 (state_bytes g) s

-- a run of n blocks in a direction: the bytes of the state afterwards
abbrev pub c_run : (state : List ℕ) (n back : ℕ) (out : List ℕ) → List ℕ
c_run s n back out = left_state (run_answer s n back out) (moved (back_named back) n (state_in s)) s

unfoldable pub c_runs : (state : List ℕ) → List Run → List ℕ
c_runs s [] = s
c_runs s (r ∷ rs) = c_runs (c_run s r.n 0 r.out.list) rs

-- the whole list, from start on
abbrev pub c_course : (key iv : Bytes) (mode : ℕ) → (state : List ℕ) → List Run → List ℕ
c_course key iv mode s rs =
    c_runs (left_state (start_answer key.list iv.list s) (started key.list iv.list (mode_named mode)) s) rs

-- ---- S-5's lists, on a session in 240 lent bytes

-- a call of the first kind, or finish, into any two buffers
pub data CSessionCall : Type 0 where
  as_before : CCall → CSessionCall
  finish : (tag iv : List ℕ) → CSessionCall

unfoldable pub c_goes_on : (key : List ℕ) → (session : List ℕ) → List CSessionCall → List ℕ
c_goes_on key b [] = b
c_goes_on key b (as_before c ∷ cs) = c_goes_on key (c_call key b c.buffers c.call) cs
c_goes_on key b (finish tag iv ∷ cs) = c_goes_on key (left (finish_answer b tag iv) (finish_call (session_in b)).session b) cs

-- what begin, or resume of any block, leaves in the session's bytes
abbrev pub c_source : Source → Buffers → List ℕ
c_source (by_begin key iv) f = left (begin_answer key.list iv.list f.session) (begin_call key.list iv.list).session f.session
c_source (by_resume key block) f =
    left (resume_answer key.list block.list f.session f.iv) (resume_call key.list block.list).session f.session

-- the whole list, from there on
abbrev pub c_come_to : Source → Buffers → List CSessionCall → List ℕ
c_come_to o f cs = c_goes_on (source_key o) (c_source o f) cs

-- the same list below, where no finish is refused for its buffers: one whose buffers lack room is left out
unfoldable pub session_below : List CSessionCall → List SessionCall
session_below [] = []
session_below (as_before c ∷ cs) = SessionCall.as_before c.call ∷ session_below cs
session_below (finish tag iv ∷ cs) = granted (room 16 tag (room 16 iv 0)) (SessionCall.finish ∷ session_below cs) (session_below cs)
