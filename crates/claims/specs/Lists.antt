-- The lists of demands 2 and 3 (document 01, "Sessions and parking"). A list of the first kind is calls on the session that an accepted begin
-- gives, whose mode is sealed; one of the second kind is runs forward of the state that an accepted start gives, in either mode. Each call gets
-- the session or state that the one before it returned or left, and all else that it is handed is arbitrary; a refused call stands in a list like
-- any other and draws nothing. Every call is the definition that its contract names. Keys, IVs, pieces and outputs are lists of bytes. Behind them stand the
-- lists of document 02's S-5.
use Rattle.std.specs.Prelude.{ℕ, ◌+◌, ◌<◌, ◌≤◌, ◌≡◌, Bool, true, false, ◌||◌, List, [], ◌∷◌, ◌++◌, eqb, get_or, length, take, replicate}
use Rattle.scope.specs.Refusals.{granted}
use Rattle.words.specs.Bytes.{part}
use Rattle.cipher.specs.Registers.{Registers}
use Rattle.cipher.specs.Run.{forward}
use Rattle.cipher.specs.State.{State, run_number, run_state}
use Rattle.start.specs.Start.{Mode, Mode.sealed, started, start_number, blank}
use Rattle.session.specs.Session.{Session, drawn_at}
use Rattle.session.specs.Calls.{begin_call, data_call, text_call, finish_call}
use Rattle.layout.specs.Block.{registers_at}
use Rattle.suspend.specs.Calls.{suspend_call}
use Rattle.suspend.specs.Walk.{resume_call}

-- what a lent slice holds
pub record Bytes : Type 0 where
  pub list : List ℕ
  pub below : (i : ℕ) → get_or list i 0 < 256

-- ---- the first kind

-- A call, and all that it is handed beside the session. Park is suspend here, and take up is resume. "A take up follows its park with no call
-- between, with the parked bytes and the begin's key", so the two are one constructor; a suspend alone may stand anywhere.
pub data Call : Type 0 where
  give_data : (piece : Bytes) → Call
  give_text : (piece out : Bytes) → Call
  suspend_alone : (out : Bytes) → Call
  suspend_and_resume : (out : Bytes) → Call

-- where a list of calls has come to: the session, the accepted pieces joined, of data and of text, what the latter wrote, and whether a text piece,
-- even an empty one, has closed the data
pub record Trail : Type 0 where
  pub session : Session
  pub ad : List ℕ
  pub text : List ℕ
  pub cipher : List ℕ
  pub text_begun : Bool

-- The session that a call leaves, under the key of its begin or resume. A suspend that is refused is followed by no resume; behind an accepted one the session is
-- what resume gives, whatever that is.
unfoldable pub left_by : (key : List ℕ) → Session → Call → Session
left_by key s (give_data p) = (data_call s p.list).session
left_by key s (give_text p out) = (text_call s p.list out.list).session
left_by key s (suspend_alone out) = (suspend_call s out.list).session
left_by key s (suspend_and_resume out) =
    let g = suspend_call s out.list in granted g.number (resume_call key (take 512 g.out)).session g.session

-- one call more
unfoldable pub call : (key : List ℕ) → Trail → Call → Trail
call key t (give_data p) =
    let g = data_call t.session p.list in
    record {
      session = left_by key t.session (give_data p);
      ad = t.ad ++ granted g.number p.list [];
      text = t.text;
      cipher = t.cipher;
      text_begun = t.text_begun;
    }
call key t (give_text p out) =
    let g = text_call t.session p.list out.list in
    record {
      session = left_by key t.session (give_text p out);
      ad = t.ad;
      text = t.text ++ granted g.number p.list [];
      cipher = t.cipher ++ granted g.number (take (length p.list) g.out) [];
      text_begun = t.text_begun || eqb g.number 0;
    }
call key t (suspend_alone out) =
    record { session = left_by key t.session (suspend_alone out); ad = t.ad; text = t.text; cipher = t.cipher; text_begun = t.text_begun }
call key t (suspend_and_resume out) =
    record { session = left_by key t.session (suspend_and_resume out); ad = t.ad; text = t.text; cipher = t.cipher; text_begun = t.text_begun }

unfoldable pub calls : (key : List ℕ) → Trail → List Call → Trail
calls key t [] = t
calls key t (c ∷ cs) = calls key (call key t c) cs

-- what the pieces of data and text in a list are answered, in turn
unfoldable pub answers : (key : List ℕ) → Trail → List Call → List ℕ
answers key t [] = []
answers key t (give_data p ∷ cs) = (data_call t.session p.list).number ∷ answers key (call key t (give_data p)) cs
answers key t (give_text p out ∷ cs) = (text_call t.session p.list out.list).number ∷ answers key (call key t (give_text p out)) cs
answers key t (suspend_alone out ∷ cs) = answers key (call key t (suspend_alone out)) cs
answers key t (suspend_and_resume out ∷ cs) = answers key (call key t (suspend_and_resume out)) cs

-- from begin on: where the whole list has come to, and what its pieces are answered
abbrev pub at_begin : (key iv : Bytes) → Trail
at_begin key iv = record { session = (begin_call key.list iv.list).session; ad = []; text = []; cipher = []; text_begun = false }

abbrev pub after : (key iv : Bytes) → List Call → Trail
after key iv cs = calls key.list (at_begin key iv) cs

abbrev pub answers_of : (key iv : Bytes) → List Call → List ℕ
answers_of key iv cs = answers key.list (at_begin key iv) cs

-- "A session's is the one whose registers an accepted park of it would write at bytes 16-127": the cipher state of a session
unfoldable pub cipher_state : Session → Registers
cipher_state s = registers_at (part 16 112 (suspend_call s (replicate 512 0)).out)

-- ---- a page handed over: data pieces, then text pieces, each with room for its ciphertext; suspended and resumed anywhere, or not

-- the pieces of data in a list, joined, and those of text
unfoldable pub data_pieces : List Call → List ℕ
data_pieces [] = []
data_pieces (give_data p ∷ cs) = p.list ++ data_pieces cs
data_pieces (give_text p out ∷ cs) = data_pieces cs
data_pieces (suspend_alone out ∷ cs) = data_pieces cs
data_pieces (suspend_and_resume out ∷ cs) = data_pieces cs

unfoldable pub text_pieces : List Call → List ℕ
text_pieces [] = []
text_pieces (give_data p ∷ cs) = text_pieces cs
text_pieces (give_text p out ∷ cs) = p.list ++ text_pieces cs
text_pieces (suspend_alone out ∷ cs) = text_pieces cs
text_pieces (suspend_and_resume out ∷ cs) = text_pieces cs

-- no data any more, and room for every piece
unfoldable pub TextOn : List Call → Type 0
TextOn [] = Unit
TextOn (give_data p ∷ cs) = ⊥
TextOn (give_text p out ∷ cs) = (length p.list ≤ length out.list) × TextOn cs
TextOn (suspend_alone out ∷ cs) = TextOn cs
TextOn (suspend_and_resume out ∷ cs) = TextOn cs

-- data, and text behind it
unfoldable pub DataThenText : List Call → Type 0
DataThenText [] = Unit
DataThenText (give_data p ∷ cs) = DataThenText cs
DataThenText (give_text p out ∷ cs) = (length p.list ≤ length out.list) × TextOn cs
DataThenText (suspend_alone out ∷ cs) = DataThenText cs
DataThenText (suspend_and_resume out ∷ cs) = DataThenText cs

-- a list of pieces that join to the page
pub record Joins (cs : List Call) (ad text : List ℕ) : Type 0 where
  pub order : DataThenText cs
  pub data_joins : data_pieces cs ≡ ad
  pub text_joins : text_pieces cs ≡ text

-- ---- the second kind

-- a run forward of n blocks into a lent output
pub record Run : Type 0 where
  pub n : ℕ
  pub out : Bytes

-- where a list of runs has come to: the state, and the sum of n over the accepted runs, which is added up here and not read from the state
pub record Course : Type 0 where
  pub state : State
  pub sum : ℕ

unfoldable pub runs : Course → List Run → Course
runs c [] = c
runs c (r ∷ rs) =
    let len = length r.out.list in
    runs
    (record {
      state = run_state forward c.state len r.n;
      sum = c.sum + granted (run_number forward c.state.count len r.n) r.n 0;
    })
    rs

-- the whole list, from what start hands out on
abbrev pub course : (key iv : Bytes) → Mode → List Run → Course
course key iv m rs =
    runs (record { state = granted (start_number key.list iv.list) (started key.list iv.list m) blank; sum = 0 }) rs

-- ---- lists of either kind

pub data History : Type 0 where
  in_session : (key iv : Bytes) → List Call → History
  in_runs : (key iv : Bytes) → Mode → List Run → History

abbrev pub key_of : History → List ℕ
key_of (in_session key iv cs) = key.list
key_of (in_runs key iv m rs) = key.list

-- the stay number that it began with
abbrev pub iv_of : History → List ℕ
iv_of (in_session key iv cs) = iv.list
iv_of (in_runs key iv m rs) = iv.list

abbrev pub mode_of : History → Mode
mode_of (in_session key iv cs) = sealed
mode_of (in_runs key iv m rs) = m

-- its begin, or its start, is accepted
abbrev pub Accepted : History → Type 0
Accepted (in_session key iv cs) = (begin_call key.list iv.list).number ≡ 0
Accepted (in_runs key iv m rs) = start_number key.list iv.list ≡ 0

-- the cipher state that it ends in
abbrev pub end : History → Registers
end (in_session key iv cs) = cipher_state (after key iv cs).session
end (in_runs key iv m rs) = (course key iv m rs).state.registers

-- the blocks that it has drawn: 2 + (the length of all accepted text pieces together) / 16 rounded up, or the sum of n over the accepted runs
abbrev pub drawn : History → ℕ
drawn (in_session key iv cs) = drawn_at (length (after key iv cs).text)
drawn (in_runs key iv m rs) = (course key iv m rs).sum

-- the state that it leaves, which carries a count of its own: the session's, or the one that was run
abbrev pub state_after : History → State
state_after (in_session key iv cs) = (after key iv cs).session.state
state_after (in_runs key iv m rs) = (course key iv m rs).state

-- ---- a kind of its own (document 02, S-5): a session from an accepted begin or take up on, its finish with it

-- what gave the session: begin, or resume of any block at all, one that nobody here wrote included
pub data Source : Type 0 where
  by_begin : (key iv : Bytes) → Source
  by_resume : (key block : Bytes) → Source

abbrev pub source_key : Source → List ℕ
source_key (by_begin key iv) = key.list
source_key (by_resume key block) = key.list

-- what it was answered, and the session that it gave
abbrev pub source_number : Source → ℕ
source_number (by_begin key iv) = (begin_call key.list iv.list).number
source_number (by_resume key block) = (resume_call key.list block.list).number

abbrev pub source_session : Source → Session
source_session (by_begin key iv) = (begin_call key.list iv.list).session
source_session (by_resume key block) = (resume_call key.list block.list).session

-- the stay number that was handed to begin, or that resume gave
abbrev pub source_iv : Source → List ℕ
source_iv (by_begin key iv) = iv.list
source_iv (by_resume key block) = (resume_call key.list block.list).iv

-- a call of the first kind, or finish, which may stand anywhere; behind the first one every call is refused
pub data SessionCall : Type 0 where
  as_before : Call → SessionCall
  finish : SessionCall

unfoldable pub goes_on : (key : List ℕ) → Session → List SessionCall → Session
goes_on key s [] = s
goes_on key s (as_before c ∷ cs) = goes_on key (left_by key s c) cs
goes_on key s (finish ∷ cs) = goes_on key (finish_call s).session cs

-- where the whole list has come to
abbrev pub come_to : Source → List SessionCall → Session
come_to o cs = goes_on (source_key o) (source_session o) cs

-- whether a finish stands in it
unfoldable pub ends : List SessionCall → Bool
ends [] = false
ends (as_before c ∷ cs) = ends cs
ends (finish ∷ cs) = true
