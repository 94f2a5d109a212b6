-- Who is next and a turn as C is told them (document 02, S-10; the buffers are include/tulvekas.h's): the number that is answered, which is that of the call below, with 4, last, for a
-- buffer that is too short, and what stands in each lent buffer. All buffers are tested, whatever is written; a refusal changes no byte. The other calls of the scheduler are the same
-- for C.
use Rattle.std.specs.Prelude.{ℕ, List, [], ◌∷◌, Bool, true, false, ◌&&◌, eqb}
use Rattle.scope.specs.Refusals.{pick, granted}
use Rattle.words.specs.Bytes.{little}
use Rattle.bytes_c.specs.Order.{next, room, buffer_after}
use Rattle.scheduler.specs.Scheduler.{scheduler_order}
use Rattle.scheduler.specs.Calls.{turn_call, answer, numbered, whom, finished, tag}
use Rattle.scheduler.specs.Bytes.{scheduler_in, next_answer, next_found, next_iv, next_due, turn_outcome, turn_writes, is_served, Leaves}

-- a flag in one byte
abbrev pub flag : Bool → ℕ
flag false = 0
flag true = 1

-- ---- next: 8, 4 for any of the three buffers

unfoldable pub asked_answer : (scheduler found iv due : List ℕ) → ℕ
asked_answer b found iv due = next (next_answer b) (room 1 found (room 16 iv (room 8 due 0)))

unfoldable pub asked_found : (scheduler found iv due : List ℕ) → List ℕ
asked_found b found iv due = buffer_after (asked_answer b found iv due) 1 (flag (next_found b) ∷ []) found

-- the IV and the length of its piece, where somebody is there
unfoldable pub asked_iv : (scheduler found iv due : List ℕ) → List ℕ
asked_iv b found iv due = pick (next_found b) (buffer_after (asked_answer b found iv due) 16 (next_iv b) iv) iv

unfoldable pub asked_due : (scheduler found iv due : List ℕ) → List ℕ
asked_due b found iv due = pick (next_found b) (buffer_after (asked_answer b found iv due) 8 (little 8 (next_due b)) due) due

-- ---- turn: 8; 9, 3, 4; 4 for any of the four buffers that C adds

-- those buffers
pub record Buffers : Type 0 where
  pub iv : List ℕ
  pub turn : List ℕ
  pub done : List ℕ
  pub tag : List ℕ

abbrev pub rooms : Buffers → ℕ
rooms f = room 16 f.iv (room 8 f.turn (room 1 f.done (room 16 f.tag 0)))

unfoldable pub turned_answer : (scheduler piece out : List ℕ) → Buffers → ℕ
turned_answer b p out f = next (answer (turn_outcome b p out)) (rooms f)

-- the ciphertext, as the call below writes it
unfoldable pub turned_out : (scheduler piece out : List ℕ) → Buffers → List ℕ
turned_out b p out f = granted (turned_answer b p out f) (turn_writes b p out) out

-- the IV of the stay that was served, if any
unfoldable pub turned_iv : (scheduler piece out : List ℕ) → Buffers → List ℕ
turned_iv b p out f =
    pick (eqb (numbered (turn_outcome b p out)) 0) f.iv (buffer_after (turned_answer b p out f) 16 (whom (turn_outcome b p out)) f.iv)

-- the number of the turn, 0 where it is not numbered
unfoldable pub turned_turn : (scheduler piece out : List ℕ) → Buffers → List ℕ
turned_turn b p out f = buffer_after (turned_answer b p out f) 8 (little 8 (numbered (turn_outcome b p out))) f.turn

-- whether the stay has finished and left, and its tag then
unfoldable pub turned_done : (scheduler piece out : List ℕ) → Buffers → List ℕ
turned_done b p out f = buffer_after (turned_answer b p out f) 1 (flag (finished (turn_outcome b p out)) ∷ []) f.done

unfoldable pub turned_tag : (scheduler piece out : List ℕ) → Buffers → List ℕ
turned_tag b p out f =
    pick (finished (turn_outcome b p out)) (buffer_after (turned_answer b p out f) 16 (tag (turn_outcome b p out)) f.tag) f.tag

-- the scheduler, changed where somebody was served
abbrev pub TurnedLeaves : (scheduler piece out : List ℕ) → Buffers → (after : List ℕ) → Type 0
TurnedLeaves b p out f after =
    Leaves (eqb (turned_answer b p out f) 0 && is_served (turn_outcome b p out)) (turn_call scheduler_order (scheduler_in b) p out).scheduler b after
