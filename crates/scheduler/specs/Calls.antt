-- Joining and a turn (document 02, S-10): for each its number, 0 or that of the refusal in the call's order, and the scheduler afterwards; a refused call leaves it as it was.
-- What a stay's session makes of its piece is what the session's own calls say (crates/session/specs/Calls.antt). Keys, IVs, pieces and outputs are lists of bytes.
use Rattle.std.specs.Prelude.{ℕ, suc, ◌-◌, List, [], ◌∷◌, ◌++◌, Bool, false, not, ◌||◌, eqb, ltb, leb, length, take, drop}
use Rattle.scope.specs.Limits.{most_text, most_stays, most_turns}
use Rattle.scope.specs.Refusals.{pick, refuse, granted, key_length, iv_length, too_long, count_too_high, number_taken, scheduler_full}
use Rattle.words.specs.Bytes.{zeros}
use Rattle.session.specs.Calls.{Given, begin_call, text_call, finish_call}
use Rattle.bytes_c.specs.SessionBytes.{session_bytes}
use Rattle.scheduler.specs.Scheduler.{Stay, Scheduler, none, session_for, iv_of, present, Order, place, next, due}

-- ---- joining: "19, tested after 1, 2 and 3, and then a number already at the desk 16"

unfoldable pub join_number : Scheduler → (key iv : List ℕ) → (text : ℕ) → ℕ
join_number s key iv n =
    refuse (not (eqb (length key) 32)) key_length
    (refuse (not (eqb (length iv) 16)) iv_length
    -- "1 to 1,048,576 bytes to seal, else 3"
    (refuse (eqb n 0 || ltb most_text n) too_long
    (refuse (leb most_stays (length s.stays)) scheduler_full (refuse (present iv s.stays) number_taken 0))))

-- "each joining with no data"; its mark is the number of turns done
abbrev pub newcomer : Scheduler → (key iv : List ℕ) → (text : ℕ) → Stay
newcomer s key iv n = record { session = session_bytes (begin_call key iv).session; left = n; mark = s.turns }

-- it stands last
unfoldable pub join_call : Scheduler → (key iv : List ℕ) → (text : ℕ) → Scheduler
join_call s key iv n = granted (join_number s key iv n) (record { turns = s.turns; stays = s.stays ++ (newcomer s key iv n ∷ []) }) s

-- ---- a turn where somebody is there: 9, 3, 4

-- what a stay's session makes of a piece
abbrev pub sealing : Stay → (piece out : List ℕ) → Given
sealing x p out = text_call (session_for x) p out

-- 9 "before 3"; "A piece of another length gives 3, then a short output 4": after 9 and 3 it is the session that answers, and 4 is all that it refuses of a stay that joined
-- (`answers` of crates/claims_scheduler/specs/ByItself.antt)
unfoldable pub turn_number : Order → Scheduler → (piece out : List ℕ) → ℕ
turn_number o s p out =
    refuse (leb most_turns s.turns) count_too_high
    (refuse (not (eqb (length p) (due (next o s)))) too_long (sealing (next o s) p out).number)

-- what it has left to seal then
abbrev pub rest : Stay → ℕ
rest x = x.left - due x

-- the stay after its service in turn t
abbrev pub after_service : (t : ℕ) → Stay → (piece out : List ℕ) → Stay
after_service t x p out = record { session = session_bytes (sealing x p out).session; left = rest x; mark = t }

-- what is there of it: "a finished stay leaves"
unfoldable pub remaining : (t : ℕ) → Stay → (piece out : List ℕ) → List Stay
remaining t x p out = pick (eqb (rest x) 0) [] (after_service t x p out ∷ [])

-- the stays with others in the place of one; the rest keep their order
unfoldable pub put : List Stay → ℕ → List Stay → List Stay
put l i new = take i l ++ (new ++ drop (suc i) l)

-- turns are numbered from 1 on
unfoldable pub after_turn : Order → Scheduler → (piece out : List ℕ) → Scheduler
after_turn o s p out =
    record { turns = suc s.turns; stays = put s.stays (place o s.stays) (remaining (suc s.turns) (next o s) p out) }

-- what a numbered turn does, and says
pub record Service : Type 0 where
  -- its number
  pub turn : ℕ
  -- whom it served
  pub iv : List ℕ
  -- the piece, and the ciphertext written for it
  pub piece : List ℕ
  pub written : List ℕ
  -- what the stay has left to seal, and, where that is nothing, the tag with which it leaves; else zeros
  pub left : ℕ
  pub tag : List ℕ

abbrev pub service : Order → Scheduler → (piece out : List ℕ) → Service
service o s p out =
    record {
      turn = suc s.turns;
      iv = iv_of (next o s);
      piece = p;
      written = take (length p) (sealing (next o s) p out).out;
      left = rest (next o s);
      tag = pick (eqb (rest (next o s)) 0) (finish_call (sealing (next o s) p out).session).tag zeros;
    }

-- ---- a turn

pub data Outcome : Type 0 where
  -- "one at an empty desk does nothing and is not numbered"
  idle : Outcome
  -- "such a turn is not numbered"
  refused : ℕ → Outcome
  served : Service → Outcome

-- with what stands in the lent output afterwards
pub record TurnEnd : Type 0 where
  pub outcome : Outcome
  pub out : List ℕ
  pub scheduler : Scheduler

unfoldable pub turn_call : Order → Scheduler → (piece out : List ℕ) → TurnEnd
turn_call o s p out =
    pick (none s.stays)
    (record { outcome = idle; out = out; scheduler = s })
    (granted (turn_number o s p out)
    (record { outcome = served (service o s p out); out = (sealing (next o s) p out).out; scheduler = after_turn o s p out })
    (record { outcome = refused (turn_number o s p out); out = out; scheduler = s }))

-- ---- what an outcome says

abbrev pub answer : Outcome → ℕ
answer idle = 0
answer (refused n) = n
answer (served v) = 0

-- the number of the turn; 0 where it is not numbered
abbrev pub numbered : Outcome → ℕ
numbered idle = 0
numbered (refused n) = 0
numbered (served v) = v.turn

-- the stay that was served
abbrev pub whom : Outcome → List ℕ
whom idle = zeros
whom (refused n) = zeros
whom (served v) = v.iv

-- whether it has finished, and its tag then
abbrev pub finished : Outcome → Bool
finished idle = false
finished (refused n) = false
finished (served v) = eqb v.left 0

abbrev pub tag : Outcome → List ℕ
tag idle = zeros
tag (refused n) = zeros
tag (served v) = v.tag
