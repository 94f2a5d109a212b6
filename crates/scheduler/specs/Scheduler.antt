-- The scheduler (document 02, S-10, whose word for it is desk): the stays that are sealed in turns, and who of them comes next. A stay number is an IV. What a stay keeps of
-- its sealing is a session, in the 240 bytes that a session has for C (crates/bytes_c/specs/SessionBytes.antt).
use Rattle.std.specs.Prelude.{ℕ, suc, min, List, [], ◌∷◌, Bool, true, false, ◌&&◌, ◌||◌, eqb, ltb, get_or}
use Rattle.scope.specs.Limits.{most_piece}
use Rattle.scope.specs.Refusals.{pick}
use Rattle.words.specs.Bytes.{same}
use Rattle.session.specs.Session.{Session}
use Rattle.bytes_c.specs.SessionBytes.{session_in}

-- ---- who is there

pub record Stay : Type 0 where
  -- its session's bytes
  pub session : List ℕ
  -- how many bytes of its text are not sealed yet
  pub left : ℕ
  -- "the .. turn of its last service, or, if not yet served, the number of turns done when it joined"
  pub mark : ℕ

pub record Scheduler : Type 0 where
  -- numbered turns done
  pub turns : ℕ
  -- in joining order
  pub stays : List Stay

abbrev pub empty : Scheduler
empty = record { turns = 0; stays = [] }

abbrev pub none : List Stay → Bool
none [] = true
none (x ∷ l) = false

-- the session of a stay, and its number
abbrev pub session_for : Stay → Session
session_for x = session_in x.session

abbrev pub iv_of : Stay → List ℕ
iv_of x = (session_for x).iv

-- a number is there
unfoldable pub present : (iv : List ℕ) → List Stay → Bool
present iv [] = false
present iv (x ∷ l) = same (iv_of x) iv || present iv l

-- ---- who comes next

-- What decides among equal marks before joining order does: the lower rank. Everything below, and what is claimed of the scheduler, is said for every such order.
abbrev pub Order : Type 0
Order = Stay → ℕ

-- "equal ones go by joining order": all rank alike
abbrev pub joining_order : Order
joining_order x = 0

-- the scheduler's
abbrev pub scheduler_order : Order
scheduler_order = joining_order

-- x comes before y whatever their places: by the lower mark, at equal marks by the lower rank
unfoldable pub goes_before : Order → Stay → Stay → Bool
goes_before o x y = ltb x.mark y.mark || (eqb x.mark y.mark && ltb (o x) (o y))

-- some stay of a list comes before x
unfoldable pub overtaken : Order → Stay → List Stay → Bool
overtaken o x [] = false
overtaken o x (y ∷ l) = goes_before o y x || overtaken o x l

-- "Next comes the stay with the lowest turn ..; equal ones go by joining order": the place, from 0 on, of the first that no later joiner comes before. It comes before every
-- other: `least` of crates/claims_scheduler/specs/Fairness.antt
unfoldable pub place : Order → List Stay → ℕ
place o [] = 0
place o (x ∷ l) = pick (overtaken o x l) (suc (place o l)) 0

-- what stands for a stay where there is none
abbrev pub nobody : Stay
nobody = record { session = []; left = 0; mark = 0 }

abbrev pub at : List Stay → ℕ → Stay
at l i = get_or l i nobody

abbrev pub next : Order → Scheduler → Stay
next o s = at s.stays (place o s.stays)

-- how long its piece is: "that stay's next 4,096 bytes, or its rest if less"
abbrev pub due : Stay → ℕ
due x = min most_piece x.left
