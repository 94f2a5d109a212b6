-- A scheduler in 8,208 lent bytes, and its calls on them (document 02, S-10, leaves the form open): a head of 16 bytes and 32 places of 256. Numbers are low byte first.
--   0-7    turns done
--   8-15   how many stays are there: as many places are in use, from the first on, in joining order
--   of each place 0-239 the session, as C's sessions have it; 240-247 the bytes left to seal; 248-255 the mark
-- A place that is not in use is zero, so that a scheduler has one form in bytes. Bytes that nobody here wrote list a scheduler too: as many stays as bytes 8-15 say, and 32 where
-- they say more.
use Rattle.std.specs.Prelude.{ℕ, zero, suc, ◌+◌, ◌-◌, ◌*◌, min, ◌≡◌, List, [], ◌∷◌, ◌++◌, Bool, true, false, not, ◌&&◌, eqb, length, drop, take, replicate}
use Rattle.scope.specs.Limits.{most_stays}
use Rattle.scope.specs.Refusals.{pick, refuse, bad_block}
use Rattle.words.specs.Bytes.{little, number, part, zeros}
use Rattle.bytes_c.specs.Order.{room, buffer_after}
use Rattle.scheduler.specs.Scheduler.{Stay, Scheduler, none, iv_of, scheduler_order, next, due}
use Rattle.scheduler.specs.Calls.{join_number, join_call, turn_call, Outcome, Outcome.idle, Outcome.refused, Outcome.served}

abbrev pub scheduler_length : ℕ
scheduler_length = 8208

-- ---- a scheduler as bytes

unfoldable pub stay_bytes : Stay → List ℕ
stay_bytes x = x.session ++ little 8 x.left ++ little 8 x.mark

-- places one behind the other
unfoldable pub places : List Stay → List ℕ
places [] = []
places (x ∷ l) = stay_bytes x ++ places l

-- the head, and the places in use
unfoldable pub head : (turns stays : ℕ) → List ℕ
head t n = little 8 t ++ little 8 n

unfoldable pub in_use : Scheduler → List ℕ
in_use s = head s.turns (length s.stays) ++ places s.stays

unfoldable pub scheduler_bytes : Scheduler → List ℕ
scheduler_bytes s = in_use s ++ replicate (scheduler_length - length (in_use s)) 0

-- ---- the scheduler that bytes list, whatever they are

unfoldable pub stay_in : List ℕ → Stay
stay_in b = record { session = part 0 240 b; left = number (part 240 8 b); mark = number (part 248 8 b) }

unfoldable pub stays_in : (n : ℕ) → List ℕ → List Stay
stays_in zero b = []
stays_in (suc n) b = stay_in (take 256 b) ∷ stays_in n (drop 256 b)

unfoldable pub how_many : (scheduler : List ℕ) → ℕ
how_many b = min most_stays (number (part 8 8 b))

unfoldable pub scheduler_in : List ℕ → Scheduler
scheduler_in b = record { turns = number (part 0 8 b); stays = stays_in (how_many b) (drop 16 b) }

-- ---- what a call leaves

-- zeros for the first k bytes
unfoldable pub zeroed : (k : ℕ) → List ℕ → List ℕ
zeroed k b = replicate k 0 ++ drop k b

-- the head and the places in use before, zero; what stands behind them stays
abbrev pub cleared : List ℕ → List ℕ
cleared b = zeroed (16 + 256 * how_many b) b

-- the scheduler g over it
unfoldable pub over : Scheduler → List ℕ → List ℕ
over g b = in_use g ++ drop (length (in_use g)) (cleared b)

-- what a call leaves that gives the scheduler g, where it changes anything: its bytes, and the scheduler that they then list
pub record Leaves (changes : Bool) (g : Scheduler) (before after : List ℕ) : Type 0 where
  pub bytes : after ≡ pick changes (over g before) before
  pub lists : scheduler_in after ≡ pick changes g (scheduler_in before)

-- ---- 8, first of all: bytes of another length

abbrev pub is_scheduler : List ℕ → Bool
is_scheduler b = eqb (length b) scheduler_length

abbrev pub whole : List ℕ → ℕ → ℕ
whole b later = refuse (not (is_scheduler b)) bad_block later

-- ---- an empty scheduler: 4

unfoldable pub empty_answer : (scheduler : List ℕ) → ℕ
empty_answer b = room scheduler_length b 0

unfoldable pub empty_writes : (scheduler : List ℕ) → List ℕ
empty_writes b = buffer_after (empty_answer b) scheduler_length (replicate scheduler_length 0) b

-- ---- join: 8, 1, 2, 3, 19, 16

unfoldable pub join_answer : (scheduler key iv : List ℕ) → (text : ℕ) → ℕ
join_answer b key iv n = whole b (join_number (scheduler_in b) key iv n)

abbrev pub JoinLeaves : (scheduler key iv : List ℕ) → (text : ℕ) → (after : List ℕ) → Type 0
JoinLeaves b key iv n after = Leaves (eqb (join_answer b key iv n) 0) (join_call (scheduler_in b) key iv n) b after

-- ---- next: 8. Whether anybody is there, whose turn it is, and how long the piece has to be; zeros where nobody is

unfoldable pub next_answer : (scheduler : List ℕ) → ℕ
next_answer b = whole b 0

unfoldable pub next_found : (scheduler : List ℕ) → Bool
next_found b = is_scheduler b && not (none (scheduler_in b).stays)

unfoldable pub next_iv : (scheduler : List ℕ) → List ℕ
next_iv b = pick (next_found b) (iv_of (next scheduler_order (scheduler_in b))) zeros

unfoldable pub next_due : (scheduler : List ℕ) → ℕ
next_due b = pick (next_found b) (due (next scheduler_order (scheduler_in b))) 0

-- ---- turn: 8; then, where somebody is there, 9, 3, 4

unfoldable pub turn_outcome : (scheduler piece out : List ℕ) → Outcome
turn_outcome b p out = pick (is_scheduler b) (turn_call scheduler_order (scheduler_in b) p out).outcome (refused bad_block)

unfoldable pub turn_writes : (scheduler piece out : List ℕ) → List ℕ
turn_writes b p out = pick (is_scheduler b) (turn_call scheduler_order (scheduler_in b) p out).out out

-- only a numbered turn changes the scheduler
abbrev pub is_served : Outcome → Bool
is_served idle = false
is_served (refused n) = false
is_served (served v) = true

abbrev pub TurnLeaves : (scheduler piece out after : List ℕ) → Type 0
TurnLeaves b p out after = Leaves (is_served (turn_outcome b p out)) (turn_call scheduler_order (scheduler_in b) p out).scheduler b after
