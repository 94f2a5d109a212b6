-- The lists of the scheduler's calls (crates/claims_scheduler/specs/Lists.antt) as C makes them, on a scheduler in 8,208 lent bytes: what the contracts of the calls for C say, one call
-- after the other (crates/scheduler/specs/Bytes.antt; crates/scheduler_c/specs/Calls.antt for who is next and a turn). And that through C nothing is otherwise: what is claimed of lists
-- of the scheduler's calls (`Fair`, `Writes`, `ByItself`, `PlacesApart`, `OnBytes` of crates/claims_scheduler) is claimed of C's. proofs/ScheduleThroughC.antt proves it.
use Rattle.std.specs.Prelude.{ℕ, ◌≤◌, ◌≡◌, List, [], ◌∷◌, ◌++◌, not, ◌&&◌, eqb, length, drop}
use Rattle.scope.specs.Refusals.{pick, granted, short_output}
use Rattle.words.specs.Bytes.{little}
use Rattle.claims.specs.Lists.{Bytes}
use Rattle.bytes_c.specs.Order.{next}
use Rattle.scheduler.specs.Scheduler as Schedulers
use Rattle.scheduler.specs.Scheduler.{Scheduler, none, iv_of, scheduler_order, due}
use Rattle.scheduler.specs.Calls.{join_number, join_call, Outcome, Outcome.idle, Outcome.refused, Outcome.served, TurnEnd, turn_call, answer}
use Rattle.scheduler.specs.Bytes.{scheduler_length, scheduler_bytes, scheduler_in, over, empty_writes, join_answer, turn_outcome, is_served}
use Rattle.scheduler_c.specs.Calls.{flag, asked_answer, asked_found, asked_iv, asked_due, Buffers, rooms, turned_answer, turned_out, turned_iv, turned_turn, turned_done, turned_tag}
use Rattle.claims_scheduler.specs.Lists as Lists
use Rattle.claims_scheduler.specs.Lists.{Call, after}

-- ---- the lists

-- a call, and all that it is handed beside the scheduler: a turn, the four buffers that C adds too. Refused ones stand in a list as well.
pub data CTurnCall : Type 0 where
  join : (key iv : Bytes) (text : ℕ) → CTurnCall
  turn : (piece out : Bytes) (buffers : Buffers) → CTurnCall

-- one call more: the bytes of the scheduler afterwards, as `JoinLeaves` and `TurnedLeaves` say
unfoldable pub c_schedule_call : (scheduler : List ℕ) → CTurnCall → List ℕ
c_schedule_call b (join key iv n) =
    pick (eqb (join_answer b key.list iv.list n) 0) (over (join_call (scheduler_in b) key.list iv.list n) b) b
c_schedule_call b (turn p out f) =
    pick (eqb (turned_answer b p.list out.list f) 0 && is_served (turn_outcome b p.list out.list))
    (over (turn_call scheduler_order (scheduler_in b) p.list out.list).scheduler b) b

unfoldable pub c_schedule_calls : (scheduler : List ℕ) → List CTurnCall → List ℕ
c_schedule_calls b [] = b
c_schedule_calls b (c ∷ cs) = c_schedule_calls (c_schedule_call b c) cs

-- the whole list, from the call that makes an empty scheduler of the lent bytes
abbrev pub c_schedule : (scheduler : List ℕ) → List CTurnCall → List ℕ
c_schedule b cs = c_schedule_calls (empty_writes b) cs

-- the same list below, where no turn is refused for the buffers that C adds: one whose buffers lack room is left out
unfoldable pub schedule_below : List CTurnCall → List Call
schedule_below [] = []
schedule_below (join key iv n ∷ cs) = Lists.Call.join key iv n ∷ schedule_below cs
schedule_below (turn p out f ∷ cs) = granted (rooms f) (Lists.Call.turn p out ∷ schedule_below cs) (schedule_below cs)

-- the scheduler that it has come to
abbrev pub scheduler_below : List CTurnCall → Scheduler
scheduler_below cs = (after scheduler_order (schedule_below cs)).scheduler

-- ---- what C is told

-- the three buffers of `next` have room
pub record NextRoom (found iv due : List ℕ) : Type 0 where
  pub for_found : 1 ≤ length found
  pub for_iv : 16 ≤ length iv
  pub for_due : 8 ≤ length due

-- who is next of the scheduler s, whose bytes are b: with room, whether anybody is there, and then the IV and the length of the piece; without, 4, and all as it was
pub record AsksThroughC (b : List ℕ) (s : Scheduler) (found iv piece : List ℕ) : Type 0 where
  pub answered : NextRoom found iv piece → asked_answer b found iv piece ≡ 0
  pub told_found : NextRoom found iv piece → asked_found b found iv piece ≡ flag (not (none s.stays)) ∷ drop 1 found
  pub told_iv : NextRoom found iv piece → asked_iv b found iv piece ≡ pick (none s.stays) iv (iv_of (Schedulers.next scheduler_order s) ++ drop 16 iv)
  pub told_due : NextRoom found iv piece
      → asked_due b found iv piece ≡ pick (none s.stays) piece (little 8 (due (Schedulers.next scheduler_order s)) ++ drop 8 piece)
  pub no_room : ¬ NextRoom found iv piece
      → (asked_answer b found iv piece ≡ short_output)
      × (asked_found b found iv piece ≡ found) × (asked_iv b found iv piece ≡ iv) × (asked_due b found iv piece ≡ piece)

-- the four buffers that C adds to a turn have room
pub record TurnRoom (f : Buffers) : Type 0 where
  pub for_iv : 16 ≤ length f.iv
  pub for_turn : 8 ≤ length f.turn
  pub for_done : 1 ≤ length f.done
  pub for_tag : 16 ≤ length f.tag

-- what stands in them then, by the outcome: the number of the turn, 0 where nobody is there; whom it served; whether that stay has finished, and its tag if so. A refusal changes none.
abbrev pub told : Outcome → Buffers → Buffers
told idle f = record { iv = f.iv; turn = little 8 0 ++ drop 8 f.turn; done = 0 ∷ drop 1 f.done; tag = f.tag }
told (refused n) f = f
told (served v) f =
    record {
      iv = v.iv ++ drop 16 f.iv;
      turn = little 8 v.turn ++ drop 8 f.turn;
      done = flag (eqb v.left 0) ∷ drop 1 f.done;
      tag = pick (eqb v.left 0) (v.tag ++ drop 16 f.tag) f.tag;
    }

-- A turn through C on the bytes b answers n, and leaves these bytes in its output and in the four buffers.
pub record TurnTells (b p out : List ℕ) (f : Buffers) (n : ℕ) (out' : List ℕ) (f' : Buffers) : Type 0 where
  pub answered : turned_answer b p out f ≡ n
  pub output : turned_out b p out f ≡ out'
  pub told_iv : turned_iv b p out f ≡ f'.iv
  pub told_turn : turned_turn b p out f ≡ f'.turn
  pub told_done : turned_done b p out f ≡ f'.done
  pub told_tag : turned_tag b p out f ≡ f'.tag

-- It answers, and tells, what the turn g below does; where a buffer lacks room, the refusal of the turn below or else 4, and all as it was.
pub record TurnsThroughC (b p out : List ℕ) (f : Buffers) (g : TurnEnd) : Type 0 where
  pub with_room : TurnRoom f → TurnTells b p out f (answer g.outcome) g.out (told g.outcome f)
  pub no_room : ¬ TurnRoom f → TurnTells b p out f (next (answer g.outcome) short_output) out f

-- ---- through C

pub record ScheduleThroughC : Type 0 where
  -- S-10: through C every list of calls leaves the bytes of the scheduler that the same list leaves below, whatever stood in them before, and they list it.
  pub bytes : (scheduler : List ℕ) → length scheduler ≡ scheduler_length → (cs : List CTurnCall) → c_schedule scheduler cs ≡ scheduler_bytes (scheduler_below cs)
  pub lists : (scheduler : List ℕ) → length scheduler ≡ scheduler_length → (cs : List CTurnCall) → scheduler_in (c_schedule scheduler cs) ≡ scheduler_below cs
  -- A list in two parts is so below, so that what is claimed of a call and of those that follow it is claimed of C's.
  pub in_parts : (cs ds : List CTurnCall) → schedule_below (cs ++ ds) ≡ schedule_below cs ++ schedule_below ds
  -- After every list a joining answers what it does below, and so do who is next and a turn, which tell it in lent buffers.
  pub joins : (scheduler : List ℕ) → length scheduler ≡ scheduler_length → (cs : List CTurnCall) (key iv : Bytes) (text : ℕ)
      → join_answer (c_schedule scheduler cs) key.list iv.list text ≡ join_number (scheduler_below cs) key.list iv.list text
  pub asks : (scheduler : List ℕ) → length scheduler ≡ scheduler_length → (cs : List CTurnCall) (found iv piece : List ℕ)
      → AsksThroughC (c_schedule scheduler cs) (scheduler_below cs) found iv piece
  pub turns : (scheduler : List ℕ) → length scheduler ≡ scheduler_length → (cs : List CTurnCall) (p out : Bytes) (f : Buffers)
      → TurnsThroughC (c_schedule scheduler cs) p.list out.list f (turn_call scheduler_order (scheduler_below cs) p.list out.list)
