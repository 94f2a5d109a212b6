-- The same lists of calls on a scheduler in lent bytes (crates/scheduler/specs/Bytes.antt), as the contracts of `scheduler` say them, one after the other, from the call on that makes
-- an empty one of any 8,208 bytes: what stands in them is always the scheduler's one form, whatever stood there before. proofs/OnBytes.antt proves it.
use Rattle.std.specs.Prelude.{ℕ, ◌<◌, List, [], ◌∷◌, ◌≡◌, not, eqb, length}
use Rattle.scope.specs.Refusals.{pick}
use Rattle.scheduler.specs.Scheduler.{none, iv_of, scheduler_order, next, due}
use Rattle.scheduler.specs.Calls.{join_number, join_call, turn_call}
use Rattle.scheduler.specs.Bytes.{scheduler_length, scheduler_bytes, scheduler_in, over, empty_writes, join_answer, next_answer, next_found, next_iv, next_due, turn_outcome, is_served, turn_writes}
use Rattle.claims.specs.Lists.{Bytes}
use Rattle.claims_scheduler.specs.Lists.{Call, Call.join, Call.turn, after}

-- one call more, on the bytes
unfoldable pub call_on : (scheduler : List ℕ) → Call → List ℕ
call_on b (join key iv n) = pick (eqb (join_answer b key.list iv.list n) 0) (over (join_call (scheduler_in b) key.list iv.list n) b) b
call_on b (turn p out) =
    pick (is_served (turn_outcome b p.list out.list)) (over (turn_call scheduler_order (scheduler_in b) p.list out.list).scheduler b) b

unfoldable pub calls_on : (scheduler : List ℕ) → List Call → List ℕ
calls_on b [] = b
calls_on b (c ∷ cs) = calls_on (call_on b c) cs

-- the whole list, from the call that makes an empty scheduler of the lent bytes
abbrev pub bytes_after : (scheduler : List ℕ) → List Call → List ℕ
bytes_after b cs = calls_on (empty_writes b) cs

pub record OnBytes : Type 0 where
  -- After every list the bytes are those of the scheduler that the list has come to: the same scheduler always has the same bytes,
  pub bytes : (b : List ℕ) → length b ≡ scheduler_length → (cs : List Call) → bytes_after b cs ≡ scheduler_bytes (after scheduler_order cs).scheduler
  -- and they list it. So every call on the bytes is the call on the scheduler:
  pub lists : (b : List ℕ) → length b ≡ scheduler_length → (cs : List Call) → scheduler_in (bytes_after b cs) ≡ (after scheduler_order cs).scheduler
  pub join_answers : (b : List ℕ) → length b ≡ scheduler_length → (cs : List Call) (key iv : Bytes) (text : ℕ)
      → join_answer (bytes_after b cs) key.list iv.list text ≡ join_number (after scheduler_order cs).scheduler key.list iv.list text
  -- asking who is next says who that is, and how long its piece has to be, where somebody is there;
  pub next_answers : (b : List ℕ) → length b ≡ scheduler_length → (cs : List Call) → next_answer (bytes_after b cs) ≡ 0
  pub next_there : (b : List ℕ) → length b ≡ scheduler_length → (cs : List Call)
      → next_found (bytes_after b cs) ≡ not (none (after scheduler_order cs).scheduler.stays)
  pub next_number : (b : List ℕ) → length b ≡ scheduler_length → (cs : List Call) → 0 < length (after scheduler_order cs).scheduler.stays
      → next_iv (bytes_after b cs) ≡ iv_of (next scheduler_order (after scheduler_order cs).scheduler)
  pub next_piece : (b : List ℕ) → length b ≡ scheduler_length → (cs : List Call) → 0 < length (after scheduler_order cs).scheduler.stays
      → next_due (bytes_after b cs) ≡ due (next scheduler_order (after scheduler_order cs).scheduler)
  -- and a turn is the scheduler's.
  pub turn_outcomes : (b : List ℕ) → length b ≡ scheduler_length → (cs : List Call) (piece out : Bytes)
      → turn_outcome (bytes_after b cs) piece.list out.list
      ≡ (turn_call scheduler_order (after scheduler_order cs).scheduler piece.list out.list).outcome
  pub turn_output : (b : List ℕ) → length b ≡ scheduler_length → (cs : List Call) (piece out : Bytes)
      → turn_writes (bytes_after b cs) piece.list out.list
      ≡ (turn_call scheduler_order (after scheduler_order cs).scheduler piece.list out.list).out
