-- What a turn writes, and what it says of itself, after every list of calls (document 02, S-10) and for any order among equal marks. What the written bytes are is said in ByItself.antt.
-- proofs/Writes.antt proves it.
use Rattle.std.specs.Prelude.{ℕ, suc, List, ◌++◌, ◌≡◌, length, drop}
use Rattle.scheduler.specs.Scheduler.{Order}
use Rattle.scheduler.specs.Calls.{Service, Outcome, Outcome.idle, Outcome.refused, Outcome.served, turn_call}
use Rattle.claims.specs.Lists.{Bytes}
use Rattle.claims_scheduler.specs.Lists.{Call, after}

-- what stands in the lent output then: of a numbered turn the ciphertext at its front, and behind as many bytes as the piece has, what stood there; otherwise all that stood there
abbrev pub output : Outcome → (piece out : List ℕ) → List ℕ
output idle p out = out
output (refused n) p out = out
output (served v) p out = v.written ++ drop (length p) out

-- what a numbered turn says, which was handed this piece when so many turns were done
pub record Says (turns : ℕ) (piece : List ℕ) (v : Service) : Type 0 where
  pub number : v.turn ≡ suc turns
  -- the piece that it was handed, and a byte written for each of its bytes
  pub same_piece : v.piece ≡ piece
  pub as_long : length v.written ≡ length piece

pub record Writes (o : Order) : Type 0 where
  pub writes : (cs : List Call) (piece out : Bytes)
      → let g = turn_call o (after o cs).scheduler piece.list out.list in
      g.out ≡ output g.outcome piece.list out.list
  pub says : (cs : List Call) (piece out : Bytes) (v : Service)
      → (turn_call o (after o cs).scheduler piece.list out.list).outcome ≡ served v → Says (after o cs).scheduler.turns piece.list v
