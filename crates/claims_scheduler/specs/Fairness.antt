-- "every stay gets a turn within 32 numbered turns of joining and of each service that leaves it text to seal, while numbers last, however others join or leave" (document 02, S-10):
-- `soon`, about every whole list of calls. Beside it stands what gives it its meaning: who comes next, that the scheduler never stops while numbers last, and what a scheduler is that
-- calls lead to. `Fair` holds for any order among equal marks (proofs/Fairness.antt).
-- `Steady` and `Tight` can be said of any, and are proved for joining order, the scheduler's (proofs/Steady.antt, proofs/Tight.antt).
use Rattle.std.specs.Prelude.{ℕ, ◌+◌, ◌<◌, ◌≤◌, List, [], ◌∷◌, ◌++◌, true, false, ◌≡◌, ◌⊎◌, length}
use Rattle.scope.specs.Limits.{most_stays, most_text, most_turns}
use Rattle.scheduler.specs.Scheduler.{Stay, iv_of, present, Order, place, at, next, due}
use Rattle.scheduler.specs.Calls.{join_number, join_call, service, Service, Outcome.served, turn_call}
use Rattle.claims.specs.Lists.{Bytes}
use Rattle.claims_scheduler.specs.Lists.{Call, Call.join, Call.turn, Trail, after, service_at}

-- the call, made where a list has come to, is the joining of the stay iv, or a service of it that leaves it text to seal
pub data Counts (o : Order) (t : Trail) : (iv : List ℕ) → Call → Type 0 where
  joins : (key iv : Bytes) (text : ℕ) → join_number t.scheduler key.list iv.list text ≡ 0 → Counts o t iv.list (join key iv text)
  serves : (piece out : Bytes) (v : Service) → (turn_call o t.scheduler piece.list out.list).outcome ≡ served v → 0 < v.left
      → Counts o t v.iv (turn piece out)

-- Of the 32 turns numbered from + 1 to from + 32, one served the stay iv; or it is there and not all of them are done.
-- A number may come back, but not as another stay here: as long as none of these turns has served it, the stay is there (it leaves only by a service), and no other of its number can
-- have joined, as numbers there differ (`distinct`; a joiner's that is there gives 16). So the first service of the number is that stay's, and where there is none yet it is that stay
-- that is there.
pub data Soon (from : ℕ) (iv : List ℕ) (t : Trail) : Type 0 where
  had : (k : ℕ) → from < k → k ≤ from + most_stays → k ≤ t.scheduler.turns → (service_at t.log k).iv ≡ iv → Soon from iv t
  waits : present iv t.scheduler.stays ≡ true → t.scheduler.turns < from + most_stays → Soon from iv t

-- the stay at place i comes before the stay at place j: lower mark; equal marks, lower rank; equal both, joined before
abbrev pub Before : Order → List Stay → ℕ → ℕ → Type 0
Before o l i j =
    ((at l i).mark < (at l j).mark)
    ⊎ (((at l i).mark ≡ (at l j).mark) × ((o (at l i) < o (at l j)) ⊎ ((o (at l i) ≡ o (at l j)) × (i < j))))

-- what every scheduler is that calls lead to
pub record Orderly (t : Trail) : Type 0 where
  pub few : length t.scheduler.stays ≤ most_stays
  -- the log has what each numbered turn did, under its number
  pub logged_all : length t.log ≡ t.scheduler.turns
  pub numbered : (k : ℕ) → 0 < k → k ≤ t.scheduler.turns → (service_at t.log k).turn ≡ k
  pub numbers_last : t.scheduler.turns ≤ most_turns
  -- no number stands at two places
  pub distinct : (i j : ℕ) → i < j → j < length t.scheduler.stays → ¬ (iv_of (at t.scheduler.stays i) ≡ iv_of (at t.scheduler.stays j))
  -- each has text to seal, and a mark of a turn done; and none has waited for 32
  pub each_left : (i : ℕ) → i < length t.scheduler.stays → (0 < (at t.scheduler.stays i).left) × ((at t.scheduler.stays i).left ≤ most_text)
  pub each_mark : (i : ℕ) → i < length t.scheduler.stays
      → ((at t.scheduler.stays i).mark ≤ t.scheduler.turns) × (t.scheduler.turns < (at t.scheduler.stays i).mark + most_stays)

pub record Fair (o : Order) : Type 0 where
  -- The whole list is cs, then the joining or the service c, then any ds.
  pub soon : (cs : List Call) (c : Call) (ds : List Call) (iv : List ℕ) → Counts o (after o cs) iv c
      → Soon (after o (cs ++ (c ∷ []))).scheduler.turns iv (after o (cs ++ (c ∷ ds)))
  -- The same where 32 numbered turns followed: one of the first 32 served it.
  pub within : (cs : List Call) (c : Call) (ds : List Call) (iv : List ℕ) → Counts o (after o cs) iv c
      → (after o (cs ++ (c ∷ []))).scheduler.turns + most_stays ≤ (after o (cs ++ (c ∷ ds))).scheduler.turns
      → (k : ℕ) × ((after o (cs ++ (c ∷ []))).scheduler.turns < k) × (k ≤ (after o (cs ++ (c ∷ []))).scheduler.turns + most_stays)
      × ((service_at (after o (cs ++ (c ∷ ds))).log k).iv ≡ iv)
  -- While numbers last a scheduler with somebody there has a turn to give: a piece as long as the one due, with room for it, is taken, and the next is served.
  pub goes_on : (cs : List Call) (piece out : Bytes) → 0 < length (after o cs).scheduler.stays → (after o cs).scheduler.turns < most_turns
      → length piece.list ≡ due (next o (after o cs).scheduler) → length piece.list ≤ length out.list
      → (turn_call o (after o cs).scheduler piece.list out.list).outcome ≡ served (service o (after o cs).scheduler piece.list out.list)
  -- "a finished stay leaves": a numbered turn that leaves the stay nothing to seal takes its number away, and one that leaves it text does not.
  pub leaves : (cs : List Call) (piece out : Bytes) (v : Service)
      → (turn_call o (after o cs).scheduler piece.list out.list).outcome ≡ served v → v.left ≡ 0
      → present v.iv (turn_call o (after o cs).scheduler piece.list out.list).scheduler.stays ≡ false
  pub stays_there : (cs : List Call) (piece out : Bytes) (v : Service)
      → (turn_call o (after o cs).scheduler piece.list out.list).outcome ≡ served v → 0 < v.left
      → present v.iv (turn_call o (after o cs).scheduler piece.list out.list).scheduler.stays ≡ true
  -- Who comes next, whoever is there: one of them, and it comes before every other.
  pub is_there : (l : List Stay) → 0 < length l → place o l < length l
  pub least : (l : List Stay) (j : ℕ) → j < length l → ¬ (j ≡ place o l) → Before o l (place o l) j
  pub orderly : (cs : List Call) → Orderly (after o cs)

-- A joiner does not change who is next, while somebody is there: so it is under joining order.
pub record Steady (o : Order) : Type 0 where
  pub next_stays : (cs : List Call) (key iv : Bytes) (text : ℕ) → 0 < length (after o cs).scheduler.stays
      → next o (join_call (after o cs).scheduler key.list iv.list text) ≡ next o (after o cs).scheduler

-- 32 cannot be less: under joining order a stay that joined last of 32 is not served by the 31 turns that follow.
pub record Tight (o : Order) : Type 0 where
  -- the joining c of the stay iv behind cs, and ds with 31 numbered turns, none of which serves it
  pub cs : List Call
  pub c : Call
  pub ds : List Call
  pub iv : List ℕ
  pub joins : Counts o (after o cs) iv c
  pub turns : (after o (cs ++ (c ∷ ds))).scheduler.turns ≡ (after o (cs ++ (c ∷ []))).scheduler.turns + 31
  pub none_served : (k : ℕ) → (after o (cs ++ (c ∷ []))).scheduler.turns < k → k ≤ (after o (cs ++ (c ∷ []))).scheduler.turns + 31
      → ¬ ((service_at (after o (cs ++ (c ∷ ds))).log k).iv ≡ iv)
