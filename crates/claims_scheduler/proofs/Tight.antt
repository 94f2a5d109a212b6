-- 32 cannot be less. 32 stays join with one byte each to seal, before any turn. All marks are 0 then, so that turns serve the stays in joining order, and each leaves with its one
-- service: after 31 turns the last of them has not been served.
use mathlib.Core.Path.{◌≡◌, refl, ap, ◌∙◌}
use mathlib.Core.List.Memᴰ
use mathlib.Core.List.{List, [], ◌∷◌, ◌++◌}
use mathlib.Core.Bool.{false}
use mathlib.Core.Logic.{⊎_elim}
use Prim.Native.Nat.{ℕ, zero, suc, ◌+◌, min, ◌≤◌, ◌<◌}
use native.Mathlib.Omega.{arith}
use borrow.Author.Tests.{eqb-true, eqb-false, lt-leb}
use lib.Dec.{eqb, lit<}
use lib.ListN.{length, get_or, replicate, length-append}
use Rattle.scope.specs.Limits.{most_stays, most_turns}
use Rattle.words.proofs.Rows.{zeros_row}
use Rattle.claims.specs.Lists.{Bytes}
use Rattle.scheduler.specs.Scheduler.{Stay, Scheduler, iv_of, joining_order, overtaken, place, next, due}
use Rattle.scheduler.specs.Calls.{join_number, newcomer, join_call, remaining, put, after_turn, Service, service}
use Rattle.scheduler.proofs.Order.{on_test}
use Rattle.claims_scheduler.specs.Lists.{Call, Call.join, Call.turn, Trail, call, calls, after, service_at}
use Rattle.claims_scheduler.specs.Fairness.{Counts.joins, Tight}
use Rattle.claims_scheduler.proofs.Sound.{Sound, sound_new, new_iv}
use Rattle.claims_scheduler.proofs.Lists.{Among, was_or_last}
use Rattle.claims_scheduler.proofs.Least.{comes_later}
use Rattle.claims_scheduler.proofs.Numbers.{lacking}
use Rattle.claims_scheduler.proofs.Fairness.{turn_taken}
use Rattle.claims_scheduler.proofs.Calls.{after_good, calls_append, logged_at}

-- ---- the calls

abbrev blank : ℕ → Bytes
blank n = record { list = replicate n 0; below = (zeros_row n 256 (lit< tt)).below }

who_below : (n i : ℕ) → get_or (min n 255 ∷ replicate 15 0) i 0 < 256
who_below n zero = omega arith
who_below n (suc i) = (zeros_row 15 256 (lit< tt)).below i

-- the number of the n-th stay, from 0 on; the first byte tells them apart
abbrev who : ℕ → Bytes
who n = record { list = min n 255 ∷ replicate 15 0; below = who_below n }

abbrev enter : ℕ → Call
enter n = join (blank 32) (who n) 1

crowd : ℕ → List Call
crowd zero = []
crowd (suc n) = crowd n ++ (enter n ∷ [])

turns : ℕ → List Call
turns zero = []
turns (suc n) = turn (blank 1) (blank 1) ∷ turns n

-- ---- the crowd

-- a stay that joined before any turn, with one byte, and before the n-th
record New (n : ℕ) (x : Stay) : Type 0 where
  mark : x.mark ≡ 0
  left : x.left ≡ 1
  number : get_or (iv_of x) 0 0 < n
  sound : Sound x

record Crowd (n : ℕ) (s : Scheduler) : Type 0 where
  none_done : s.turns ≡ 0
  long : length s.stays ≡ n
  new : (x : Stay) → Among x s.stays → New n x

module _ (n : ℕ) (s : Scheduler) (few : n < most_stays) (c : Crowd n s) where
  accepted : join_number s (blank 32).list (who n).list 1 ≡ 0
  unfolding join_number
  accepted = rw (lt-leb most_stays (length s.stays) (omega (arith, c.long)), lacking (who n).list s.stays others)
    where
      others : (x : Stay) → Among x s.stays → ¬ (iv_of x ≡ (who n).list)
      others x m e = omega (arith, (c.new x m).number, ap (λ (l : List ℕ). get_or l 0 0) e)

  grown : Crowd (suc n) (join_call s (blank 32).list (who n).list 1)
  unfolding join_call
  grown = rw accepted
      (record {
        none_done = c.none_done;
        long = omega (arith, c.long, length-append s.stays (newcomer s (blank 32).list (who n).list 1 ∷ []));
        new = λ x m. ⊎_elim (λ i. before x (c.new x i)) (itself x) (was_or_last s.stays _ x m);
      })
    where
      before : (x : Stay) → New n x → New (suc n) x
      before x w = record { mark = w.mark; left = w.left; number = omega (arith, w.number); sound = w.sound }

      itself : (x : Stay) → x ≡ newcomer s (blank 32).list (who n).list 1 → New (suc n) x
      itself x e =
          rw e (record {
            mark = c.none_done;
            left = refl;
            number = rw (new_iv s (blank 32) (who n) 1 accepted) (omega arith);
            sound = sound_new s (blank 32) (who n) 1 accepted;
          })

one_more : (n : ℕ) → n < most_stays → Crowd n (after joining_order (crowd n)).scheduler
    → Crowd (suc n) (after joining_order (crowd n ++ (enter n ∷ []))).scheduler
unfolding calls call
one_more n few c = rw (calls_append joining_order _ (crowd n) (enter n ∷ [])) (grown n (after joining_order (crowd n)).scheduler few c)

gathered : (n : ℕ) → n ≤ most_stays → Crowd n (after joining_order (crowd n)).scheduler
unfolding crowd calls
gathered zero h = record { none_done = refl; long = refl; new = λ x m. absurd (Memᴰ.not-nil m) }
gathered (suc n) h = one_more n (omega arith) (gathered n (omega arith))

-- ---- the turns

abbrev trail : ℕ → List Stay → List Service → Trail
trail n l log = record { scheduler = record { turns = n; stays = l }; log = log }

abbrev serving : ℕ → List Stay → Service
serving n l = service joining_order (record { turns = n; stays = l }) (blank 1).list (blank 1).list

module _ (m : ℕ) (y : Stay) (w : New m y) (l : List Stay) where
  first : place joining_order (y ∷ l) ≡ 0
  unfolding place overtaken
  first = rw (none_overtakes l)
    where
      none_overtakes : (l : List Stay) → overtaken joining_order y l ≡ false
      none_overtakes [] = refl
      none_overtakes (x ∷ l) = rw (comes_later x y (omega (arith, w.mark)), none_overtakes l)

  is_next : (n : ℕ) → next joining_order (record { turns = n; stays = y ∷ l }) ≡ y
  is_next n = rw first

  -- it is served, and leaves
  one_turn : (n : ℕ) (log : List Service) → n < most_turns
      → call joining_order (trail n (y ∷ l) log) (turn (blank 1) (blank 1)) ≡ trail (suc n) l (log ++ (serving n (y ∷ l) ∷ []))
  unfolding call after_turn put remaining
  one_turn n log more =
      let s = (trail n (y ∷ l) log).scheduler in
      let is_due : 1 ≡ due (next joining_order s) = rw (is_next n) (omega (arith, w.left)) in
      rw (turn_taken joining_order s (omega arith) (rw (is_next n) w.sound) more (blank 1) (blank 1) is_due (omega arith))
      (ap (λ (g : Scheduler). record { scheduler = g; log = log ++ (serving n (y ∷ l) ∷ []) }) leaves)
    where
      leaves : after_turn joining_order (record { turns = n; stays = y ∷ l }) (blank 1).list (blank 1).list ≡ record { turns = suc n; stays = l }
      leaves = rw (first, w.left)

-- the k turns after turn n served stays before the m-th
record Served (m n k : ℕ) (u : Trail) : Type 0 where
  done : u.scheduler.turns ≡ n + k
  early : (j : ℕ) → n < j → j ≤ n + k → get_or (service_at u.log j).iv 0 0 < m

further : (m k n : ℕ) (y : Stay) (l : List Stay) (log : List Service) → New m y → length log ≡ n → n < most_turns
    → Served m (suc n) k (calls joining_order (trail (suc n) l (log ++ (serving n (y ∷ l) ∷ []))) (turns k))
    → Served m n (suc k) (calls joining_order (call joining_order (trail n (y ∷ l) log) (turn (blank 1) (blank 1))) (turns k))
further m k n y l log w long more s =
    let t = trail (suc n) l (log ++ (serving n (y ∷ l) ∷ [])) in
    let it : get_or (service_at (calls joining_order t (turns k)).log (suc n)).iv 0 0 < m =
    rw (logged_at joining_order t (turns k) log (serving n (y ∷ l)) n long refl, is_next m y w l n) w.number in
    rw (one_turn m y w l n log more)
    (record {
      done = omega (arith, s.done);
      early = λ j h i.
          on_test (eqb j (suc n)) (λ p. rw (eqb-true j (suc n) p) it) (λ p. s.early j (omega (arith, eqb-false j (suc n) p)) (omega arith));
    })

-- those at the front are served one by one, whoever stands behind them
queue : (m : ℕ) (l b : List Stay) (n : ℕ) (log : List Service) → ((y : Stay) → Among y l → New m y) → length log ≡ n → n + length l ≤ most_turns
    → Served m n (length l) (calls joining_order (trail n (l ++ b) log) (turns (length l)))
unfolding calls turns
queue m [] b n log new e fits = record { done = omega arith; early = λ j h k. absurd (omega arith) }
queue m (y ∷ l) b n log new e fits =
    further m (length l) n y (l ++ b) log (new y (Memᴰ.head refl)) e (omega arith)
    (queue m l b (suc n) (log ++ (serving n (y ∷ (l ++ b)) ∷ [])) (λ z i. new z (Memᴰ.tail i))
    (omega (arith, length-append log (serving n (y ∷ (l ++ b)) ∷ []))) (omega arith))

-- ---- one more than n stays, and n turns

module _ (n : ℕ) (few : n < most_stays) where
  abbrev crowded : Trail
  crowded = after joining_order (crowd n)

  abbrev last : Stay
  last = newcomer crowded.scheduler (blank 32).list (who n).list 1

  enters : join_number crowded.scheduler (blank 32).list (who n).list 1 ≡ 0
  enters = accepted n crowded.scheduler few (gathered n (omega arith))

  from_crowd : (ds : List Call) → after joining_order (crowd n ++ (enter n ∷ ds))
      ≡ calls joining_order (trail crowded.scheduler.turns (crowded.scheduler.stays ++ (last ∷ [])) crowded.log) ds
  unfolding calls call join_call
  from_crowd ds = calls_append joining_order _ (crowd n) (enter n ∷ ds) ∙ rw enters

  waits : Served n (after joining_order (crowd n ++ (enter n ∷ []))).scheduler.turns n (after joining_order (crowd n ++ (enter n ∷ turns n)))
  unfolding calls
  waits =
      let c = gathered n (omega arith) in
      let fits : crowded.scheduler.turns + length crowded.scheduler.stays ≤ most_turns = omega (arith, c.long, c.none_done) in
      let s = queue n crowded.scheduler.stays (last ∷ []) crowded.scheduler.turns crowded.log c.new
      (after_good joining_order (crowd n)).logged_all fits in
      rw (from_crowd [], from_crowd (turns n)) (rw c.long at s)

pub tight : Tight joining_order
tight =
    record {
      cs = crowd 31;
      c = enter 31;
      ds = turns 31;
      iv = (who 31).list;
      joins = joins (blank 32) (who 31) 1 (enters 31 (lit< tt));
      turns = (waits 31 (lit< tt)).done;
      none_served = λ k a b e. omega (arith, (waits 31 (lit< tt)).early k a b, ap (λ (l : List ℕ). get_or l 0 0) e);
    }
