-- A scheduler that a list of calls has come to fits its bytes: they list it, and behind the places in use they are zero. So a call clears them to zeros alone, and the scheduler that it
-- gives, over these, has its own bytes. By induction over the list, from the empty scheduler on, whose bytes are zeros: the call that makes
-- it of lent bytes writes all of them.
use Prim.Native.Nat.{ℕ, ◌+◌, ◌-◌, ◌*◌, ◌≤◌, ◌<◌}
use mathlib.Core.Path.{◌≡◌, refl, sym, ap, ◌∙◌}
use mathlib.Core.List.Memᴰ
use mathlib.Core.List.{List, [], ◌∷◌, ◌++◌, append-nil}
use mathlib.Core.Bool.{Bool, true, false, not, true≢false}
use native.Mathlib.Omega.{arith}
use borrow.Author.Tests.{eq-eqb}
use lib.Dec.{eqb, lit≤}
use lib.ListN.{length, drop, replicate, length-append, length-replicate, replicate-append-replicate}
use lib.Seq.{drop_at, drop-length}
use Rattle.scope.specs.Refusals.{pick}
use Rattle.words.specs.Bytes.{little}
use Rattle.bytes_c.proofs.Answering.{fits as enough}
use Rattle.scheduler.specs.Scheduler.{Stay, Scheduler, empty, none, iv_of, scheduler_order, next, due}
use Rattle.scheduler.specs.Calls.{join_number, join_call, TurnEnd, turn_call}
use Rattle.scheduler.specs.Bytes.{scheduler_length, places, head, in_use, scheduler_bytes, how_many, scheduler_in, zeroed, cleared, over, empty_answer, empty_writes, is_scheduler, join_answer, next_answer, next_found, next_iv, next_due, turn_outcome, is_served, turn_writes}
use Rattle.scheduler.proofs.Places.{FitStay, AllFit, stays_long}
use Rattle.scheduler.proofs.Listing.{FitScheduler, lists, in_use_long}
use Rattle.claims_scheduler.specs.Lists.{Call, Call.join, Call.turn, Trail, call, calls, after}
use Rattle.claims_scheduler.specs.OnBytes.{call_on, calls_on, bytes_after, OnBytes}
use Rattle.claims_scheduler.proofs.Sound.{sound_long}
use Rattle.claims_scheduler.proofs.Lists.{Among}
use Rattle.claims_scheduler.proofs.Kept.{Kept}
use Rattle.claims_scheduler.proofs.Turns.{Turning, Turning.unchanged, Turning.numbered, turning}
use Rattle.claims_scheduler.proofs.Calls.{Good, call_good, after_good}

-- ---- it fits its bytes

all_fitting : (l : List Stay) → ((x : Stay) → Among x l → FitStay x) → AllFit l
all_fitting [] f = tt
all_fitting (x ∷ l) f = (f x (Memᴰ.head refl), all_fitting l (λ y m. f y (Memᴰ.tail m)))

fits : (s : Scheduler) → Kept s → FitScheduler s
fits s k =
    let n = k.numbers_last in
    record {
      turns_fit = omega arith;
      few = k.few;
      each = all_fitting s.stays
          (λ x m.
          let w = k.each x m in
          record { session_long = sound_long x (k.sound x m); left_fits = omega (arith, w.fits); mark_fits = omega (arith, w.past) });
    }

-- ---- the bytes of one that does

zeros_in_two : (k n : ℕ) → k ≤ n → replicate k 0 ++ replicate (n - k) 0 ≡ replicate {A = ℕ} n 0
zeros_in_two k n h = replicate-append-replicate {A = ℕ} k (n - k) 0 ∙ ap (λ (m : ℕ). replicate m 0) (let e : k + (n - k) ≡ n = omega arith in e)

in_use_fits : (s : Scheduler) → FitScheduler s → length (in_use s) ≤ scheduler_length
in_use_fits s f = let m = f.few in omega (arith, in_use_long s f)

-- whoever is there
not_none : (l : List Stay) → 0 < length l → none l ≡ false
not_none [] h = absurd (omega arith)
not_none (x ∷ l) h = refl

module _ (s : Scheduler) (f : FitScheduler s) where
  bytes_long : length (scheduler_bytes s) ≡ scheduler_length
  unfolding scheduler_bytes
  bytes_long =
      let k = length (in_use s) in
      omega (arith, in_use_fits s f, length-append (in_use s) (replicate (scheduler_length - k) 0), length-replicate {A = ℕ} (scheduler_length - k) 0)

  bytes_list : scheduler_in (scheduler_bytes s) ≡ s
  unfolding scheduler_bytes
  bytes_list = lists s f (replicate (scheduler_length - length (in_use s)) 0)

  places_in_use : 16 + 256 * how_many (scheduler_bytes s) ≡ length (in_use s)
  unfolding scheduler_in
  places_in_use =
      let b = scheduler_bytes s in
      let n : length (scheduler_in b).stays ≡ how_many b = stays_long (how_many b) (drop 16 b) in
      let m : length (scheduler_in b).stays ≡ length s.stays = ap (λ (u : Scheduler). length u.stays) bytes_list in
      omega (arith, in_use_long s f)

  all_cleared : cleared (scheduler_bytes s) ≡ replicate scheduler_length 0
  unfolding zeroed scheduler_bytes
  all_cleared =
      let k = length (in_use s) in
      ap (λ (j : ℕ). replicate j 0 ++ drop j (scheduler_bytes s)) places_in_use
      ∙ ap (λ (r : List ℕ). replicate k 0 ++ r) (drop_at (in_use s) (replicate (scheduler_length - k) 0) k refl)
      ∙ zeros_in_two k scheduler_length (in_use_fits s f)

  -- another over them
  over_bytes : (g : Scheduler) → FitScheduler g → over g (scheduler_bytes s) ≡ scheduler_bytes g
  unfolding over scheduler_bytes
  over_bytes g h =
      let k = length (in_use g) in
      let z = replicate {A = ℕ} (scheduler_length - k) 0 in
      ap (λ (r : List ℕ). in_use g ++ drop k r) (all_cleared ∙ sym (zeros_in_two k scheduler_length (in_use_fits g h)))
      ∙ ap (λ (r : List ℕ). in_use g ++ r) (drop_at (replicate k 0) z k (length-replicate {A = ℕ} k 0))

  -- ---- a call on them is the call on the scheduler

  is_whole : is_scheduler (scheduler_bytes s) ≡ true
  is_whole = eq-eqb (length (scheduler_bytes s)) scheduler_length bytes_long

  join_same : (key iv : List ℕ) (n : ℕ) → join_answer (scheduler_bytes s) key iv n ≡ join_number s key iv n
  unfolding join_answer
  join_same key iv n = rw (is_whole, bytes_list)

  asked_same : next_answer (scheduler_bytes s) ≡ 0
  unfolding next_answer
  asked_same = rw is_whole

  found_same : next_found (scheduler_bytes s) ≡ not (none s.stays)
  unfolding next_found
  found_same = rw (is_whole, bytes_list)

  module _ (some : 0 < length s.stays) where
    found : next_found (scheduler_bytes s) ≡ true
    found = found_same ∙ ap not (not_none s.stays some)

    iv_same : next_iv (scheduler_bytes s) ≡ iv_of (next scheduler_order s)
    unfolding next_iv
    iv_same = rw (found, bytes_list)

    due_same : next_due (scheduler_bytes s) ≡ due (next scheduler_order s)
    unfolding next_due
    due_same = rw (found, bytes_list)

  outcome_same : (p out : List ℕ) → turn_outcome (scheduler_bytes s) p out ≡ (turn_call scheduler_order s p out).outcome
  unfolding turn_outcome
  outcome_same p out = rw (is_whole, bytes_list)

  writes_same : (p out : List ℕ) → turn_writes (scheduler_bytes s) p out ≡ (turn_call scheduler_order s p out).out
  unfolding turn_writes
  writes_same p out = rw (is_whole, bytes_list)

  -- what a call leaves that gives g, where g is another only where it changes anything
  left : (b : Bool) (g : Scheduler) → FitScheduler g → (b ≡ false → s ≡ g) → pick b (over g (scheduler_bytes s)) (scheduler_bytes s) ≡ scheduler_bytes g
  left true g h e = over_bytes g h
  left false g h e = ap scheduler_bytes (e refl)

-- ---- a list of calls

-- a call that is refused or not numbered gives the scheduler that it got
join_kept : (s : Scheduler) (key iv : List ℕ) (n : ℕ) → eqb (join_number s key iv n) 0 ≡ false → s ≡ join_call s key iv n
unfolding join_call
join_kept s key iv n e = rw e

turn_kept : (s : Scheduler) (p out : List ℕ) (u : TurnEnd) → Turning scheduler_order s p out u → is_served u.outcome ≡ false → s ≡ u.scheduler
turn_kept s p out u (unchanged w l) e = refl
turn_kept s p out u (numbered v) e = absurd (true≢false e)

call_same : (t : Trail) → Good t → (c : Call) → call_on (scheduler_bytes t.scheduler) c ≡ scheduler_bytes (call scheduler_order t c).scheduler
unfolding call_on call
call_same t g (join key iv n) =
    let s = t.scheduler in
    let f = fits s g.kept in
    rw (join_same s f key.list iv.list n, bytes_list s f)
    (left s f (eqb (join_number s key.list iv.list n) 0) (join_call s key.list iv.list n)
    (fits (join_call s key.list iv.list n) (call_good scheduler_order t (join key iv n) g).kept) (join_kept s key.list iv.list n))
call_same t g (turn p out) =
    let s = t.scheduler in
    let f = fits s g.kept in
    let u = turn_call scheduler_order s p.list out.list in
    rw (outcome_same s f p.list out.list, bytes_list s f)
    (left s f (is_served u.outcome) u.scheduler (fits u.scheduler (call_good scheduler_order t (turn p out) g).kept)
    (turn_kept s p.list out.list u (turning scheduler_order s p.list out.list)))

calls_same : (t : Trail) → Good t → (cs : List Call) → calls_on (scheduler_bytes t.scheduler) cs ≡ scheduler_bytes (calls scheduler_order t cs).scheduler
unfolding calls_on calls
calls_same t g [] = refl
calls_same t g (c ∷ cs) =
    ap (λ (b : List ℕ). calls_on b cs) (call_same t g c) ∙ calls_same (call scheduler_order t c) (call_good scheduler_order t c g) cs

-- ---- from the empty scheduler on

empty_in_use : in_use empty ≡ replicate 16 0
unfolding in_use head places little
empty_in_use = refl

empty_bytes : replicate scheduler_length 0 ≡ scheduler_bytes empty
unfolding scheduler_bytes
empty_bytes = sym (ap (λ (u : List ℕ). u ++ replicate (scheduler_length - length u) 0) empty_in_use ∙ zeros_in_two 16 scheduler_length (lit≤ tt))

-- whatever stood in the bytes
emptied : (b : List ℕ) → length b ≡ scheduler_length → empty_writes b ≡ replicate scheduler_length 0
unfolding empty_writes empty_answer
emptied b long =
    let behind : drop scheduler_length b ≡ [] = ap (λ (k : ℕ). drop k b) (sym long) ∙ drop-length b in
    rw (← enough scheduler_length b 0 (omega arith), behind) (append-nil (replicate scheduler_length 0))

bytes : (b : List ℕ) → length b ≡ scheduler_length → (cs : List Call) → bytes_after b cs ≡ scheduler_bytes (after scheduler_order cs).scheduler
unfolding calls
bytes b long cs = ap (λ (l : List ℕ). calls_on l cs) (emptied b long ∙ empty_bytes) ∙ calls_same _ (after_good scheduler_order []) cs

module _ (cs : List Call) where
  abbrev now : Scheduler
  now = (after scheduler_order cs).scheduler

  now_fits : FitScheduler now
  now_fits = fits now (after_good scheduler_order cs).kept

  -- what holds of the bytes of that scheduler holds of those that the list leaves
  on : {A : Type 0} (f : List ℕ → A) {x : A} → f (scheduler_bytes now) ≡ x → (b : List ℕ) → length b ≡ scheduler_length → f (bytes_after b cs) ≡ x
  on f e b long = ap f (bytes b long cs) ∙ e

pub on_bytes : OnBytes
on_bytes =
    record {
      bytes = bytes;
      lists = λ b long cs. on cs scheduler_in (bytes_list (now cs) (now_fits cs)) b long;
      join_answers = λ b long cs key iv n.
          on cs (λ (l : List ℕ). join_answer l key.list iv.list n) (join_same (now cs) (now_fits cs) key.list iv.list n) b long;
      next_answers = λ b long cs. on cs next_answer (asked_same (now cs) (now_fits cs)) b long;
      next_there = λ b long cs. on cs next_found (found_same (now cs) (now_fits cs)) b long;
      next_number = λ b long cs some. on cs next_iv (iv_same (now cs) (now_fits cs) some) b long;
      next_piece = λ b long cs some. on cs next_due (due_same (now cs) (now_fits cs) some) b long;
      turn_outcomes = λ b long cs p out.
          on cs (λ (l : List ℕ). turn_outcome l p.list out.list) (outcome_same (now cs) (now_fits cs) p.list out.list) b long;
      turn_output = λ b long cs p out.
          on cs (λ (l : List ℕ). turn_writes l p.list out.list) (writes_same (now cs) (now_fits cs) p.list out.list) b long;
    }
