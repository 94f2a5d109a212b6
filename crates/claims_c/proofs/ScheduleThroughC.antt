-- The scheduler through C: a call for C leaves the bytes that the call below does, or, being refused for its buffers, all of them; so a list of them is the same list below with those left
-- out, of which crates/claims_scheduler/proofs/OnBytes.antt says the rest. What C is told are the outcome's parts, each in a buffer of its own.
use mathlib.Core.Path.{◌≡◌, refl, sym, ap, ◌∙◌}
use mathlib.Core.List.{List, [], ◌∷◌, ◌++◌}
use mathlib.Core.Bool.{Bool, true, false, not, ◌&&◌}
use Prim.Native.Nat.{ℕ, ◌≤◌, ◌<◌}
use borrow.Author.Tests.{eqb-true, ne_eqb, ltb-false}
use lib.Dec.{eqb, ltb}
use lib.ListN.{length}
use Rattle.scope.specs.Refusals.{pick, short_output}
use Rattle.claims.specs.Lists.{Bytes}
use Rattle.bytes_c.specs.Order.{next, room}
use Rattle.bytes_c.proofs.Answering.{never, fits}
use Rattle.scheduler.specs.Scheduler as Schedulers
use Rattle.scheduler.specs.Scheduler.{Scheduler, none, iv_of, Order, scheduler_order, due}
use Rattle.scheduler.specs.Calls.{join_number, turn_number, Service, service, Outcome, Outcome.idle, Outcome.refused, Outcome.served, TurnEnd, turn_call, answer, numbered, finished}
use Rattle.scheduler.specs.Bytes.{scheduler_length, scheduler_in, empty_writes, join_answer, next_answer, next_found, next_iv, next_due, turn_outcome, turn_writes, is_served}
use Rattle.scheduler.proofs.Order.{on_test, of_picked}
use Rattle.scheduler_c.specs.Calls.{asked_answer, asked_found, asked_iv, asked_due, Buffers, rooms, turned_answer, turned_out, turned_iv, turned_turn, turned_done, turned_tag}
use Rattle.claims_scheduler.specs.OnBytes.{call_on, calls_on, bytes_after}
use Rattle.claims_scheduler.proofs.Turns.{some_there}
use Rattle.claims_scheduler.proofs.OnBytes.{on_bytes}
use Rattle.tulvekas.proofs.Answering.{nothing_later, four_later}
use Rattle.claims_c.proofs.OnBytes.{not_zero}
use Rattle.claims_c.specs.Schedule.{CTurnCall, CTurnCall.join, CTurnCall.turn, c_schedule_call, c_schedule_calls, c_schedule, schedule_below, scheduler_below, NextRoom, AsksThroughC, TurnRoom, told, TurnTells, TurnsThroughC, ScheduleThroughC}

same_either : {A : Type 0} (b : Bool) (x : A) → pick b x x ≡ x
same_either true x = refl
same_either false x = refl

-- ---- lists

-- with room a turn changes the bytes where it is numbered, as below
changes : (w : Outcome) (n : ℕ) → n ≡ 0 → (eqb (next (answer w) n) 0 && is_served w) ≡ is_served w
changes idle n e = rw e
changes (refused k) n e = on_test (eqb (next k n) 0) (λ t. rw t) (λ t. rw t)
changes (served v) n e = rw e

-- without, it is refused, and changes none
calls_below : (b : List ℕ) (cs : List CTurnCall) → c_schedule_calls b cs ≡ calls_on b (schedule_below cs)
unfolding c_schedule_calls c_schedule_call calls_on call_on schedule_below turned_answer
calls_below b [] = refl
calls_below b (join key iv n ∷ cs) = calls_below (c_schedule_call b (join key iv n)) cs
calls_below b (turn p out f ∷ cs) =
    on_test (eqb (rooms f) 0)
    (λ t. rw (t, changes (turn_outcome b p.list out.list) (rooms f) (eqb-true (rooms f) 0 t)) (calls_below _ cs))
    (λ t. rw (t, not_zero (answer (turn_outcome b p.list out.list)) (rooms f) t) (calls_below b cs))

scheduled : (b : List ℕ) (cs : List CTurnCall) → c_schedule b cs ≡ bytes_after b (schedule_below cs)
scheduled b cs = calls_below (empty_writes b) cs

in_parts : (cs ds : List CTurnCall) → schedule_below (cs ++ ds) ≡ schedule_below cs ++ schedule_below ds
unfolding schedule_below
in_parts [] ds = refl
in_parts (join key iv n ∷ cs) ds = rw (in_parts cs ds)
in_parts (turn p out f ∷ cs) ds = on_test (eqb (rooms f) 0) (λ t. rw (t, in_parts cs ds)) (λ t. rw (t, in_parts cs ds))

-- ---- a buffer that lacks room

lacks : (k : ℕ) (out : List ℕ) (later : ℕ) → (k ≤ length out → later ≡ short_output) → room k out later ≡ short_output
lacks k out later h = on_test (ltb (length out) k) (λ t. rw t) (λ t. rw t (h (ltb-false (length out) k t)))

-- ---- who is next

module _ (b : List ℕ) (s : Scheduler) (found iv piece : List ℕ) (a : next_answer b ≡ 0) (q : next_found b ≡ not (none s.stays))
    (v : 0 < length s.stays → next_iv b ≡ iv_of (Schedulers.next scheduler_order s)) (d : 0 < length s.stays → next_due b ≡ due (Schedulers.next scheduler_order s)) where
  told_room : NextRoom found iv piece → asked_answer b found iv piece ≡ 0
  unfolding asked_answer
  told_room r = rw a (sym (fits 8 piece 0 r.for_due ∙ fits 16 iv _ r.for_iv ∙ fits 1 found _ r.for_found))

  module _ (non : ¬ NextRoom found iv piece) where
    told_short : asked_answer b found iv piece ≡ short_output
    unfolding asked_answer
    told_short = rw a (lacks 1 found _ (λ f. lacks 16 iv _ (λ i. lacks 8 piece 0 (λ d. absurd (non (record { for_found = f; for_iv = i; for_due = d }))))))

    untold : eqb (asked_answer b found iv piece) 0 ≡ false
    untold = ap (λ (n : ℕ). eqb n 0) told_short

  asks_next : AsksThroughC b s found iv piece
  unfolding asked_found asked_iv asked_due
  asks_next =
      record {
        answered = told_room;
        told_found = λ r. rw (told_room r, q);
        told_iv = λ r. on_test (none s.stays) (λ t. rw (q, t)) (λ t. rw (told_room r, q, t, v (some_there s.stays t)));
        told_due = λ r. on_test (none s.stays) (λ t. rw (q, t)) (λ t. rw (told_room r, q, t, d (some_there s.stays t)));
        no_room = λ non. (
          told_short non,
          rw (untold non),
          rw (untold non) (same_either (next_found b) iv),
          rw (untold non) (same_either (next_found b) piece),
        );
      }

-- ---- a turn

-- what an outcome can be, with what it leaves in the output
data Says (out : List ℕ) : Outcome → List ℕ → Type 0 where
  idles : Says out idle out
  refuses : (n : ℕ) → eqb n 0 ≡ false → Says out (refused n) out
  serves : (v : Service) (o : List ℕ) → eqb v.turn 0 ≡ false → Says out (served v) o

says : (o : Order) (s : Scheduler) (p out : List ℕ) → Says out (turn_call o s p out).outcome (turn_call o s p out).out
unfolding turn_call
says o s p out =
    of_picked (λ (u : TurnEnd). Says out u.outcome u.out) (none s.stays) (λ e. idles)
    (λ e. of_picked (λ (u : TurnEnd). Says out u.outcome u.out) (eqb (turn_number o s p out) 0)
    (λ z. serves (service o s p out) _ (ne_eqb _ 0 (never s.turns))) (λ z. refuses (turn_number o s p out) z))

roomy : (f : Buffers) → TurnRoom f → rooms f ≡ 0
roomy f r = sym (fits 16 f.tag 0 r.for_tag ∙ fits 1 f.done _ r.for_done ∙ fits 8 f.turn _ r.for_turn ∙ fits 16 f.iv _ r.for_iv)

roomless : (f : Buffers) → ¬ TurnRoom f → rooms f ≡ short_output
roomless f non =
    lacks 16 f.iv _
    (λ i. lacks 8 f.turn _
    (λ t. lacks 1 f.done _ (λ d. lacks 16 f.tag 0 (λ g. absurd (non (record { for_iv = i; for_turn = t; for_done = d; for_tag = g }))))))

module _ (b p out : List ℕ) (f : Buffers) (w : Outcome) (e : turn_outcome b p out ≡ w) where
  answers : turned_answer b p out f ≡ next (answer w) (rooms f)
  unfolding turned_answer
  answers = ap (λ (u : Outcome). next (answer u) (rooms f)) e

  module _ (non : ¬ TurnRoom f) where
    short_answer : turned_answer b p out f ≡ next (answer w) short_output
    short_answer = answers ∙ ap (next (answer w)) (roomless f non)

    not_answered : eqb (turned_answer b p out f) 0 ≡ false
    not_answered = ne_eqb _ 0 (λ z. four_later (answer w) (sym short_answer ∙ z))

    tells_short : TurnTells b p out f (next (answer w) short_output) out f
    unfolding turned_out turned_iv turned_turn turned_done turned_tag
    tells_short =
        record {
          answered = short_answer;
          output = rw not_answered;
          told_iv = rw not_answered (same_either (eqb (numbered (turn_outcome b p out)) 0) f.iv);
          told_turn = rw not_answered;
          told_done = rw not_answered;
          told_tag = rw not_answered (same_either (finished (turn_outcome b p out)) f.tag);
        }

  module _ (r : TurnRoom f) where
    room_answer : turned_answer b p out f ≡ answer w
    room_answer = answers ∙ ap (next (answer w)) (roomy f r) ∙ sym (nothing_later (answer w))

tells : (b p out : List ℕ) (f : Buffers) (w : Outcome) (o : List ℕ) → turn_outcome b p out ≡ w → turn_writes b p out ≡ o → TurnRoom f → Says out w o
    → TurnTells b p out f (answer w) o (told w f)
unfolding turned_out turned_iv turned_turn turned_done turned_tag
tells b p out f w o e u r idles =
    let a = room_answer b p out f idle e r in
    record {
      answered = a;
      output = rw (a, u);
      told_iv = rw (a, e);
      told_turn = rw (a, e);
      told_done = rw (a, e);
      told_tag = rw (a, e);
    }
tells b p out f w o e u r (refuses n z) =
    let a = room_answer b p out f (refused n) e r in
    record {
      answered = a;
      output = rw (a, z);
      told_iv = rw (a, e);
      told_turn = rw (a, z);
      told_done = rw (a, z);
      told_tag = rw (a, e);
    }
tells b p out f w o e u r (serves v o' z) =
    let a = room_answer b p out f (served v) e r in
    record {
      answered = a;
      output = rw (a, u);
      told_iv = rw (a, e, z);
      told_turn = rw (a, e);
      told_done = rw (a, e);
      told_tag = rw (a, e);
    }

module _ (scheduler : List ℕ) (long : length scheduler ≡ scheduler_length) (cs : List CTurnCall) where
  joins : (key iv : Bytes) (n : ℕ) → join_answer (c_schedule scheduler cs) key.list iv.list n ≡ join_number (scheduler_below cs) key.list iv.list n
  joins key iv n =
      ap (λ (l : List ℕ). join_answer l key.list iv.list n) (scheduled scheduler cs)
      ∙ on_bytes.join_answers scheduler long (schedule_below cs) key iv n

  asks : (found iv piece : List ℕ) → AsksThroughC (c_schedule scheduler cs) (scheduler_below cs) found iv piece
  asks found iv piece =
      let at = scheduled scheduler cs in
      let ds = schedule_below cs in
      asks_next (c_schedule scheduler cs) (scheduler_below cs) found iv piece (ap next_answer at ∙ on_bytes.next_answers scheduler long ds)
      (ap next_found at ∙ on_bytes.next_there scheduler long ds)
      (λ h. ap next_iv at ∙ on_bytes.next_number scheduler long ds h) (λ h. ap next_due at ∙ on_bytes.next_piece scheduler long ds h)

  turns : (p out : Bytes) (f : Buffers)
      → TurnsThroughC (c_schedule scheduler cs) p.list out.list f (turn_call scheduler_order (scheduler_below cs) p.list out.list)
  turns p out f =
      let at = scheduled scheduler cs in
      let b = c_schedule scheduler cs in
      let g = turn_call scheduler_order (scheduler_below cs) p.list out.list in
      let e = ap (λ (l : List ℕ). turn_outcome l p.list out.list) at ∙ on_bytes.turn_outcomes scheduler long (schedule_below cs) p out in
      let u = ap (λ (l : List ℕ). turn_writes l p.list out.list) at ∙ on_bytes.turn_output scheduler long (schedule_below cs) p out in
      record {
        with_room = λ r. tells b p.list out.list f g.outcome g.out e u r (says scheduler_order (scheduler_below cs) p.list out.list);
        no_room = λ non. tells_short b p.list out.list f g.outcome e non;
      }

pub schedules : ScheduleThroughC
schedules =
    record {
      bytes = λ scheduler long cs. scheduled scheduler cs ∙ on_bytes.bytes scheduler long (schedule_below cs);
      lists = λ scheduler long cs. ap scheduler_in (scheduled scheduler cs) ∙ on_bytes.lists scheduler long (schedule_below cs);
      in_parts = in_parts;
      joins = joins;
      asks = asks;
      turns = turns;
    }
