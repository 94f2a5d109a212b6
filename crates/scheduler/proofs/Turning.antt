-- How a turn comes out, from the refusals before its session is asked and from what its session says; and what its code says and writes then.
use mathlib.Core.Path.{◌≡◌, refl, sym, ap, ap₂, subst, ◌∙◌}
use mathlib.Core.List.{List, [], ◌∷◌}
use mathlib.Core.Bool.{Bool, true, false, not, true≢false}
use Rattle.std.specs.Prelude.{Option, None, Some, Result, Ok, Err}
use Prim.Native.Nat.{ℕ, suc}
use native.Mathlib.Omega.{arith}
use borrow.Author.Tests.{eq-eqb, ne_eqb, eqb-true}
use lib.Dec.{eqb, leb}
use lib.ListN.{length}
use Rattle.scope.specs.Limits.{most_turns}
use Rattle.scope.specs.Refusals.{pick, refuse}
use Rattle.scope.proofs.Refused as Refused
use Rattle.scope.specs.Machine.{refusal_number, answer_number}
use Rattle.scope.specs.declared.Refusal.{Refusal}
use Rattle.words.specs.Bytes.{zeros}
use Rattle.session.specs.Session.{Session}
use Rattle.session.specs.Calls.{finish_call}
use Rattle.bytes_c.specs.SessionBytes.{session_bytes}
use Rattle.scheduler.specs.Scheduler.{Stay, Scheduler, none, iv_of, scheduler_order, place, next, due}
use Rattle.scheduler.specs.Calls.{sealing, turn_number, rest, remaining, put, after_turn, service, Outcome, Outcome.idle, Outcome.refused, Outcome.served, TurnEnd, turn_call, answer, numbered, whom, finished, tag}
use Rattle.scheduler.specs.Bytes.{scheduler_in, turn_outcome, turn_writes, is_served, Leaves, TurnLeaves}
use Rattle.scheduler.specs.Inner.{stay_at, looked_number, goes_on_as, ServedBytes, Serves}
use Rattle.scheduler.specs.Machine.{tagged, tag_or_zeros, served_of, turn_of, whom_of, finished_of, tag_of}
use Rattle.scheduler.specs.declared.Turned.{Turned}
use Rattle.scheduler.proofs.Order.{on_test}
use Rattle.scheduler.proofs.Looking.{looked_torn, looked_idle, looked_long, looked_more}

-- ---- how it comes out

-- the outcome, and what stands in the output
pub record Comes (b p out : List ℕ) (o : Outcome) (out' : List ℕ) : Type 0 where
  pub outcome : turn_outcome b p out ≡ o
  pub output : turn_writes b p out ≡ out'

module _ (b p out : List ℕ) where
  torn : ¬ (length b ≡ 8208) → Comes b p out (refused 8) out
  unfolding turn_outcome turn_writes
  torn h = record { outcome = rw (ne_eqb (length b) 8208 h); output = rw (ne_eqb (length b) 8208 h) }

  module _ (long : length b ≡ 8208) where
    of_call : {t : TurnEnd} → turn_call scheduler_order (scheduler_in b) p out ≡ t → Comes b p out t.outcome t.out
    unfolding turn_outcome turn_writes
    of_call e = record { outcome = rw (eq-eqb (length b) 8208 long) (ap (λ (t : TurnEnd). t.outcome) e); output = rw (eq-eqb (length b) 8208 long) (ap (λ (t : TurnEnd). t.out) e) }

    pub idles : none (scheduler_in b).stays ≡ true → Comes b p out idle out
    unfolding turn_call
    idles e = of_call {t = record { outcome = idle; out = out; scheduler = scheduler_in b }} (rw e)

    module _ (some : none (scheduler_in b).stays ≡ false) where
      refuses : {n : ℕ} → turn_number scheduler_order (scheduler_in b) p out ≡ n → ¬ (n ≡ 0) → Comes b p out (refused n) out
      unfolding turn_call
      refuses {n} e h =
          of_call {t = record { outcome = refused n; out = out; scheduler = scheduler_in b }}
          (rw (some, ne_eqb (turn_number scheduler_order (scheduler_in b) p out) 0 (λ z. h (sym e ∙ z)))
          (ap (λ (k : ℕ). record { outcome = refused k; out = out; scheduler = scheduler_in b }) e))

      pub goes : turn_number scheduler_order (scheduler_in b) p out ≡ 0
          → turn_call scheduler_order (scheduler_in b) p out
          ≡ record { outcome = served (service scheduler_order (scheduler_in b) p out); out = (sealing (next scheduler_order (scheduler_in b)) p out).out; scheduler = after_turn scheduler_order (scheduler_in b) p out }
      unfolding turn_call
      goes e = rw (some, eq-eqb (turn_number scheduler_order (scheduler_in b) p out) 0 e)

  -- refused before its session is asked
  refused_first : ¬ (looked_number b (length p) ≡ 0) → Comes b p out (refused (looked_number b (length p))) out
  unfolding looked_number turn_number
  refused_first h =
      on_test (eqb (length b) 8208)
      (λ t. let long = eqb-true (length b) 8208 t in
      on_test (none (scheduler_in b).stays) (λ e. absurd (h (sym (looked_idle b (length p) long e)))) (λ e. whole long e))
      (λ f. let l : ¬ (length b ≡ 8208) = λ z. true≢false (sym (eq-eqb (length b) 8208 z) ∙ f) in
      subst (λ (n : ℕ). Comes b p out (refused n) out) (looked_torn b (length p) l) (torn l))
    where
      late : Bool
      late = leb most_turns (scheduler_in b).turns

      other : Bool
      other = not (eqb (length p) (due (next scheduler_order (scheduler_in b))))

      -- the same number, whatever the session would say
      same : (x y : Bool) (m : ℕ) → ¬ (refuse x 9 (refuse y 3 0) ≡ 0) → refuse x 9 (refuse y 3 m) ≡ refuse x 9 (refuse y 3 0)
      same true y m k = refl
      same false true m k = refl
      same false false m k = absurd (k refl)

      whole : length b ≡ 8208 → none (scheduler_in b).stays ≡ false → Comes b p out (refused (looked_number b (length p))) out
      whole long e =
          let a : looked_number b (length p) ≡ refuse late 9 (refuse other 3 0) = rw (eq-eqb (length b) 8208 long, e) in
          refuses long e (same late other (sealing (next scheduler_order (scheduler_in b)) p out).number (λ z. h (a ∙ z)) ∙ sym a) h

  pub refused_looked : (e : Refusal) → refusal_number e ≡ looked_number b (length p) → Comes b p out (refused (refusal_number e)) out
  refused_looked e k = subst (λ (n : ℕ). Comes b p out (refused n) out) (sym k) (refused_first (λ z. Refused.refused e (k ∙ z)))

  -- and where it is not, the session answers
  module _ (e : looked_number b (length p) ≡ 0) (some : none (scheduler_in b).stays ≡ false) where
    pub session_answers : turn_number scheduler_order (scheduler_in b) p out ≡ (sealing (next scheduler_order (scheduler_in b)) p out).number
    unfolding turn_number
    session_answers = let m = looked_more b (length p) e some in rw (m.0, m.1)

    refused_then : ¬ ((sealing (next scheduler_order (scheduler_in b)) p out).number ≡ 0)
        → Comes b p out (refused (sealing (next scheduler_order (scheduler_in b)) p out).number) out
    refused_then h = refuses (looked_long b (length p) e) some session_answers h

    pub refused_sealing : (x : Refusal) → refusal_number x ≡ (sealing (next scheduler_order (scheduler_in b)) p out).number → Comes b p out (refused (refusal_number x)) out
    refused_sealing x k = subst (λ (n : ℕ). Comes b p out (refused n) out) (sym k) (refused_then (λ z. Refused.refused x (k ∙ z)))

    -- the answer is the session's, whatever that is
    pub session_outcome : answer (turn_outcome b p out) ≡ (sealing (next scheduler_order (scheduler_in b)) p out).number
    session_outcome =
        let m = (sealing (next scheduler_order (scheduler_in b)) p out).number in
        let long = looked_long b (length p) e in
        on_test (eqb m 0)
        (λ t. let z : m ≡ 0 = eqb-true m 0 t in ap answer (of_call long (goes long some (session_answers ∙ z))).outcome ∙ sym z)
        (λ f. ap answer (refused_then (λ z. true≢false (sym (eq-eqb m 0 z) ∙ f))).outcome)

-- a turn that is refused writes nothing, and one that serves has a number from 1 on
module _ (b p out : List ℕ) where
  abbrev served_turn : TurnEnd
  served_turn =
      record {
        outcome = served (service scheduler_order (scheduler_in b) p out);
        out = (sealing (next scheduler_order (scheduler_in b)) p out).out;
        scheduler = after_turn scheduler_order (scheduler_in b) p out;
      }

  abbrev refused_turn : TurnEnd
  refused_turn = record { outcome = refused (turn_number scheduler_order (scheduler_in b) p out); out = out; scheduler = scheduler_in b }

  abbrev idle_turn : TurnEnd
  idle_turn = record { outcome = idle; out = out; scheduler = scheduler_in b }

  pub refused_writes : ¬ (answer (turn_outcome b p out) ≡ 0) → turn_writes b p out ≡ out
  unfolding turn_outcome turn_writes turn_call
  refused_writes = go (eqb (length b) 8208) (none (scheduler_in b).stays) (eqb (turn_number scheduler_order (scheduler_in b) p out) 0)
    where
      go : (x y z : Bool) → ¬ (answer (pick x (pick y idle_turn (pick z served_turn refused_turn)).outcome (refused 8)) ≡ 0)
          → pick x (pick y idle_turn (pick z served_turn refused_turn)).out out ≡ out
      go false y z h = refl
      go true true z h = refl
      go true false true h = absurd (h refl)
      go true false false h = refl

  pub served_numbered : is_served (turn_outcome b p out) ≡ true → eqb (numbered (turn_outcome b p out)) 0 ≡ false
  unfolding turn_outcome turn_call
  served_numbered = go (eqb (length b) 8208) (none (scheduler_in b).stays) (eqb (turn_number scheduler_order (scheduler_in b) p out) 0)
    where
      go : (x y z : Bool) → is_served (pick x (pick y idle_turn (pick z served_turn refused_turn)).outcome (refused 8)) ≡ true
          → eqb (numbered (pick x (pick y idle_turn (pick z served_turn refused_turn)).outcome (refused 8))) 0 ≡ false
      go false y z h = absurd (true≢false (sym h))
      go true true z h = absurd (true≢false (sym h))
      go true false true h = ne_eqb (suc (scheduler_in b).turns) 0 (λ e. omega arith)
      go true false false h = absurd (true≢false (sym h))

-- ---- what the code says and writes then

abbrev pub Turns : (b p o : List ℕ) → Result (Option Turned) Refusal → (o' after : List ℕ) → Type 0
Turns b p o r o' after =
    record {
      answer : answer_number r ≡ answer (turn_outcome b p o);
      served : served_of r ≡ is_served (turn_outcome b p o);
      turn : turn_of r ≡ numbered (turn_outcome b p o);
      iv : whom_of r ≡ whom (turn_outcome b p o);
      done : finished_of r ≡ finished (turn_outcome b p o);
      tag : tag_of r ≡ tag (turn_outcome b p o);
      out : o' ≡ turn_writes b p o;
      scheduler : TurnLeaves b p o after;
    }

tagged_picked : (d : Bool) (t : List ℕ) → tagged (pick d (Some t) None) ≡ d
tagged_picked true t = refl
tagged_picked false t = refl

tag_picked : (d : Bool) (t : List ℕ) → tag_or_zeros (pick d (Some t) None) ≡ pick d t zeros
tag_picked true t = refl
tag_picked false t = refl

module _ (b p out : List ℕ) where
  pub turns_refused : (e : Refusal) {r : Result (Option Turned) Refusal} → r ≡ Err e → Comes b p out (refused (refusal_number e)) out → Turns b p out r out b
  turns_refused e {r} q c =
      let o = c.outcome in
      let t : Turns b p out (Err e) out b =
      record { answer = rw o; served = rw o; turn = rw o; iv = rw o; done = rw o; tag = rw o; out = sym c.output; scheduler = record { bytes = rw o; lists = rw o } } in
      subst (λ (x : Result (Option Turned) Refusal). Turns b p out x out b) (sym q) t

  pub turns_idle : Comes b p out idle out → Turns b p out (Ok None) out b
  turns_idle c =
      let o = c.outcome in
      record { answer = rw o; served = rw o; turn = rw o; iv = rw o; done = rw o; tag = rw o; out = sym c.output; scheduler = record { bytes = rw o; lists = rw o } }

  module _ (e : looked_number b (length p) ≡ 0) (some : none (scheduler_in b).stays ≡ false) where
    -- what there is of the stay that was served
    remains : (i : ℕ) (u : Session) → i ≡ place scheduler_order (scheduler_in b).stays → next scheduler_order (scheduler_in b) ≡ stay_at b i
        → u ≡ (sealing (next scheduler_order (scheduler_in b)) p out).session → goes_on_as b i u ≡ after_turn scheduler_order (scheduler_in b) p out
    unfolding after_turn remaining
    remains i u ie xe ue =
        let t = suc (scheduler_in b).turns in
        λ k. record {
          turns = t;
          stays = put (scheduler_in b).stays (ie k)
              (pick (eqb (rest (sym xe k)) 0) [] (record { session = session_bytes (ue k); left = rest (sym xe k); mark = t } ∷ []));
        }

    pub turns_served : (i : ℕ) (u : Session) → i ≡ place scheduler_order (scheduler_in b).stays → next scheduler_order (scheduler_in b) ≡ stay_at b i
        → u ≡ (sealing (next scheduler_order (scheduler_in b)) p out).session → (sealing (next scheduler_order (scheduler_in b)) p out).number ≡ 0
        → {t : Turned} → Serves b i u t → {after : List ℕ} → ServedBytes b i u after
        → Turns b p out (Ok (Some t)) (sealing (next scheduler_order (scheduler_in b)) p out).out after
    turns_served i u ie xe ue z v {after} l =
        let long = looked_long b (length p) e in
        let t = goes b p out long some (session_answers b p out e some ∙ z) in
        let c = of_call b p out long t in
        let o = c.outcome in
        let g : goes_on_as b i u ≡ (turn_call scheduler_order (scheduler_in b) p out).scheduler = remains i u ie xe ue ∙ sym (ap (λ (w : TurnEnd). w.scheduler) t) in
        let d = eqb (rest (stay_at b i)) 0 in
        record {
          answer = rw o;
          served = rw o;
          turn = rw o v.turn;
          iv = rw o (v.iv ∙ ap iv_of (sym xe));
          done = rw o (ap tagged v.tag ∙ tagged_picked d (finish_call u).tag ∙ ap (λ (x : Stay). eqb (rest x) 0) (sym xe));
          tag = rw o
              (ap tag_or_zeros v.tag ∙ tag_picked d (finish_call u).tag
              ∙ ap₂ (λ (x : Stay) (w : Session). pick (eqb (rest x) 0) (finish_call w).tag zeros) (sym xe) ue);
          out = sym c.output;
          scheduler = rw o (subst (λ (h : Scheduler). Leaves true h b after) g l);
        }
