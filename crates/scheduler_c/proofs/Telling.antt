-- What C is told: a refusal, of the call below or for want of room, leaves every buffer; else each has what the call below says at its front.
use Rattle.std.specs.Prelude.{Result, Ok, Err}
use mathlib.Core.Path.{◌≡◌, refl, sym, ap, subst, ◌∙◌}
use mathlib.Core.List.{List, [], ◌∷◌, ◌++◌}
use mathlib.Core.Bool.{Bool, true, false, not, true≢false}
use Prim.Native.Nat.{ℕ, ◌≤◌}
use native.Mathlib.Omega.{arith}
use borrow.Author.Tests.{eq-eqb, ne_eqb, eqb-true, ltb-false}
use lib.Dec.{eqb, ltb, lit<}
use lib.ListN.{length, drop, set}
use Rattle.scope.specs.declared.Refusal.{Refusal}
use Rattle.scope.specs.Machine.{refusal_number, answer_number}
use Rattle.scope.specs.Refusals.{pick, refuse, granted}
use Rattle.scope.proofs.Refusing.{refuse_none}
use Rattle.scope.proofs.Refused as Refused
use Rattle.words.specs.Bytes.{little}
use Rattle.bytes_c.specs.Order.{next, room}
use Rattle.bytes_c.proofs.Answering.{refused, unwritten, accepted}
use Rattle.scheduler.specs.Calls.{Outcome, Outcome.idle, Outcome.served, answer, numbered, whom, finished, tag}
use Rattle.scheduler.specs.Bytes.{next_found, next_iv, next_due, turn_outcome, turn_writes, is_served, TurnLeaves}
use Rattle.scheduler.proofs.Order.{on_test}
use Rattle.scheduler.proofs.Turning.{refused_writes, served_numbered}
use Rattle.scheduler_c.specs.Calls.{flag, asked_answer, asked_found, asked_iv, asked_due, Buffers, rooms, turned_answer, turned_out, turned_iv, turned_turn, turned_done, turned_tag, TurnedLeaves}

-- ---- numbers and picks

set_first : (out : List ℕ) (v : ℕ) → 1 ≤ length out → set out 0 v ≡ v ∷ drop 1 out
set_first [] v h = absurd (omega arith)
set_first (x ∷ out) v h = refl

either : {A : Type 0} (b : Bool) {x a : A} → a ≡ x → a ≡ pick b x a
either true e = e
either false e = refl

either_left : {A : Type 0} (b : Bool) {x a : A} → a ≡ x → a ≡ pick b a x
either_left true e = refl
either_left false e = e

-- the refusal of the call below, or the room's
pub passed : {r n : ℕ} (later : ℕ) → r ≡ n → ¬ (r ≡ 0) → r ≡ next n later
passed {r} {n} later e h = refused e later r h ∙ ap (granted n later) e

pub lacking : {r n k : ℕ} (later : ℕ) → r ≡ n → r ≡ 0 → k ≡ later → k ≡ next n later
lacking {r} {n} {k} later e z q = q ∙ accepted (sym z ∙ e) later n

-- ---- who is next

module _ (b f v d : List ℕ) where
  abbrev pub Asked : Result Unit Refusal → (f' v' d' : List ℕ) → Type 0
  Asked r f' v' d' =
      record {
        answer : answer_number r ≡ asked_answer b f v d;
        found : f' ≡ asked_found b f v d;
        iv : v' ≡ asked_iv b f v d;
        due : d' ≡ asked_due b f v d;
      }

  pub ask_refused : (e : Refusal) {r : Result Unit Refusal} → r ≡ Err e → refusal_number e ≡ asked_answer b f v d → Asked r f v d
  unfolding asked_found asked_iv asked_due
  ask_refused e q k =
      let h = Refused.refused e in
      let t : Asked (Err e) f v d =
      record {
        answer = k;
        found = unwritten k 1 (flag (next_found b) ∷ []) f h;
        iv = either (next_found b) (unwritten k 16 (next_iv b) v h);
        due = either (next_found b) (unwritten k 8 (little 8 (next_due b)) d h);
      } in
      subst (λ (r : Result Unit Refusal). Asked r f v d) (sym q) t

  module _ (e : 0 ≡ asked_answer b f v d) (l : 1 ≤ length f) where
    flagged : {h : Bool} {f' : List ℕ} → h ≡ next_found b → f' ≡ set f 0 (flag h) → f' ≡ asked_found b f v d
    unfolding asked_found
    flagged {h} he p =
        p ∙ ap (λ (x : Bool). set f 0 (flag x)) he ∙ set_first f (flag (next_found b)) l ∙ accepted e (flag (next_found b) ∷ drop 1 f) f

    pub ask_nobody : false ≡ next_found b → {f' : List ℕ} → f' ≡ set f 0 0 → Asked (Ok tt) f' v d
    unfolding asked_iv asked_due
    ask_nobody he p = record { answer = e; found = flagged he p; iv = rw (← he); due = rw (← he) }

    pub ask_told : true ≡ next_found b → {f' v' d' n : List ℕ} {k : ℕ} → n ≡ next_iv b → k ≡ next_due b → f' ≡ set f 0 1 → v' ≡ n ++ drop 16 v
        → d' ≡ little 8 k ++ drop 8 d → Asked (Ok tt) f' v' d'
    unfolding asked_iv asked_due
    ask_told he ne ke p q r =
        record {
          answer = e;
          found = flagged he p;
          iv = rw (← he) (q ∙ ap (λ (y : List ℕ). y ++ drop 16 v) ne ∙ accepted e (next_iv b ++ drop 16 v) v);
          due = rw (← he) (r ∙ ap (λ (m : ℕ). little 8 m ++ drop 8 d) ke ∙ accepted e (little 8 (next_due b) ++ drop 8 d) d);
        }

-- ---- the four buffers of a turn

pub record Roomy (f : Buffers) : Type 0 where
  pub all : rooms f ≡ 0
  pub iv_room : 16 ≤ length f.iv
  pub turn_room : 8 ≤ length f.turn
  pub done_room : 1 ≤ length f.done
  pub tag_room : 16 ≤ length f.tag

pub all_rooms : (f : Buffers) {x : Bool} → x ≡ eqb (rooms f) 0 → not x ≡ false → Roomy f
all_rooms f {x} e h =
    let z : rooms f ≡ 0 = eqb-true (rooms f) 0 (sym e ∙ not_false x h) in
    let p = refuse_none (ltb (length f.iv) 16) 4 (room 8 f.turn (room 1 f.done (room 16 f.tag 0))) (lit< tt) z in
    let q = refuse_none (ltb (length f.turn) 8) 4 (room 1 f.done (room 16 f.tag 0)) (lit< tt) p.1 in
    let r = refuse_none (ltb (length f.done) 1) 4 (room 16 f.tag 0) (lit< tt) q.1 in
    let s = refuse_none (ltb (length f.tag) 16) 4 0 (lit< tt) r.1 in
    record {
      all = z;
      iv_room = ltb-false (length f.iv) 16 p.0;
      turn_room = ltb-false (length f.turn) 8 q.0;
      done_room = ltb-false (length f.done) 1 r.0;
      tag_room = ltb-false (length f.tag) 16 s.0;
    }
  where
    not_false : (x : Bool) → not x ≡ false → x ≡ true
    not_false true h = refl
    not_false false h = absurd (true≢false h)

-- 4 or nothing
pub short_rooms : (f : Buffers) {x : Bool} → x ≡ eqb (rooms f) 0 → not x ≡ true → rooms f ≡ 4
short_rooms f {x} e h = go (ltb (length f.iv) 16) (ltb (length f.turn) 8) (ltb (length f.done) 1) (ltb (length f.tag) 16) (ap not (sym e) ∙ h)
  where
    go : (a b c d : Bool) → not (eqb (refuse a 4 (refuse b 4 (refuse c 4 (refuse d 4 0)))) 0) ≡ true → refuse a 4 (refuse b 4 (refuse c 4 (refuse d 4 0))) ≡ 4
    go true b c d h = refl
    go false true c d h = refl
    go false false true d h = refl
    go false false false true h = refl
    go false false false false h = absurd (true≢false (sym h))

-- ---- a turn

not_served : (o : Outcome) → ¬ (answer o ≡ 0) → is_served o ≡ false
not_served idle h = refl
not_served (Outcome.refused n) h = refl
not_served (served v) h = absurd (h refl)

-- next of a call and 4 is no 0
never_zero : (n : ℕ) → ¬ (next n 4 ≡ 0)
never_zero n e =
    on_test (eqb n 0) (λ t. let z : 4 ≡ 0 = rw t at e in omega arith)
    (λ f. let z : n ≡ 0 = rw f at e in true≢false (sym (eq-eqb n 0 z) ∙ f))

module _ (b p o : List ℕ) (f : Buffers) where
  abbrev pub Turned : Result Unit Refusal → (after o' iv' turn' done' tag' : List ℕ) → Type 0
  Turned r after o' iv' turn' done' tag' =
      record {
        answer : answer_number r ≡ turned_answer b p o f;
        scheduler : TurnedLeaves b p o f after;
        out : o' ≡ turned_out b p o f;
        iv : iv' ≡ turned_iv b p o f;
        turn : turn' ≡ turned_turn b p o f;
        done : done' ≡ turned_done b p o f;
        tag : tag' ≡ turned_tag b p o f;
      }

  -- nothing is said
  silent : (e : Refusal) {after o' : List ℕ} → refusal_number e ≡ turned_answer b p o f → TurnedLeaves b p o f after → o' ≡ turned_out b p o f
      → Turned (Err e) after o' f.iv f.turn f.done f.tag
  unfolding turned_iv turned_turn turned_done turned_tag
  silent e k l w =
      let h = Refused.refused e in
      let u = turn_outcome b p o in
      record {
        answer = k;
        scheduler = l;
        out = w;
        iv = either_left (eqb (numbered u) 0) (unwritten k 16 (whom u) f.iv h);
        turn = unwritten k 8 (little 8 (numbered u)) f.turn h;
        done = unwritten k 1 (flag (finished u) ∷ []) f.done h;
        tag = either (finished u) (unwritten k 16 (tag u) f.tag h);
      }

  module _ (e : Refusal) (k : refusal_number e ≡ turned_answer b p o f) where
    none : eqb (turned_answer b p o f) 0 ≡ false
    none = ne_eqb (turned_answer b p o f) 0 (λ z. Refused.refused e (k ∙ z))

    kept_out : o ≡ turned_out b p o f
    unfolding turned_out
    kept_out = refused k (turn_writes b p o) o (Refused.refused e)

  -- refused below, which wrote nothing
  pub turn_refused : (e : Refusal) {r : Result Unit Refusal} → r ≡ Err e → refusal_number e ≡ answer (turn_outcome b p o) → {after o' : List ℕ} → TurnLeaves b p o after
      → o' ≡ turn_writes b p o → Turned r after o' f.iv f.turn f.done f.tag
  unfolding turned_answer
  turn_refused e {r} q k {after} {o'} l w =
      let h = Refused.refused e in
      let a = passed (rooms f) k h in
      let s = not_served (turn_outcome b p o) (λ z. h (k ∙ z)) in
      let t : Turned (Err e) after o' f.iv f.turn f.done f.tag =
      silent e a (record { bytes = rw (none e a) (rw s at l.bytes); lists = rw (none e a) (rw s at l.lists) })
      (w ∙ refused_writes b p o (λ z. h (k ∙ z)) ∙ kept_out e a) in
      subst (λ (x : Result Unit Refusal). Turned x after o' f.iv f.turn f.done f.tag) (sym q) t

  -- no room
  pub turn_short : (e : Refusal) → refusal_number e ≡ next (answer (turn_outcome b p o)) 4 → rooms f ≡ 4 → Turned (Err e) b o f.iv f.turn f.done f.tag
  unfolding turned_answer
  turn_short e k z =
      let a : refusal_number e ≡ turned_answer b p o f = k ∙ ap (next (answer (turn_outcome b p o))) (sym z) in
      silent e a (record { bytes = rw (none e a); lists = rw (none e a) }) (kept_out e a)

  -- and told
  module _ (z : 0 ≡ answer (turn_outcome b p o)) (m : rooms f ≡ 0) (ld : 1 ≤ length f.done) where
    told : {h : Bool} {after o' iv' turn' done' tag' : List ℕ} → TurnLeaves b p o after → o' ≡ turn_writes b p o → h ≡ finished (turn_outcome b p o)
        → iv' ≡ pick (eqb (numbered (turn_outcome b p o)) 0) f.iv (whom (turn_outcome b p o) ++ drop 16 f.iv)
        → turn' ≡ little 8 (numbered (turn_outcome b p o)) ++ drop 8 f.turn → done' ≡ set f.done 0 (flag h)
        → tag' ≡ pick (finished (turn_outcome b p o)) (tag (turn_outcome b p o) ++ drop 16 f.tag) f.tag → Turned (Ok tt) after o' iv' turn' done' tag'
    unfolding turned_answer turned_out turned_iv turned_turn turned_done turned_tag
    told {h} l w he pi pt pd pg =
        let u = turn_outcome b p o in
        let a : 0 ≡ next (answer u) (rooms f) = lacking (rooms f) z refl (sym m) in
        let t : eqb (next (answer u) (rooms f)) 0 ≡ true = eq-eqb (next (answer u) (rooms f)) 0 (sym a) in
        record {
          answer = a;
          scheduler = rw t l;
          out = w ∙ accepted a (turn_writes b p o) o;
          iv = pi ∙ ap (pick (eqb (numbered u) 0) f.iv) (accepted a (whom u ++ drop 16 f.iv) f.iv);
          turn = pt ∙ accepted a (little 8 (numbered u) ++ drop 8 f.turn) f.turn;
          done = pd ∙ ap (λ (x : Bool). set f.done 0 (flag x)) he ∙ set_first f.done (flag (finished u)) ld ∙ accepted a (flag (finished u) ∷ drop 1 f.done) f.done;
          tag = pg ∙ ap (λ (y : List ℕ). pick (finished u) y f.tag) (accepted a (tag u ++ drop 16 f.tag) f.tag);
        }

    pub turn_nobody : 0 ≡ numbered (turn_outcome b p o) → false ≡ finished (turn_outcome b p o) → {after o' turn' done' : List ℕ} → TurnLeaves b p o after
        → o' ≡ turn_writes b p o → turn' ≡ little 8 0 ++ drop 8 f.turn → done' ≡ set f.done 0 0 → Turned (Ok tt) after o' f.iv turn' done' f.tag
    turn_nobody ne he l w pt pd =
        told l w he (rw (eq-eqb (numbered (turn_outcome b p o)) 0 (sym ne))) (pt ∙ ap (λ (n : ℕ). little 8 n ++ drop 8 f.turn) ne) pd (rw (← he))

    module _ (some : true ≡ is_served (turn_outcome b p o)) {n : ℕ} {v : List ℕ} (ne : n ≡ numbered (turn_outcome b p o)) (ve : v ≡ whom (turn_outcome b p o)) where
      iv_told : {iv' : List ℕ} → iv' ≡ v ++ drop 16 f.iv → iv' ≡ pick (eqb (numbered (turn_outcome b p o)) 0) f.iv (whom (turn_outcome b p o) ++ drop 16 f.iv)
      iv_told pi = rw (served_numbered b p o (sym some)) (pi ∙ ap (λ (y : List ℕ). y ++ drop 16 f.iv) ve)

      turn_told : {turn' : List ℕ} → turn' ≡ little 8 n ++ drop 8 f.turn → turn' ≡ little 8 (numbered (turn_outcome b p o)) ++ drop 8 f.turn
      turn_told pt = pt ∙ ap (λ (k : ℕ). little 8 k ++ drop 8 f.turn) ne

      pub turn_unfinished : false ≡ finished (turn_outcome b p o) → {after o' iv' turn' done' : List ℕ} → TurnLeaves b p o after → o' ≡ turn_writes b p o
          → iv' ≡ v ++ drop 16 f.iv → turn' ≡ little 8 n ++ drop 8 f.turn → done' ≡ set f.done 0 0 → Turned (Ok tt) after o' iv' turn' done' f.tag
      turn_unfinished he l w pi pt pd = told l w he (iv_told pi) (turn_told pt) pd (rw (← he))

      pub turn_finished : true ≡ finished (turn_outcome b p o) → {g : List ℕ} → g ≡ tag (turn_outcome b p o) → {after o' iv' turn' done' tag' : List ℕ}
          → TurnLeaves b p o after → o' ≡ turn_writes b p o → iv' ≡ v ++ drop 16 f.iv → turn' ≡ little 8 n ++ drop 8 f.turn → done' ≡ set f.done 0 1
          → tag' ≡ g ++ drop 16 f.tag → Turned (Ok tt) after o' iv' turn' done' tag'
      turn_finished he ge l w pi pt pd pg = told l w he (iv_told pi) (turn_told pt) pd (rw (← he) (pg ∙ ap (λ (y : List ℕ). y ++ drop 16 f.tag) ge))
