-- `scheduler::add_stay` meets its contract: the new stay is written behind the others.
use mathlib.Core.Path.{◌≡◌, sym, ap, ap₂, subst, ◌∙◌}
use mathlib.Core.Bool.{true}
use mathlib.Core.List.{List, [], ◌∷◌, ◌++◌}
use Prim.Native.Nat.{ℕ, ◌+◌, ◌*◌}
use native.Mathlib.Omega.{arith}
use borrow.Author.Tests.{eq-eqb}
use lib.Dec.{eqb}
use lib.ListN.{length}
use lib.Seq.{sets}
use Rattle.words.proofs.Typed.{known_bytes}
use Rattle.scope.proofs.Refused as Refused
use Rattle.start.specs.Start.{start_number}
use Rattle.session.specs.Session.{Session}
use Rattle.session.specs.Calls.{begin_call}
use Rattle.session.specs.Machine.{session_of}
use Rattle.bytes_c.specs.SessionBytes.{session_bytes}
use Rattle.scheduler.specs.Scheduler.{Stay}
use Rattle.scheduler.specs.Calls.{newcomer, join_call, join_number}
use Rattle.scheduler.specs.Bytes.{stay_bytes, scheduler_in, Leaves, join_answer}
use Rattle.scheduler.proofs.Looking.{join_whole}
use Rattle.scheduler.proofs.Serving.{joining}
use Rattle.scheduler.proofs.add_stay.Goals as goal

-- neither length is refused any more
begins : (key iv : List ℕ) → length key ≡ 32 → length iv ≡ 16 → (begin_call key iv).number ≡ 0
unfolding begin_call start_number
begins key iv k v = rw (eq-eqb (length key) 32 k, eq-eqb (length iv) 16 v)

pub returns-in_err-fresh : goal.returns-in_err-fresh
returns-in_err-fresh c =
    let a = c.args in
    let e = c.in_err-fresh.field-0.0 in
    absurd (Refused.refused e (c.in_err-fresh.ensures ∙ begins a.key.now a.iv.now c.requires.1 c.requires.2))

-- an accepted joining
accepts : (b key iv : List ℕ) (n : ℕ) → length b ≡ 8208 → 0 ≡ join_answer b key iv n → (x : Stay) → x ≡ newcomer (scheduler_in b) key iv n → {b2 : List ℕ}
    → Leaves true (record { turns = (scheduler_in b).turns; stays = (scheduler_in b).stays ++ (x ∷ []) }) b b2
    → Leaves (eqb (join_answer b key iv n) 0) (join_call (scheduler_in b) key iv n) b b2
unfolding join_call
accepts b key iv n long e x xe {b2} l =
    let d : eqb (join_answer b key iv n) 0 ≡ true = eq-eqb (join_answer b key iv n) 0 (sym e) in
    let f : eqb (join_number (scheduler_in b) key iv n) 0 ≡ true = eq-eqb (join_number (scheduler_in b) key iv n) 0 (sym (join_whole b key iv n long) ∙ sym e) in
    rw (d, f) (subst (λ (y : Stay). Leaves true (record { turns = (scheduler_in b).turns; stays = (scheduler_in b).stays ++ (y ∷ []) }) b b2) xe l)

pub returns : goal.returns
unfolding scheduler_in
returns c =
    let a = c.args in
    let s = a.scheduler.now in
    let key = a.key.now in
    let iv = a.iv.now in
    let e = c.requires.6 in
    let x : Stay = record { session = session_bytes (session_of c.in_ok-fresh.fresh); left = a.text; mark = c.get-turns.result } in
    let xe : x ≡ newcomer (scheduler_in s) key iv a.text =
    ap₂ (λ (u : Session) (m : ℕ). record { session = session_bytes u; left = a.text; mark = m }) c.in_ok-fresh.ensures.1 c.get-turns.ensures.0 in record {
      answer = e;
      scheduler = accepts s key iv a.text c.requires.0 e x xe
          (joining s (known_bytes s c.slice_known-1.given) c.requires.0 x
          (record { session_long = c.put_stay.ensures.1; left_fits = omega (arith, c.requires.3); mark_fits = c.get-turns.ensures.1 }) (omega (arith, c.requires.4, c.requires.5)) c.get-turns.ensures.0
          (ap (λ (m : ℕ). m + 1) c.requires.4)
          (c.put_stay.ensures.0 ∙ ap (λ (m : ℕ). sets s (16 + 256 * m) (stay_bytes x)) c.requires.4) c.put_head.ensures);
    }
