-- `scheduler::served` meets its contract, by whether anything is left.
use Rattle.std.specs.Prelude.{Some, Result, Ok, Err, IsOk}
use mathlib.Core.Path.{◌≡◌, refl, sym, ap, ◌∙◌}
use mathlib.Core.Bool.{true, false}
use Prim.Native.Nat.{◌-◌, ◌<◌}
use native.Mathlib.Omega.{arith}
use borrow.Author.Tests.{eq-eqb, ne_eqb, lt-ltb}
use lib.Dec.{eqb}
use Rattle.words.proofs.Rows.{Below}
use Rattle.words.proofs.Typed.{known_bytes}
use Rattle.scope.specs.declared.Refusal.{Refusal}
use Rattle.scope.proofs.Refused as Refused
use Rattle.session.specs.declared.Session as machine
use Rattle.session.specs.declared.Closing.{Closing}
use Rattle.session.specs.Session.{Session}
use Rattle.session.specs.Calls.{Finished, finish_number, finish_call}
use Rattle.session.specs.Machine.{session_of, finished_of}
use Rattle.scheduler.specs.Calls.{rest}
use Rattle.scheduler.specs.Bytes.{scheduler_in}
use Rattle.scheduler.specs.Inner.{stay_at}
use Rattle.scheduler.proofs.Serving.{staying, leaving}
use Rattle.scheduler.proofs.served.Goals as goal
use Rattle.scheduler.proofs.served.Goals.{After-slice_known-1}

bytes : (c : After-slice_known-1) → Below 256 c.args.s.now
bytes c = known_bytes c.args.s.now c.slice_known-1.given

-- a session that is not finished does not refuse to be
finishes : (r : Result Closing Refusal) (v : machine.Session) (u : Session) → u.phase < 2 → finished_of r v ≡ finish_call u → IsOk r
unfolding finish_call finish_number
finishes (Ok f) v u h e = refl
finishes (Err x) v u h e = absurd (Refused.refused x (ap (λ (z : Finished). z.number) e ∙ rw (lt-ltb u.phase 2 h)))

pub unwrap-requires : goal.unwrap-requires
unwrap-requires c = finishes c.finish.result c.finish.new.s (session_of c.args.u) c.requires.3 c.finish.ensures

pub returns-then-rest-ne0 : goal.returns-then-rest-ne0
unfolding scheduler_in
returns-then-rest-ne0 c =
    let s = c.args.s.now in
    let i = c.args.i in
    let u = session_of c.args.u in
    let r : c.left_at-left.result - c.due_of.result ≡ rest (stay_at s i) = omega (arith, c.left_at-left.ensures, c.due_of.ensures) in
    let none : eqb (rest (stay_at s i)) 0 ≡ false = ne_eqb (rest (stay_at s i)) 0 (λ z. c.if-rest-ne0.true (r ∙ z)) in record {
      says = record {
        turn = omega (arith, c.get-turn.ensures.0);
        iv = c.to_bytes-iv.ensures ∙ c.iv_at.ensures;
        tag = rw none;
      };
      bytes = staying s (bytes (goal.at.returns-then-rest-ne0 c).After-slice_known-1) c.requires.0 i c.requires.1 c.requires.2 u (omega (arith, c.get-turn.ensures.0)) c.stays-n.ensures.0 r c.if-rest-ne0.true
          c.put_stay.ensures.1 c.put_stay.ensures.0 c.put_head.ensures;
    }

pub returns : goal.returns
unfolding scheduler_in
returns c =
    let s = c.args.s.now in
    let i = c.args.i in
    let u = session_of c.args.u in
    let r : c.left_at-left.result - c.due_of.result ≡ rest (stay_at s i) = omega (arith, c.left_at-left.ensures, c.due_of.ensures) in
    let all : eqb (rest (stay_at s i)) 0 ≡ true = eq-eqb (rest (stay_at s i)) 0 (sym r ∙ c.if-rest-ne0.false) in record {
      says = record {
        turn = omega (arith, c.get-turn.ensures.0);
        iv = c.to_bytes-iv.ensures ∙ c.iv_at.ensures;
        tag = rw all (ap (λ (z : Finished). Some z.tag) (rw c.unwrap.ensures at c.finish.ensures));
      };
      bytes = leaving s (bytes (goal.at.returns c).After-slice_known-1) c.requires.0 i c.requires.1 c.requires.2 u (omega (arith, c.get-turn.ensures.0)) c.stays-n.ensures.0 r c.if-rest-ne0.false
          c.remove.ensures c.put_head-2.ensures;
    }
