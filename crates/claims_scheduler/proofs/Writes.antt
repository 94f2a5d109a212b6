-- What a turn writes: of a numbered one it is what the session of the stay that it serves writes for the piece, a byte for each of its bytes; the others write nothing.
use Prim.Native.Nat.{ℕ}
use mathlib.Core.List.{List, [], ◌++◌}
use mathlib.Core.Path.{◌≡◌, refl, sym, ap, subst, ◌∙◌}
use native.Mathlib.Omega.{arith}
use lib.ListN.{length, take, drop}
use lib.Seq.{take_at}
use Rattle.session.specs.Session.{Session}
use Rattle.session.specs.Pieces.{closed, text_out}
use Rattle.session.specs.Calls.{text_call}
use Rattle.session.proofs.Pieces.{out_length}
use Rattle.scheduler.specs.Scheduler.{Scheduler, session_for, Order, next}
use Rattle.scheduler.specs.Calls.{Service, Outcome, Outcome.idle, Outcome.refused, Outcome.served, TurnEnd, turn_call}
use Rattle.claims_scheduler.specs.Lists.{logged, after}
use Rattle.claims_scheduler.specs.Writes.{output, Says, Writes}
use Rattle.claims_scheduler.proofs.Turns.{Turning, Turning.unchanged, Turning.numbered, turning, served_as}

module _ (u : Session) (p out : List ℕ) (e : (text_call u p out).number ≡ 0) where
  -- a text call that is not refused
  given : (text_call u p out).out ≡ text_out (closed u) p ++ drop (length p) out
  unfolding text_call
  given = rw e

  front : take (length p) (text_call u p out).out ≡ text_out (closed u) p
  front = ap (take (length p)) given ∙ take_at (text_out (closed u) p) (drop (length p) out) (length p) (out_length (closed u) p)

module _ (o : Order) (s : Scheduler) (p out : List ℕ) where
  says : (v : Service) → (turn_call o s p out).outcome ≡ served v → Says s.turns p v
  says v e =
      let w = served_as o s p out v e in
      subst (Says s.turns p) w.says
      (record {
        number = refl;
        same_piece = refl;
        as_long = ap length (front (session_for (next o s)) p out w.how.taken) ∙ out_length (closed (session_for (next o s))) p;
      })

  writes : (turn_call o s p out).out ≡ output (turn_call o s p out).outcome p out
  writes = go (turn_call o s p out) (turning o s p out)
    where
      as_it_was : (w : Outcome) → logged w ≡ [] → out ≡ output w p out
      as_it_was idle e = refl
      as_it_was (refused n) e = refl
      as_it_was (served v) e = absurd (omega (arith, ap length e))

      go : (u : TurnEnd) → Turning o s p out u → u.out ≡ output u.outcome p out
      go u (unchanged w e) = as_it_was w e
      go u (numbered w) =
          let t = session_for (next o s) in
          given t p out w.taken ∙ ap (λ (l : List ℕ). l ++ drop (length p) out) (sym (front t p out w.taken))

pub writing : (o : Order) → Writes o
writing o =
    record {
      writes = λ cs p out. writes o (after o cs).scheduler p.list out.list;
      says = λ cs p out v. says o (after o cs).scheduler p.list out.list v;
    }
