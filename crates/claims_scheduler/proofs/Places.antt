-- Demand 3 of the scheduler's places. Every stay there holds the session of a list of a session's calls, from an accepted begin on, which sealed the pieces of its services. So what
-- demand 3 says of such lists holds of the places.
use Prim.Native.Nat.{ℕ, ◌<◌}
use mathlib.Core.List.{List, []}
use mathlib.Core.Path.{◌≡◌, sym, ap, ◌∙◌}
use native.Mathlib.Omega.{arith}
use lib.ListN.{length}
use Rattle.cipher.specs.State.{State}
use Rattle.start.specs.Start.{Mode.sealed}
use Rattle.start.specs.Leads.{Traced.origin}
use Rattle.start.specs.Trace.{trace}
use Rattle.session.specs.Session.{Session}
use Rattle.claims.specs.Lists as Sessions
use Rattle.claims.specs.Lists.{History.in_session, cipher_state, drawn}
use Rattle.claims.proofs.Demands.{one_stay_per_state}
use Rattle.scheduler.specs.Scheduler.{Stay, session_for, Order, at}
use Rattle.claims_scheduler.specs.Lists.{Call, after}
use Rattle.claims_scheduler.specs.ByItself.{Held, history, PlacesApart}
use Rattle.claims_scheduler.proofs.Sealing.{holds_session, holds_iv}
use Rattle.claims_scheduler.proofs.OneJoining.{one_joining}
use Rattle.claims_scheduler.proofs.Came.{Came}
use Rattle.claims_scheduler.proofs.Placed.{placed_at, one_by_one, all_placed}

module _ (o : Order) (cs : List Call) where
  abbrev stay : ℕ → Stay
  stay i = at (after o cs).scheduler.stays i

  come : (i : ℕ) → i < length (after o cs).scheduler.stays → Came o cs (stay i)
  come i h = placed_at o cs 0 (after o cs).scheduler.stays (all_placed o cs) i h

  every_place : (i : ℕ) → i < length (after o cs).scheduler.stays → Held o cs i
  every_place i h =
      let j = come i h in
      let l = j.holds.keyed in
      record {
        key = j.key;
        iv = j.iv;
        text = j.text;
        before = j.before;
        behind = j.behind;
        is = j.is;
        accepted = j.accepted;
        not_left = j.not_left;
        number = holds_iv j.key j.iv _ (stay i) j.holds;
        mark = j.mark;
        left = j.left;
        begun = one_stay_per_state.accepted (in_session j.key j.iv []) l.key_long l.iv_long;
        calls = j.holds.calls;
        session = holds_session j.key j.iv _ (stay i) j.holds;
        no_data = j.holds.no_data;
        sealed_text = j.holds.text_is;
      }

  in_order : (i j : ℕ) → i < j → j < length (after o cs).scheduler.stays → (a : Held o cs i) (b : Held o cs j) → length a.before < length b.before
  unfolding every_place come
  in_order i j e k a b =
      let h : i < length (after o cs).scheduler.stays = omega arith in
      omega (
        arith,
        one_by_one o cs 0 (after o cs).scheduler.stays (all_placed o cs) i j e h k,
        ap length (one_joining o cs i a (every_place i h)),
        ap length (one_joining o cs j b (every_place j k)),
      )

  module _ (i : ℕ) (a : Held o cs i) where
    state_is : (session_for (stay i)).state ≡ Sessions.state_after (history o cs i a)
    state_is = ap (λ (u : Session). u.state) a.session

    end_is : cipher_state (session_for (stay i)) ≡ Sessions.end (history o cs i a)
    end_is = ap cipher_state a.session

    registers_kept : (session_for (stay i)).state.registers ≡ cipher_state (session_for (stay i))
    registers_kept = ap (λ (t : State). t.registers) state_is ∙ one_stay_per_state.registers_kept (history o cs i a) a.begun ∙ sym end_is

    counted : (session_for (stay i)).state.count ≡ drawn (history o cs i a)
    counted = ap (λ (t : State). t.count) state_is ∙ one_stay_per_state.counted (history o cs i a) a.begun

    names : trace (session_for (stay i)).state a.key.list ≡ origin a.iv.list sealed
    names = ap (λ (t : State). trace t a.key.list) state_is ∙ one_stay_per_state.names (history o cs i a) a.begun

apart : (o : Order) (cs ds : List Call) (i j : ℕ) → (a : Held o cs i) (b : Held o ds j) → a.key.list ≡ b.key.list → ¬ (a.iv.list ≡ b.iv.list)
    → drawn (history o cs i a) ≡ drawn (history o ds j b)
    → ¬ (cipher_state (session_for (stay o cs i)) ≡ cipher_state (session_for (stay o ds j)))
apart o cs ds i j a b same_key differ same-drawn e =
    one_stay_per_state.apart (history o cs i a) (history o ds j b) a.begun b.begun same_key same-drawn (λ q. differ q.0)
    (sym (end_is o cs i a) ∙ e ∙ end_is o ds j b)

pub places_apart : (o : Order) → PlacesApart o
places_apart o =
    record {
      every_place = every_place o;
      one_joining = one_joining o;
      in_order = in_order o;
      apart = apart o;
      registers_kept = registers_kept o;
      counted = counted o;
      names = names o;
    }
