-- A joiner changes who is next only where it comes before the next. By joining order it never does: its mark is the turns done, and no mark is above that.
use mathlib.Core.Path.{◌≡◌, refl, ◌∙◌}
use mathlib.Core.List.{List, [], ◌∷◌, ◌++◌}
use mathlib.Core.Bool.{false}
use Prim.Native.Nat.{ℕ, ◌<◌}
use lib.Dec.{eqb}
use lib.ListN.{length, get_or-append}
use Rattle.claims.specs.Lists.{Bytes}
use Rattle.scheduler.specs.Scheduler.{Stay, Scheduler, Order, joining_order, goes_before, place, nobody, at, next}
use Rattle.scheduler.specs.Calls.{join_number, newcomer, join_call}
use Rattle.scheduler.proofs.Order.{of_picked, is_there, place_more}
use Rattle.claims_scheduler.specs.Lists.{Call, after}
use Rattle.claims_scheduler.specs.Fairness.{Steady}
use Rattle.claims_scheduler.proofs.Least.{comes_later}
use Rattle.claims_scheduler.proofs.Turns.{next_among}
use Rattle.claims_scheduler.proofs.Calls.{after_good}

place_behind : (o : Order) (y : Stay) (l : List Stay) → 0 < length l → goes_before o y (at l (place o l)) ≡ false
    → place o (l ++ (y ∷ [])) ≡ place o l
place_behind o y l h e = place_more o l y ∙ rw (get_or-append l (y ∷ []) nobody (place o l) (is_there o l h), e)

next_stays : (cs : List Call) (key iv : Bytes) (n : ℕ) → 0 < length (after joining_order cs).scheduler.stays
    → next joining_order (join_call (after joining_order cs).scheduler key.list iv.list n) ≡ next joining_order (after joining_order cs).scheduler
unfolding join_call
next_stays cs key iv n h =
    let s = (after joining_order cs).scheduler in
    let x = next joining_order s in
    let y = newcomer s key.list iv.list n in
    let m = ((after_good joining_order cs).kept.each x (next_among joining_order s h)).past in
    of_picked (λ (g : Scheduler). next joining_order g ≡ x) (eqb (join_number s key.list iv.list n) 0)
    (λ e. rw (place_behind joining_order y s.stays h (comes_later y x m))
    (get_or-append s.stays (y ∷ []) nobody (place joining_order s.stays) (is_there joining_order s.stays h)))
    (λ e. refl)

pub steady : Steady joining_order
steady = record { next_stays = next_stays }
