-- `scheduler::next_place` meets its contract: at each turn the best so far is the next among the places looked at (`place_more`).
use mathlib.Core.Path.{◌≡◌, refl, sym, ap, subst, ◌∙◌}
use mathlib.Core.List.{List, [], ◌∷◌, ◌++◌}
use mathlib.Core.Bool.{Bool}
use Prim.Native.Nat.{ℕ, ◌+◌, ◌*◌, ◌≤◌}
use native.Mathlib.Omega.{arith}
use lib.ListN.{drop}
use Rattle.scope.specs.Refusals.{pick}
use Rattle.words.specs.Bytes.{part}
use Rattle.scheduler.specs.Scheduler.{Stay, scheduler_order, goes_before, place, at}
use Rattle.scheduler.specs.Bytes.{stay_in, stays_in}
use Rattle.scheduler.specs.Inner.{stay_at}
use Rattle.scheduler.proofs.Places.{stays_long, stays_more, stays_at}
use Rattle.scheduler.proofs.Order.{place_more}
use Rattle.scheduler.proofs.Reading.{place_there}
use Rattle.scheduler.proofs.next_place.Goals as goal
use Rattle.scheduler.proofs.next_place.Goals.{then-comes_before, else-comes_before}

pub loop-i-init : goal.loop-i-init
unfolding stays_in place
loop-i-init c = (omega arith, refl)

-- one place more
turn : (s : List ℕ) (i best : ℕ) (b : Bool) → best ≤ i → best ≡ place scheduler_order (stays_in i (drop 16 s))
    → b ≡ goes_before scheduler_order (stay_at s i) (stay_at s best) → pick b i best ≡ place scheduler_order (stays_in (i + 1) (drop 16 s))
turn s i best b h e p =
    let l = stays_in i (drop 16 s) in
    let y = stay_in (part (256 * i) 256 (drop 16 s)) in
    let q : at (l ++ (y ∷ [])) best ≡ stay_at s best =
    ap (λ (m : List Stay). at m best) (sym (stays_more i (drop 16 s))) ∙ stays_at (i + 1) best (drop 16 s) (omega arith) ∙ place_there s best in
    let t : b ≡ goes_before scheduler_order y (at (l ++ (y ∷ [])) (place scheduler_order l)) =
    p ∙ (λ k. goes_before scheduler_order (sym (place_there s i) k) (sym q k)) ∙ ap (λ (j : ℕ). goes_before scheduler_order y (at (l ++ (y ∷ [])) j)) e in
    (λ k. pick (t k) (sym (stays_long i (drop 16 s)) k) (e k))
    ∙ sym (place_more scheduler_order l y)
    ∙ ap (place scheduler_order) (sym (stays_more i (drop 16 s)))

pub loop-i-preserved : goal.loop-i-preserved
loop-i-preserved c =
    let l = c.loop-i in
    let s = c.args.s.now in
    let t = turn s l.i l.best c.comes_before.result l.invariant.0 l.invariant.1 c.comes_before.ensures in
    elim c.if-comes_before.branch [
      | then-comes_before w ↦ (omega (arith, w.best-is), w.best-is ∙ subst (λ (b : Bool). pick b l.i l.best ≡ place scheduler_order (stays_in (l.i + 1) (drop 16 s))) w.if-comes_before.true t)
      | else-comes_before w ↦ (omega (arith, w.best-is), w.best-is ∙ subst (λ (b : Bool). pick b l.i l.best ≡ place scheduler_order (stays_in (l.i + 1) (drop 16 s))) w.if-comes_before.false t)
    ]
