-- `scheduler::look` meets its contract, by its tests in their order.
use mathlib.Core.Path.{◌≡◌, sym, ap, ◌∙◌}
use Prim.Native.Nat.{min}
use native.Mathlib.Omega.{arith}
use Rattle.scope.specs.Limits.{most_piece}
use Rattle.scheduler.specs.Scheduler.{Stay, scheduler_order, next, due}
use Rattle.scheduler.specs.Bytes.{how_many, scheduler_in}
use Rattle.scheduler.proofs.Looking.{nobody_there, somebody_there, next_at, next_inside, next_is, looked_torn, looked_idle, looked_late, looked_other, looked_due}
use Rattle.scheduler.proofs.look.Goals as goal
use Rattle.scheduler.proofs.look.Goals.{After-due_of, Else-k-eq0}

-- how many there are, and that somebody is
some : (c : Else-k-eq0) → ¬ (how_many c.args.s.now ≡ 0)
some c z = c.if-k-eq0.false (c.stays-k.ensures.0 ∙ z)

pub returns-then-s-ne-SCHEDULER_BYTES : goal.returns-then-s-ne-SCHEDULER_BYTES
returns-then-s-ne-SCHEDULER_BYTES c = let a = c.args in looked_torn a.s.now a.n c.if-s-ne-SCHEDULER_BYTES.true

pub returns-then-k-eq0 : goal.returns-then-k-eq0
returns-then-k-eq0 c =
    let a = c.args in
    let e = nobody_there a.s.now (sym c.stays-k.ensures.0 ∙ c.if-k-eq0.true) in
    (looked_idle a.s.now a.n c.if-s-ne-SCHEDULER_BYTES.false e, e)

pub returns-then-get-ge-MOST_TURNS : goal.returns-then-get-ge-MOST_TURNS
unfolding scheduler_in
returns-then-get-ge-MOST_TURNS c =
    let a = c.args in
    looked_late a.s.now a.n c.if-s-ne-SCHEDULER_BYTES.false (somebody_there a.s.now (some (goal.at.returns-then-get-ge-MOST_TURNS c).Else-k-eq0)) (omega (arith, c.get.ensures.0, c.if-get-ge-MOST_TURNS.true))

pub left_at-requires : goal.left_at-requires
left_at-requires c =
    let a = c.args in
    let i = next_inside a.s.now c.stays-k.ensures.0 c.if-k-eq0.false c.next_place-place.ensures in
    (c.if-s-ne-SCHEDULER_BYTES.false, omega (arith, i, c.stays-k.ensures.0, c.stays-k.ensures.1))

-- the length of the piece that is due
due_is : (c : After-due_of) → c.due_of.result ≡ due (next scheduler_order (scheduler_in c.args.s.now))
due_is c =
    let s = c.args.s.now in
    c.due_of.ensures ∙ ap (min most_piece) (c.left_at.ensures ∙ ap (λ (x : Stay). x.left) (sym (next_is s c.stays-k.ensures.0 c.if-k-eq0.false c.next_place-place.ensures)))

pub returns-then-n-due_of : goal.returns-then-n-due_of
unfolding scheduler_in
returns-then-n-due_of c =
    let a = c.args in
    looked_other a.s.now a.n c.if-s-ne-SCHEDULER_BYTES.false (somebody_there a.s.now (some (goal.at.returns-then-n-due_of c).Else-k-eq0)) (omega (arith, c.get.ensures.0, c.if-get-ge-MOST_TURNS.false))
    (λ z. c.if-n-due_of.true (z ∙ sym (due_is (goal.at.returns-then-n-due_of c).After-due_of)))

pub returns : goal.returns
unfolding scheduler_in
returns c =
    let a = c.args in
    let s = a.s.now in
    let some = somebody_there s (some (goal.at.returns c).Else-k-eq0) in (
      looked_due s a.n c.if-s-ne-SCHEDULER_BYTES.false some (omega (arith, c.get.ensures.0, c.if-get-ge-MOST_TURNS.false)) (c.if-n-due_of.false ∙ due_is (goal.at.returns c).After-due_of),
      (some, next_at s c.stays-k.ensures.0 c.if-k-eq0.false c.next_place-place.ensures),
    )
