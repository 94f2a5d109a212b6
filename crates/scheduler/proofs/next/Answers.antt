-- `scheduler::next` meets its contract, by its tests in their order.
use mathlib.Core.Path.{◌≡◌, sym, ap, ◌∙◌}
use mathlib.Core.Bool.{false}
use mathlib.Core.List.{List}
use Prim.Native.Nat.{ℕ, min, ◌<◌}
use native.Mathlib.Omega.{arith}
use borrow.Author.Tests.{eq-eqb, ne_eqb}
use lib.ListN.{length}
use Rattle.scope.specs.Limits.{most_piece}
use Rattle.words.specs.Bytes.{zeros}
use Rattle.scheduler.specs.Scheduler.{iv_of, due}
use Rattle.scheduler.specs.Bytes.{next_answer, next_found, next_iv, next_due}
use Rattle.scheduler.proofs.Looking.{nobody_there, somebody_there, next_inside, next_is}
use Rattle.scheduler.proofs.next.Goals as goal
use Rattle.scheduler.proofs.next.Goals.{After-next_place-i}

answered : (b : List ℕ) → length b ≡ 8208 → 0 ≡ next_answer b
unfolding next_answer
answered b h = rw (eq-eqb (length b) 8208 h)

-- nobody is found
not_found : (b : List ℕ) → next_found b ≡ false → (false ≡ next_found b) × ((zeros ≡ next_iv b) × (0 ≡ next_due b))
unfolding next_iv next_due
not_found b e = (sym e, (rw e, rw e))

pub returns-then-scheduler-ne-SCHEDULER_BYTES : goal.returns-then-scheduler-ne-SCHEDULER_BYTES
unfolding next_answer next_found
returns-then-scheduler-ne-SCHEDULER_BYTES c =
    let s = c.args.scheduler.now in
    let e = ne_eqb (length s) 8208 c.if-scheduler-ne-SCHEDULER_BYTES.true in
    let p = not_found s (rw e) in
    record { answer = rw e; found = p.0; iv = p.1.0; due = p.1.1 }

pub returns-then-n-eq0 : goal.returns-then-n-eq0
unfolding next_found
returns-then-n-eq0 c =
    let s = c.args.scheduler.now in
    let long = c.if-scheduler-ne-SCHEDULER_BYTES.false in
    let p = not_found s (rw (eq-eqb (length s) 8208 long, nobody_there s (sym c.stays-n.ensures.0 ∙ c.if-n-eq0.true))) in
    record { answer = answered s long; found = p.0; iv = p.1.0; due = p.1.1 }

inside : (c : After-next_place-i) → (length c.args.scheduler.now ≡ 8208) × (c.next_place-i.result < 32)
inside c =
    let i = next_inside c.args.scheduler.now c.stays-n.ensures.0 c.if-n-eq0.false c.next_place-i.ensures in
    (c.if-scheduler-ne-SCHEDULER_BYTES.false, omega (arith, i, c.stays-n.ensures.0, c.stays-n.ensures.1))

pub returns : goal.returns
unfolding next_found next_iv next_due
returns c =
    let s = c.args.scheduler.now in
    let long = c.if-scheduler-ne-SCHEDULER_BYTES.false in
    let some = somebody_there s (λ z. c.if-n-eq0.false (c.stays-n.ensures.0 ∙ z)) in
    let x = sym (next_is s c.stays-n.ensures.0 c.if-n-eq0.false c.next_place-i.ensures) in record { answer = answered s long; found = rw (eq-eqb (length s) 8208 long, some); iv = rw (eq-eqb (length s) 8208 long, some) (c.to_bytes-iv.ensures ∙ c.iv_at.ensures ∙ ap iv_of x); due = rw (eq-eqb (length s) 8208 long, some) (c.due_of-due.ensures ∙ ap (min most_piece) c.left_at.ensures ∙ ap due x) }

pub iv_at-requires : goal.iv_at-requires
iv_at-requires c = inside (goal.at.iv_at-requires c).After-next_place-i

pub left_at-requires : goal.left_at-requires
left_at-requires c = inside (goal.at.left_at-requires c).After-next_place-i
