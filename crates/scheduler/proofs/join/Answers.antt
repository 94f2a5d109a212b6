-- `scheduler::join` meets its contract, by its tests in their order, and for an accepted joining by `add_stay`.
use mathlib.Core.Path.{◌≡◌, sym, ap₂, ◌∙◌}
use mathlib.Core.Bool.{Bool}
use mathlib.Core.List.{List}
use Prim.Native.Nat.{ℕ, ◌<◌}
use native.Mathlib.Omega.{arith}
use lib.ListN.{length, drop}
use lib.Seq.{take_all}
use Rattle.words.specs.Bytes.{part}
use Rattle.words.specs.Machine.{bytes_of}
use Rattle.scope.specs.declared.Refusal.TheVariants.{KeyLength, IvLength, TooLong, BadBlock, NumberTaken, SchedulerFull}
use Rattle.scheduler.specs.Scheduler.{present}
use Rattle.scheduler.specs.Bytes.{stays_in, how_many, scheduler_in}
use Rattle.scheduler.proofs.Looking.{joins_refused, join_torn, join_key, join_iv, join_no_text, join_over, join_full, join_present, join_right}
use Rattle.scheduler.proofs.join.Goals as goal

pub returns-then-scheduler-ne-SCHEDULER_BYTES : goal.returns-then-scheduler-ne-SCHEDULER_BYTES
returns-then-scheduler-ne-SCHEDULER_BYTES c =
    let a = c.args in
    joins_refused a.scheduler.now a.key.now a.iv.now a.length BadBlock
    (join_torn a.scheduler.now a.key.now a.iv.now a.length c.if-scheduler-ne-SCHEDULER_BYTES.true)

pub returns-then-key-ne32 : goal.returns-then-key-ne32
returns-then-key-ne32 c =
    let a = c.args in
    joins_refused a.scheduler.now a.key.now a.iv.now a.length KeyLength
    (join_key a.scheduler.now a.key.now a.iv.now a.length c.if-scheduler-ne-SCHEDULER_BYTES.false c.if-key-ne32.true)

pub returns-then-iv-ne16 : goal.returns-then-iv-ne16
returns-then-iv-ne16 c =
    let a = c.args in
    joins_refused a.scheduler.now a.key.now a.iv.now a.length IvLength
    (join_iv a.scheduler.now a.key.now a.iv.now a.length c.if-scheduler-ne-SCHEDULER_BYTES.false c.if-key-ne32.false c.if-iv-ne16.true)

pub returns-then-length-eq0 : goal.returns-then-length-eq0
returns-then-length-eq0 c =
    let a = c.args in
    joins_refused a.scheduler.now a.key.now a.iv.now a.length TooLong
    (join_no_text a.scheduler.now a.key.now a.iv.now a.length c.if-scheduler-ne-SCHEDULER_BYTES.false c.if-key-ne32.false c.if-iv-ne16.false c.if-length-eq0.true)

pub returns-then-length-gt-MOST_TEXT : goal.returns-then-length-gt-MOST_TEXT
returns-then-length-gt-MOST_TEXT c =
    let a = c.args in
    joins_refused a.scheduler.now a.key.now a.iv.now a.length TooLong
    (join_over a.scheduler.now a.key.now a.iv.now a.length c.if-scheduler-ne-SCHEDULER_BYTES.false c.if-key-ne32.false c.if-iv-ne16.false c.if-length-eq0.false c.if-length-gt-MOST_TEXT.true)

pub returns-then-n-ge-MOST_STAYS : goal.returns-then-n-ge-MOST_STAYS
returns-then-n-ge-MOST_STAYS c =
    let a = c.args in
    joins_refused a.scheduler.now a.key.now a.iv.now a.length SchedulerFull
    (join_full a.scheduler.now a.key.now a.iv.now a.length c.if-scheduler-ne-SCHEDULER_BYTES.false c.if-key-ne32.false c.if-iv-ne16.false c.if-length-eq0.false c.if-length-gt-MOST_TEXT.false
    (omega (arith, c.stays-n.ensures.0, c.if-n-ge-MOST_STAYS.true)))

-- what was looked for among the places is the number among the stays
looked : (b iv v : List ℕ) (n : ℕ) (r : Bool) → length iv ≡ 16 → n ≡ how_many b → v ≡ part 0 16 iv → r ≡ present v (stays_in n (drop 16 b))
    → r ≡ present iv (scheduler_in b).stays
unfolding scheduler_in
looked b iv v n r l ne ve e = e ∙ ap₂ (λ (u : List ℕ) (k : ℕ). present u (stays_in k (drop 16 b))) (ve ∙ take_all 16 iv (omega arith)) ne

pub returns-then-present : goal.returns-then-present
returns-then-present c =
    let a = c.args in
    let s = a.scheduler.now in
    let f = looked s a.iv.now (bytes_of c.load.result) c.stays-n.result c.present.result c.if-iv-ne16.false c.stays-n.ensures.0 c.load.ensures c.present.ensures in
    joins_refused s a.key.now a.iv.now a.length NumberTaken
    (join_present s a.key.now a.iv.now a.length c.if-scheduler-ne-SCHEDULER_BYTES.false c.if-key-ne32.false c.if-iv-ne16.false c.if-length-eq0.false c.if-length-gt-MOST_TEXT.false
    (omega (arith, c.stays-n.ensures.0, c.if-n-ge-MOST_STAYS.false)) (sym f ∙ c.if-present.true))

pub add_stay-requires : goal.add_stay-requires
add_stay-requires c =
    let a = c.args in
    let s = a.scheduler.now in
    let f = looked s a.iv.now (bytes_of c.load.result) c.stays-n.result c.present.result c.if-iv-ne16.false c.stays-n.ensures.0 c.load.ensures c.present.ensures in
    let room : how_many s < 32 = omega (arith, c.stays-n.ensures.0, c.if-n-ge-MOST_STAYS.false) in (
      c.if-scheduler-ne-SCHEDULER_BYTES.false,
      c.if-key-ne32.false,
      c.if-iv-ne16.false,
      omega (arith, c.if-length-gt-MOST_TEXT.false),
      c.stays-n.ensures.0,
      omega (arith, c.if-n-ge-MOST_STAYS.false),
      join_right s a.key.now a.iv.now a.length c.if-scheduler-ne-SCHEDULER_BYTES.false c.if-key-ne32.false c.if-iv-ne16.false c.if-length-eq0.false c.if-length-gt-MOST_TEXT.false room
          (sym f ∙ c.if-present.false),
    )
