-- Which number of the documents each refusal of the code has, and what a call answers in their terms: a number, 0 where it is accepted, and then a value.
use Rattle.std.specs.Prelude.{ℕ, ◌≡◌, Result, Ok, Err}
use Rattle.scope.specs.declared.Refusal.{Refusal}
use Rattle.scope.specs.declared.Refusal.TheVariants.{KeyLength, IvLength, TooLong, ShortOutput, BadTag, NoOrigin, OutOfPhase, BadBlock, CountTooHigh, TagLength, Malformed, DayRange, BadFile, BadStay, BeforeStart, NumberTaken, NoKey, RangeOrder, SchedulerFull}
use Rattle.scope.specs.Refusals

abbrev pub refusal_number : Refusal → ℕ
refusal_number KeyLength = Refusals.key_length
refusal_number IvLength = Refusals.iv_length
refusal_number TooLong = Refusals.too_long
refusal_number ShortOutput = Refusals.short_output
refusal_number BadTag = Refusals.bad_tag
refusal_number NoOrigin = Refusals.no_origin
refusal_number OutOfPhase = Refusals.out_of_phase
refusal_number BadBlock = Refusals.bad_block
refusal_number CountTooHigh = Refusals.count_too_high
refusal_number TagLength = Refusals.tag_length
refusal_number Malformed = Refusals.malformed
refusal_number DayRange = Refusals.day_range
refusal_number BadFile = Refusals.bad_file
refusal_number BadStay = Refusals.bad_stay
refusal_number BeforeStart = Refusals.before_start
refusal_number NumberTaken = Refusals.number_taken
refusal_number NoKey = Refusals.no_key
refusal_number RangeOrder = Refusals.range_order
refusal_number SchedulerFull = Refusals.scheduler_full

-- the number of an answer: 0 where the call is accepted
abbrev pub answer_number : {A : Type 0} → Result A Refusal → ℕ
answer_number (Ok a) = 0
answer_number (Err e) = refusal_number e

-- an answer has the number n, and where it is accepted a value of which this is so
abbrev pub Answers : {A : Type 0} → Result A Refusal → (n : ℕ) → (A → Type 0) → Type 0
Answers (Ok a) n P = (0 ≡ n) × P a
Answers (Err e) n P = refusal_number e ≡ n
