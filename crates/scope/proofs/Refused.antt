-- No refusal has the number of an accepted call, so that an answer is a refusal exactly where its number is not 0.
use Rattle.std.specs.Prelude.{ℕ, ◌≡◌, Result, Ok, Err}
use Rattle.std.specs.Result.{IsOk}
use Rattle.std.proofs.Common.{refl, ◌∙◌, subst, arith}
use Rattle.scope.specs.declared.Refusal.{Refusal}
use Rattle.scope.specs.declared.Refusal.TheVariants.{KeyLength, IvLength, TooLong, ShortOutput, BadTag, NoOrigin, OutOfPhase, BadBlock, CountTooHigh, TagLength, Malformed, DayRange, BadFile, BadStay, BeforeStart, NumberTaken, NoKey, RangeOrder, SchedulerFull}
use Rattle.scope.specs.Machine.{refusal_number, answer_number, Answers}

pub refused : (e : Refusal) → ¬ (refusal_number e ≡ 0)
refused KeyLength h = omega arith
refused IvLength h = omega arith
refused TooLong h = omega arith
refused ShortOutput h = omega arith
refused BadTag h = omega arith
refused NoOrigin h = omega arith
refused OutOfPhase h = omega arith
refused BadBlock h = omega arith
refused CountTooHigh h = omega arith
refused TagLength h = omega arith
refused Malformed h = omega arith
refused DayRange h = omega arith
refused BadFile h = omega arith
refused BadStay h = omega arith
refused BeforeStart h = omega arith
refused NumberTaken h = omega arith
refused NoKey h = omega arith
refused RangeOrder h = omega arith
refused SchedulerFull h = omega arith

-- 6 is NoOrigin's alone
pub no_origin : (e : Refusal) → refusal_number e ≡ 6 → e ≡ NoOrigin
no_origin KeyLength h = absurd (omega arith)
no_origin IvLength h = absurd (omega arith)
no_origin TooLong h = absurd (omega arith)
no_origin ShortOutput h = absurd (omega arith)
no_origin BadTag h = absurd (omega arith)
no_origin NoOrigin h = refl
no_origin OutOfPhase h = absurd (omega arith)
no_origin BadBlock h = absurd (omega arith)
no_origin CountTooHigh h = absurd (omega arith)
no_origin TagLength h = absurd (omega arith)
no_origin Malformed h = absurd (omega arith)
no_origin DayRange h = absurd (omega arith)
no_origin BadFile h = absurd (omega arith)
no_origin BadStay h = absurd (omega arith)
no_origin BeforeStart h = absurd (omega arith)
no_origin NumberTaken h = absurd (omega arith)
no_origin NoKey h = absurd (omega arith)
no_origin RangeOrder h = absurd (omega arith)
no_origin SchedulerFull h = absurd (omega arith)

module _ {A : Type 0} (n : ℕ) (P : A → Type 0) where
  pub accepted : (r : Result A Refusal) → Answers r n P → n ≡ 0 → IsOk r
  accepted (Ok a) h z = refl
  accepted (Err e) h z = absurd (refused e (h ∙ z))

  pub given : {r : Result A Refusal} (a : A) → r ≡ Ok a → Answers r n P → (0 ≡ n) × P a
  given a e h = subst (λ (r : Result A Refusal). Answers r n P) e h

pub is_accepted : {A : Type 0} (r : Result A Refusal) → answer_number r ≡ 0 → IsOk r
is_accepted (Ok a) z = refl
is_accepted (Err e) z = absurd (refused e z)
