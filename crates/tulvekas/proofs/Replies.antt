-- What is asked and had of a reply that is a date.
use mathlib.Core.Path.{◌≡◌, refl, sym, ap, ◌∙◌}
use mathlib.Core.List.{List}
use Prim.Native.Nat.{ℕ}
use Rattle.std.specs.Prelude.{Result}
use Rattle.scope.specs.declared.Refusal.{Refusal}
use Rattle.scope.specs.Machine.{refusal_number}
use Rattle.calendar.specs.declared.Date as machine
use Rattle.calendar.specs.Calendar.{Date}
use Rattle.calendar.specs.Calls.{Dated, Dated.dated}
use Rattle.calendar.specs.Machine.{dated_of}
use Rattle.calendar.specs.Inner.{Small}
use Rattle.bytes_c.specs.Replies.{reply_answer, reply_writes, date_reply}
use Rattle.bytes_c.specs.Machine.{dated_by}
use Rattle.bytes_c.specs.Inner.{FitsBytes}
use Rattle.bytes_c.proofs.Replies.{by_refusal_number, fits_whatever_number}

-- what is replied of a date is what is replied of the definition's
pub reply_same : (out : List ℕ) {s t : Dated} → s ≡ t → {r : ℕ} {after : List ℕ} → r ≡ reply_answer (date_reply s) out → after ≡ reply_writes (date_reply s) out
    → (r ≡ reply_answer (date_reply t) out) × (after ≡ reply_writes (date_reply t) out)
reply_same out e p q = (p ∙ ap (λ (x : Dated). reply_answer (date_reply x) out) e, q ∙ ap (λ (x : Dated). reply_writes (date_reply x) out) e)

pub fits_by : (a : Dated) → ((d : Date) → a ≡ dated d → Small d) → FitsBytes a
fits_by (dated d) f = f d refl
fits_by (Dated.refused n) f = tt

-- t is what the call below answered, a the definition's
module _ (t : Result machine.Date Refusal) {a : Dated} (e : dated_of t ≡ a) where
  pub reply_fits : ((d : Date) → a ≡ dated d → Small d) → (number : Refusal → ℕ) → FitsBytes (dated_by number t)
  reply_fits f = fits_whatever_number refusal_number t (fits_by _ (λ d q. f d (sym (by_refusal_number t ∙ e) ∙ q)))

  pub reply_told : (out : List ℕ) {r : ℕ} {after : List ℕ} → r ≡ reply_answer (date_reply (dated_by refusal_number t)) out
      → after ≡ reply_writes (date_reply (dated_by refusal_number t)) out → (r ≡ reply_answer (date_reply a) out) × (after ≡ reply_writes (date_reply a) out)
  reply_told out p q = reply_same out (by_refusal_number t ∙ e) p q
