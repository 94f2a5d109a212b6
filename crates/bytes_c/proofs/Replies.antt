-- Answers that are bytes or a refusal: the number, then the buffer's room; and a date's bytes as one number's.
use mathlib.Core.Path.{◌≡◌, refl}
use mathlib.Core.List.{List}
use Prim.Native.Nat.{ℕ, ◌+◌, ◌*◌, ◌<◌}
use native.Mathlib.Omega.{arith}
use lib.ListN.{length}
use Rattle.std.specs.Prelude.{Result, Ok, Err}
use Rattle.scope.specs.declared.Refusal.{Refusal}
use Rattle.scope.specs.Machine.{refusal_number}
use Rattle.words.specs.Bytes.{little}
use Rattle.words.proofs.Blocks.{four}
use Rattle.calendar.specs.declared.Date as machine
use Rattle.calendar.specs.Calendar.{Date}
use Rattle.calendar.specs.Machine.{dated_of}
use Rattle.bytes_c.specs.Order.{room, buffer_after}
use Rattle.bytes_c.specs.Replies.{Reply, Reply.bytes, Reply.refused, reply_answer, reply_writes, date_bytes}
use Rattle.bytes_c.specs.Machine.{dated_by}
use Rattle.bytes_c.specs.Inner.{FitsBytes}

pub date_long : (d : Date) → length (date_bytes d) ≡ 4
unfolding little date_bytes
date_long d = refl

module _ (out : List ℕ) {a : Reply} where
  pub reply_refused : (n : ℕ) → a ≡ refused n → (n ≡ reply_answer a out) × (out ≡ reply_writes a out)
  unfolding reply_answer reply_writes
  reply_refused n e = rw e (refl, refl)

  -- k bytes v
  pub reply_bytes : (k : ℕ) (v : List ℕ) → length v ≡ k → a ≡ bytes v → {r : ℕ} {after : List ℕ}
      → r ≡ room k out 0 → after ≡ buffer_after (room k out 0) k v out → (r ≡ reply_answer a out) × (after ≡ reply_writes a out)
  unfolding reply_answer reply_writes
  reply_bytes k v l e er eo = rw (e, l) (er, eo)

-- a date's four bytes are those of one number
pub date_little : (d : Date) → d.year < 65536 → d.month < 256 → d.day < 256 → little 4 (d.year + 65536 * d.month + 16777216 * d.day) ≡ date_bytes d
unfolding little date_bytes
date_little d y m n = four (omega arith) (omega arith) (omega arith) (omega arith)

-- ---- an answer of the code that is a date, or a refusal for which any number stands

-- the documents' numbers give what the call below is said to answer
pub by_refusal_number : (t : Result machine.Date Refusal) → dated_by refusal_number t ≡ dated_of t
by_refusal_number (Ok d) = refl
by_refusal_number (Err e) = refl

-- only a date has to fit, so that every number serves where one does
pub fits_whatever_number : {E : Type 0} (n : E → ℕ) (t : Result machine.Date E) → FitsBytes (dated_by n t) → (number : E → ℕ) → FitsBytes (dated_by number t)
fits_whatever_number n (Ok d) h number = h
fits_whatever_number n (Err e) h number = h
