-- What C is told where a call below answers with bytes or a refusal, and a date as such bytes (document 02, S-4; the bytes are include/tulvekas.h's): the number
-- that is answered, and what stands in the lent buffer. A refusal changes no byte.
use Rattle.std.specs.Prelude.{ℕ, List, [], ◌∷◌, ◌++◌, length, get_or, take}
use Rattle.words.specs.Bytes.{little, number}
use Rattle.calendar.specs.Calendar.{Date, date}
use Rattle.calendar.specs.Calls.{Dated}
use Rattle.bytes_c.specs.Order.{room, buffer_after}

-- what the call below answers, for C: bytes to be written, or a refusal
pub data Reply : Type 0 where
  bytes : List ℕ → Reply
  refused : ℕ → Reply

-- 12, 4
unfoldable pub reply_answer : Reply → (out : List ℕ) → ℕ
reply_answer (refused n) out = n
reply_answer (bytes v) out = room (length v) out 0

-- the bytes, at the buffer's front
unfoldable pub reply_writes : Reply → (out : List ℕ) → List ℕ
reply_writes (refused n) out = out
reply_writes (bytes v) out = buffer_after (room (length v) out 0) (length v) v out

-- a date in four bytes: the year, low byte first, the month, the day
unfoldable pub date_bytes : Date → List ℕ
date_bytes d = little 2 d.year ++ (d.month ∷ d.day ∷ [])

-- and the date that four bytes list
unfoldable pub date_in : List ℕ → Date
date_in b = date (number (take 2 b)) (get_or b 2 0) (get_or b 3 0)

abbrev pub date_reply : Dated → Reply
date_reply (Dated.dated d) = bytes (date_bytes d)
date_reply (Dated.refused n) = refused n
