-- Open from a page file as C calls it (document 02, S-1), with a buffer lent for the text's length as well: the number that it answers, and what stands
-- in both buffers. Seal answers and writes what the call below does.
use Rattle.std.specs.Prelude.{ℕ, List, length}
use Rattle.scope.specs.Refusals.{granted}
use Rattle.words.specs.Bytes.{little}
use Rattle.page_file.specs.Layout.{text_length}
use Rattle.page_file.specs.Calls.{page_of, open_number, open_out}
use Rattle.bytes_c.specs.Order.{next, room, buffer_after}

-- 1, 2, 13, 14, 4, 5, 13 for padding, 4 for the length's buffer
unfoldable pub file_open_answer : (key stay : List ℕ) → (n : ℕ) → (file out len : List ℕ) → ℕ
file_open_answer key stay n f out len = next (open_number key stay n f (length out)) (room 8 len 0)

abbrev pub file_open_writes : (key stay : List ℕ) → (n : ℕ) → (file out len : List ℕ) → List ℕ
file_open_writes key stay n f out len = granted (file_open_answer key stay n f out len) (open_out key stay n f out) out

-- the length: 8 bytes, low byte first
abbrev pub file_open_length : (key stay : List ℕ) → (n : ℕ) → (file out len : List ℕ) → List ℕ
file_open_length key stay n f out len =
    buffer_after (file_open_answer key stay n f out len) 8 (little 8 (text_length (page_of stay n f))) len
