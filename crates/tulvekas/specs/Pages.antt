-- Seal as C calls it (document 01, "Whole pages, keeping, program"), with a buffer lent for the tag as well: the number that it answers, and what
-- stands in both buffers. Open answers and writes what the call below does.
use Rattle.std.specs.Prelude.{ℕ, List}
use Rattle.scope.specs.Refusals.{granted}
use Rattle.page.specs.Calls.{seal_number, seal_out, seal_tag}
use Rattle.bytes_c.specs.Order.{next, room, buffer_after}

-- 1, 2, 3, 4 for either buffer
unfoldable pub seal_answer : (key iv ad text out tag : List ℕ) → ℕ
seal_answer key iv d t out tag = next (seal_number key iv d t out) (room 16 tag 0)

abbrev pub seal_writes : (key iv ad text out tag : List ℕ) → List ℕ
seal_writes key iv d t out tag = granted (seal_answer key iv d t out tag) (seal_out key iv d t out) out

abbrev pub seal_writes_tag : (key iv ad text out tag : List ℕ) → List ℕ
seal_writes_tag key iv d t out tag = buffer_after (seal_answer key iv d t out tag) 16 (seal_tag key iv d t out) tag
