-- Fetch from a key store as C calls it (document 02, S-6), with a buffer lent for the key: the number that it answers, and what stands in the buffer. Store and
-- erase answer and write what the calls below do.
use Rattle.std.specs.Prelude.{ℕ, List}
use Rattle.key_store.specs.Calls.{fetch_number, fetch_key}
use Rattle.bytes_c.specs.Order.{next, room, buffer_after}

-- 1, 2, 8, 17, 5, 4
unfoldable pub keys_fetch_answer : (key iv store out : List ℕ) → ℕ
keys_fetch_answer key iv s out = next (fetch_number key iv s) (room 32 out 0)

abbrev pub keys_fetch_writes : (key iv store out : List ℕ) → List ℕ
keys_fetch_writes key iv s out = buffer_after (keys_fetch_answer key iv s out) 32 (fetch_key key iv s) out
