-- The search as C calls it (document 02, S-8): the number that it answers, and what stands in each of the four buffers that it was lent to write. Order: 1, 8,
-- 9, 18, 6, then 4 for any of the buffers. A refusal changes no byte but for 6, which carries its steps, where there is room for them.
use Rattle.std.specs.Prelude.{ℕ, List, [], ◌∷◌, eqb}
use Rattle.scope.specs.Refusals.{pick, no_origin}
use Rattle.words.specs.Bytes.{little}
use Rattle.search.specs.Search.{Searched, Searched.found, Searched.refused}
use Rattle.bytes_c.specs.Order.{room, buffer_after}
use Rattle.bytes_c.specs.Modes.{mode_byte}

-- 4 where one of the buffers is too short: 8 bytes for the count, 16 for the IV, 1 for the mode, 8 for the steps
abbrev pub search_room : (count iv flag steps : List ℕ) → ℕ
search_room count iv flag steps = room 8 count (room 16 iv (room 1 flag (room 8 steps 0)))

unfoldable pub search_answer : Searched → (count iv flag steps : List ℕ) → ℕ
search_answer (refused k n) count iv flag steps = k
search_answer (found c v m n) count iv flag steps = search_room count iv flag steps

-- the count, low byte first
unfoldable pub search_count : Searched → (count iv flag steps : List ℕ) → List ℕ
search_count (refused k n) count iv flag steps = count
search_count (found c v m n) count iv flag steps = buffer_after (search_room count iv flag steps) 8 (little 8 c) count

-- the IV
unfoldable pub search_iv : Searched → (count iv flag steps : List ℕ) → List ℕ
search_iv (refused k n) count iv flag steps = iv
search_iv (found c v m n) count iv flag steps = buffer_after (search_room count iv flag steps) 16 v iv

-- the mode
unfoldable pub search_sealed : Searched → (count iv flag steps : List ℕ) → List ℕ
search_sealed (refused k n) count iv flag steps = flag
search_sealed (found c v m n) count iv flag steps = buffer_after (search_room count iv flag steps) 1 (mode_byte m ∷ []) flag

-- the steps, low byte first; of a refusal those of 6 alone, by the room for them and not by the call's answer, which is 6
unfoldable pub search_steps : Searched → (count iv flag steps : List ℕ) → List ℕ
search_steps (refused k n) count iv flag steps = pick (eqb k no_origin) (buffer_after (room 8 steps 0) 8 (little 8 n) steps) steps
search_steps (found c v m n) count iv flag steps = buffer_after (search_room count iv flag steps) 8 (little 8 n) steps
