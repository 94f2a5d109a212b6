-- How the order of a call's refusals is written where it goes on behind that of the call below, and what stands in a lent buffer afterwards. A
-- buffer is a list of bytes.
use Rattle.std.specs.Prelude.{ℕ, List, ◌++◌, ltb, length, drop}
use Rattle.scope.specs.Refusals.{refuse, granted, short_output}

-- the number of the call below where that refuses, else what comes later in the order
abbrev pub next : ℕ → ℕ → ℕ
next n later = granted n later n

-- 4: a buffer has less than k bytes
abbrev pub room : ℕ → (out : List ℕ) → ℕ → ℕ
room k out later = refuse (ltb (length out) k) short_output later

-- what a call that answers n leaves in a buffer: k bytes v at its front, those behind as they were; a refusal changes none
abbrev pub buffer_after : ℕ → (k : ℕ) → (v out : List ℕ) → List ℕ
buffer_after n k v out = granted n (v ++ drop k out) out
