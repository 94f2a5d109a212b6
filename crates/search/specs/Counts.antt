-- How a search finds its answer: count by count, from the lowest on, by trace at each. It need not be believed by reading: the contract of `search::search` says
-- of its answer, beside the equation with this, what `Searches` of Search.antt says, in terms of "leads to" alone.
use Rattle.std.specs.Prelude.{ℕ, zero, suc, ◌-◌, not, List, eqb, ltb, length}
use Rattle.scope.specs.Limits.{most_blocks}
use Rattle.scope.specs.Refusals.{refuse, granted, key_length, bad_block, count_too_high, range_order}
use Rattle.cipher.specs.Registers.{Registers}
use Rattle.start.specs.Leads.{Traced, Traced.origin, Traced.refused}
use Rattle.start.specs.Trace.{trace}
use Rattle.layout.specs.Block.{registers_at}
use Rattle.search.specs.Search.{Searched, Searched.found, Searched.refused, steps_to}

-- what a trace at a count answers, as a search's answer
unfoldable pub told : Traced → (c steps : ℕ) → Searched
told (origin iv m) c n = found c iv m n
told (Traced.refused k) c n = refused k n

-- the first answer if it has found something, else the second
unfoldable pub or_else : Searched → Searched → Searched
or_else (found c iv m n) later = found c iv m n
or_else (refused k n) later = later

-- what is found at count c, in a range from the lowest on
abbrev pub at_count : (key : List ℕ) → Registers → (lowest c : ℕ) → Searched
at_count key s lowest c = told (trace (record { registers = s; count = c }) key) c (steps_to lowest c)

-- at count c and the n counts above it
unfoldable pub upward : (key : List ℕ) → Registers → (lowest c n : ℕ) → Searched
upward key s lowest c zero = at_count key s lowest c
upward key s lowest c (suc n) = or_else (at_count key s lowest c) (upward key s lowest (suc c) n)

-- 1, 8, 9, 18
unfoldable pub range_number : (dump key : List ℕ) (lowest highest : ℕ) → ℕ
range_number dump key lowest highest =
    refuse (not (eqb (length key) 32))
    key_length
    (refuse (not (eqb (length dump) 112))
    bad_block
    (refuse (ltb most_blocks highest) count_too_high (refuse (ltb highest lowest) range_order 0)))

unfoldable pub search : (dump key : List ℕ) (lowest highest : ℕ) → Searched
search dump key lowest highest =
    granted (range_number dump key lowest highest)
    (upward key (registers_at dump) lowest lowest (highest - lowest))
    (refused (range_number dump key lowest highest) 0)
