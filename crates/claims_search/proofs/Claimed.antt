-- The claims about the search: of every dump, key and range by crates/search/proofs/Searching.antt, of a range of one count by the definition, of where lists ended
-- by Reaching.antt.
use mathlib.Core.Path.{◌≡◌, refl, sym, ap, ◌∙◌}
use mathlib.Core.Bool.{Bool, true, false}
use mathlib.Core.List.{List}
use Prim.Native.Nat.{ℕ, ◌+◌, ◌-◌, ◌≤◌, ◌<◌}
use native.Mathlib.Omega.{arith}
use native.Mathlib.Decide.{dec_lt}
use native.Mathlib.Nat.{le_refl}
use borrow.Author.Tests.{eqb-true, eqb-false}
use lib.Dec.{eqb}
use lib.ListN.{length}
use Rattle.scope.specs.Limits.{most_blocks}
use Rattle.words.specs.Bytes.{Row}
use Rattle.cipher.specs.Run.{backward, moves}
use Rattle.cipher.specs.State.{State}
use Rattle.start.specs.Start.{Mode}
use Rattle.start.specs.Leads.{Traced, Traced.origin}
use Rattle.start.specs.Trace.{loaded, trace}
use Rattle.start.proofs.Answers.{trace_bad_key, trace_too_far, trace_walks}
use Rattle.start.proofs.Unloading.{refused_six}
use Rattle.layout.specs.Block.{registers_at}
use Rattle.search.specs.Search.{Searched, Searched.found, steps_to, Least, Searchable}
use Rattle.search.specs.Counts.{told, search}
use Rattle.search.proofs.Numbers.{bad_key, too_far}
use Rattle.search.proofs.Turns.{upward_last}
use Rattle.search.proofs.Searching.{before, walks, searches, no_other}
use Rattle.claims.specs.Lists.{Bytes}
use Rattle.claims_search.specs.Claims.{as_search, SearchClaims}
use Rattle.claims_search.proofs.Reaching.{suspended_dump, run_dump, found_again}

found_one : {a : Searched} {c d : ℕ} {iv v : List ℕ} {m w : Mode} {i j : ℕ} → a ≡ found c iv m i → a ≡ found d v w j → (c ≡ d) × ((iv ≡ v) × (m ≡ w))
found_one p q = (cc, (cc, cc))

one_least : (dump key : Bytes) (lowest highest c d : ℕ) (iv v : List ℕ) (m w : Mode) → Searchable dump.list key.list lowest highest
    → Least key.list (registers_at dump.list) lowest highest c iv m → Least key.list (registers_at dump.list) lowest highest d v w
    → (c ≡ d) × ((iv ≡ v) × (m ≡ w))
one_least dump key lowest highest c d iv v m w h p q =
    let s = searches dump.list key.list lowest highest dump.below key.below in found_one ((s.found_least c iv m).1 (h, p)) ((s.found_least d v w).1 (h, q))

-- ---- a range of one count

module _ (dump key : List ℕ) (long : length dump ≡ 112) (c : ℕ) where
  abbrev at : State
  at = record { registers = registers_at dump; count = c }

  bad : ¬ (length key ≡ 32) → search dump key c c ≡ as_search c (trace at key)
  bad h = before dump key c c (bad_key dump key c c h) (omega arith) ∙ ap (as_search c) (trace_bad_key at key h)

  far : length key ≡ 32 → most_blocks < c → search dump key c c ≡ as_search c (trace at key)
  far k h = before dump key c c (too_far dump key c c k long h) (omega arith) ∙ ap (as_search c) (trace_too_far at key k h)

  steps_there : steps_to c c ≡ c + 16
  steps_there = omega arith

  -- of what trace answers behind a walk, 6 alone is a refusal
  walked : (a : Traced) → ((n : ℕ) → a ≡ Traced.refused n → n ≡ 6) → told a c (steps_to c c) ≡ as_search c a
  unfolding told
  walked (origin iv m) six = ap (found c iv m) steps_there
  walked (Traced.refused n) six = let e = six n refl in rw (e, steps_there)

  within : Row 32 256 key → c ≤ most_blocks → search dump key c c ≡ as_search c (trace at key)
  within k h =
      let s : Searchable dump key c c = record { key_long = k.long; dump_long = long; within = h; ordered = le_refl c } in
      walks dump key c c s
      ∙ sym (upward_last key (registers_at dump) c c {n = c - c} (omega arith))
      ∙ walked (trace at key) (λ n e. refused_six key k (loaded key (moves backward c (registers_at dump))) n (trace_walks at key k.long h ∙ e))

one_count : (dump key : Bytes) → length dump.list ≡ 112 → (c : ℕ)
    → search dump.list key.list c c ≡ as_search c (trace (record { registers = registers_at dump.list; count = c }) key.list)
one_count dump key long c = by (eqb (length key.list) 32) refl
  where
    sized : length key.list ≡ 32 → search dump.list key.list c c ≡ as_search c (trace (record { registers = registers_at dump.list; count = c }) key.list)
    sized k =
        elim (dec_lt most_blocks c)
        [ yes x ↦ far dump.list key.list long c k x | no x ↦ within dump.list key.list long c (record { long = k; below = key.below }) (omega arith) ]

    by : (b : Bool) → eqb (length key.list) 32 ≡ b
        → search dump.list key.list c c ≡ as_search c (trace (record { registers = registers_at dump.list; count = c }) key.list)
    by true e = sized (eqb-true (length key.list) 32 e)
    by false e = bad dump.list key.list long c (eqb-false (length key.list) 32 e)

pub search_claims : SearchClaims
search_claims =
    record {
      answers = λ dump key lowest highest. searches dump.list key.list lowest highest dump.below key.below;
      settles = λ dump key lowest highest. no_other dump.list key.list lowest highest dump.below key.below;
      one_least = one_least;
      one_count = one_count;
      suspended = suspended_dump;
      ran = run_dump;
      reached = found_again;
    }
