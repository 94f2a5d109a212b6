-- From one count of a range to the next: what is found at a count is the answer, and where nothing is the next count has it.
use mathlib.Core.Path.{◌≡◌, sym, ap, ap₂, ◌∙◌}
use mathlib.Core.List.{List}
use Prim.Native.Nat.{ℕ, zero, suc, ◌+◌, ◌*◌, ◌-◌, ◌≤◌}
use native.Mathlib.Omega.{arith}
use lib.ListN.{length}
use Rattle.scope.specs.Limits.{most_blocks}
use Rattle.cipher.specs.Registers.{Registers}
use Rattle.cipher.specs.Run.{backward, moves}
use Rattle.start.specs.Start.{Mode}
use Rattle.start.specs.Leads.{Traced, Traced.origin, Traced.refused}
use Rattle.start.specs.Trace.{loaded, unload}
use Rattle.start.proofs.Answers.{trace_walks}
use Rattle.search.specs.Search.{Searched.found, Searched.refused, steps_to}
use Rattle.search.specs.Counts.{told, or_else, at_count, upward}

-- the steps that an answer is told with
pub told_steps : (x : Traced) (c n : ℕ) {k j : ℕ} → told x c n ≡ refused k j → j ≡ n
unfolding told
told_steps (origin iv m) c n e = let z : ◌≡◌ {A = ℕ} 0 1 = cc in absurd (omega arith)
told_steps (Traced.refused i) c n e = cc

module _ (key : List ℕ) (s : Registers) (lowest c : ℕ) where
  -- what the walk finds, c steps back, with the steps counted up to there
  pub tried_walks : length key ≡ 32 → c ≤ most_blocks → (t : Registers) → t ≡ moves backward c s → (steps : ℕ) → steps ≡ c + 16 * (c - lowest)
      → told (unload key (loaded key t)) c (steps + 16) ≡ at_count key s lowest c
  tried_walks k fits t e steps es =
      ap₂ (λ (x : Traced) (n : ℕ). told x c n) (ap (λ (u : Registers). unload key (loaded key u)) e ∙ trace_walks (record { registers = s; count = c }) key k fits)
      (let f : steps + 16 ≡ steps_to lowest c = omega arith in f)

  pub upward_last : {n : ℕ} → n ≡ 0 → at_count key s lowest c ≡ upward key s lowest c n
  unfolding upward
  upward_last e = rw e

  pub upward_found : {d : ℕ} {iv : List ℕ} {m : Mode} {k : ℕ} → at_count key s lowest c ≡ found d iv m k → (n : ℕ) → found d iv m k ≡ upward key s lowest c n
  unfolding upward or_else
  upward_found e zero = sym e
  upward_found e (suc n) = rw e

  pub upward_on : {k j : ℕ} → at_count key s lowest c ≡ refused k j → (n : ℕ) → upward key s lowest c (suc n) ≡ upward key s lowest (suc c) n
  unfolding upward or_else
  upward_on e n = rw e
