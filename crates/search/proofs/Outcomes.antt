-- What is found at a count or at one of those behind it: either a count, and none before it leads to the registers, or none does; at each count that is what
-- trace says. Two counts of one range that are both the least are one, and so are IV and mode, since a state at a count has one of each.
use mathlib.Core.Path.{◌≡◌, refl, sym, ap, subst, ◌∙◌}
use mathlib.Core.List.{List}
use Prim.Native.Nat.{ℕ, zero, suc, ◌+◌, ◌≤◌, ◌<◌}
use native.Mathlib.Omega.{arith}
use native.Mathlib.Nat.{le_refl}
use native.Mathlib.Decide.{dec_lt}
use Rattle.scope.specs.Limits.{most_blocks}
use Rattle.words.specs.Bytes.{Row}
use Rattle.cipher.specs.Registers.{Registers, IsRegisters}
use Rattle.start.specs.Start.{Mode}
use Rattle.start.specs.Leads.{LeadsTo, Traced, Traced.origin, Traced.refused, Traces}
use Rattle.start.specs.Trace.{trace}
use Rattle.start.proofs.Tracing.{traces, leads_one}
use Rattle.search.specs.Search.{Searched.found, Searched.refused, steps_to, NoneLeads, NoneBetween, Least}
use Rattle.search.specs.Counts.{told, at_count, upward}
use Rattle.search.proofs.Turns.{upward_last, upward_found, upward_on}

apart : {a : Traced} {n : ℕ} {iv : List ℕ} {m : Mode} → a ≡ Traced.refused n → a ≡ origin iv m → ⊥
apart p q = let z : ◌≡◌ {A = ℕ} 0 1 = cc in omega arith

module _ (key : List ℕ) (k : Row 32 256 key) (s : Registers) (g : IsRegisters s) (lowest : ℕ) where
  -- what trace says at a count
  data Here (c : ℕ) : Type 0 where
    there : (iv : List ℕ) (m : Mode) → LeadsTo key c iv m s → at_count key s lowest c ≡ found c iv m (steps_to lowest c) → Here c
    not_there : NoneLeads key s c → at_count key s lowest c ≡ refused 6 (steps_to lowest c) → Here c

  here : (c : ℕ) → c ≤ most_blocks → Here c
  unfolding told
  here c fits = by (trace (record { registers = s; count = c }) key) refl
    where
      t : Traces (record { registers = s; count = c }) key (trace (record { registers = s; count = c }) key)
      t = traces (record { registers = s; count = c }) g key k.below

      by : (a : Traced) → trace (record { registers = s; count = c }) key ≡ a → Here c
      by (origin iv m) e = there iv m ((t.found iv m).0 e).1 (ap (λ (x : Traced). told x c (steps_to lowest c)) e)
      by (Traced.refused n) e =
          let none : NoneLeads key s c = λ iv m l. apart e ((t.found iv m).1 ((k.long, fits), l)) in
          not_there none (ap (λ (x : Traced). told x c (steps_to lowest c)) (t.none.1 ((k.long, fits), none)))

  -- what is found at count c or at one of the n behind it
  pub data Outcome (c n : ℕ) : Type 0 where
    hit : (d : ℕ) (iv : List ℕ) (m : Mode) → Least key s c (c + n) d iv m → upward key s lowest c n ≡ found d iv m (steps_to lowest d) → Outcome c n
    miss : NoneBetween key s c (c + n) → upward key s lowest c n ≡ refused 6 (steps_to lowest (c + n)) → Outcome c n

  -- found at the first count
  at_once : (c n : ℕ) (iv : List ℕ) (m : Mode) → LeadsTo key c iv m s → at_count key s lowest c ≡ found c iv m (steps_to lowest c) → Outcome c n
  at_once c n iv m l e =
      hit c iv m (record { from = le_refl c; up_to = omega arith; leads = l; none_before = λ d p q. absurd (omega arith) })
      (sym (upward_found key s lowest c e n))

  module _ (c n : ℕ) (h : NoneLeads key s c) where
    -- none at c, and none behind it that lies before d
    and_behind : (d : ℕ) → ((b : ℕ) → suc c ≤ b → b < d → NoneLeads key s b) → (b : ℕ) → c ≤ b → b < d → NoneLeads key s b
    and_behind d f b p q = elim (dec_lt c b) [ yes r ↦ f b (omega arith) q | no r ↦ let z : b ≡ c = omega arith in subst (NoneLeads key s) (sym z) h ]

    -- found at a count behind it, or at none
    behind : at_count key s lowest c ≡ refused 6 (steps_to lowest c) → Outcome (suc c) n → Outcome c (suc n)
    behind e (hit d iv m l f) =
        hit d iv m
        (record {
          from = omega (arith, l.from);
          up_to = omega (arith, l.up_to);
          leads = l.leads;
          none_before = and_behind d l.none_before;
        })
        (upward_on key s lowest c e n ∙ f)
    behind e (miss l f) =
        let last : suc c + n ≡ c + suc n = omega arith in
        miss (λ b p q. and_behind (suc (c + suc n)) (λ d x y. l d x (omega arith)) b p (omega arith))
        (upward_on key s lowest c e n ∙ f ∙ ap (λ (d : ℕ). refused 6 (steps_to lowest d)) last)

  -- nothing at the last count
  at_last : (c : ℕ) → NoneLeads key s c → at_count key s lowest c ≡ refused 6 (steps_to lowest c) → Outcome c 0
  at_last c h e =
      let only : (d : ℕ) → c ≤ d → d ≤ c + 0 → d ≡ c = λ d p q. omega arith in
      let last : c + 0 ≡ c = omega arith in
      miss (λ d p q. subst (NoneLeads key s) (sym (only d p q)) h)
      (sym (upward_last key s lowest c {n = 0} refl) ∙ e ∙ ap (λ (d : ℕ). refused 6 (steps_to lowest d)) (sym last))

  pub outcome : (n c : ℕ) → c + n ≤ most_blocks → Outcome c n
  outcome zero c fits = by (here c (omega arith))
    where
      by : Here c → Outcome c 0
      by (there iv m l e) = at_once c 0 iv m l e
      by (not_there h e) = at_last c h e
  outcome (suc n) c fits = by (here c (omega arith)) (outcome n (suc c) (omega arith))
    where
      by : Here c → Outcome (suc c) n → Outcome c (suc n)
      by (there iv m l e) o = at_once c (suc n) iv m l e
      by (not_there h e) o = behind c n h e o

  -- the least count of a range, with its IV and mode, is one
  pub least_one : (highest c d : ℕ) (iv v : List ℕ) (m w : Mode) → Least key s lowest highest c iv m → Least key s lowest highest d v w
      → (c ≡ d) × ((iv ≡ v) × (m ≡ w))
  least_one highest c d iv v m w p q =
      let e : c ≡ d = same in
      (e, leads_one key k d (subst (λ (n : ℕ). LeadsTo key n iv m s) e p.leads) q.leads)
    where
      same : c ≡ d
      same =
          elim (dec_lt c d) [
            | yes r ↦ absurd (q.none_before c p.from r iv m p.leads)
            | no r ↦ elim (dec_lt d c) [ yes x ↦ absurd (p.none_before d q.from x v w q.leads) | no x ↦ omega arith ]
          ]
