-- What is printed, one text behind another.
use mathlib.Core.Path.{◌≡◌, sym, ap, ap₂, ◌∙◌}
use mathlib.Core.List.{List, ◌++◌}
use Prim.Native.Nat.{ℕ, ◌+◌, ◌≤◌}
use native.Mathlib.Omega.{arith}
use lib.ListN.{length, take, drop, length-append}
use lib.Seq.{sets, sets-eq, length-take-le}
use Rattle.words.proofs.Rows.{sets_append}
use Rattle.command.specs.Machine.{Prints}

-- the bytes vs are printed at the front of a list, n of them
pub record Printed (out₀ vs : List ℕ) (n : ℕ) (out : List ℕ) : Type 0 where
  pub bytes : out ≡ sets out₀ 0 vs
  pub count : n ≡ length vs

module _ (out₀ : List ℕ) where
  pub printed_first : (vs : List ℕ) (n : ℕ) (out : List ℕ) → out ≡ sets out₀ 0 vs → n ≡ 0 + length vs → Printed out₀ vs n out
  printed_first vs n out e c = record { bytes = e; count = omega arith }

  pub printed_more : (vs ws : List ℕ) (n m : ℕ) (out out' : List ℕ) → Printed out₀ vs n out → out' ≡ sets out n ws → m ≡ n + length ws → Printed out₀ (vs ++ ws) m out'
  printed_more vs ws n m out out' p e c =
      record {
        bytes = e ∙ ap₂ (λ (k : ℕ) (l : List ℕ). sets l k ws) p.count p.bytes ∙ sym (sets_append out₀ 0 vs ws ∙ ap (λ (k : ℕ). sets (sets out₀ 0 vs) k ws) (omega arith));
        count = let l : length (vs ++ ws) ≡ length vs + length ws = length-append vs ws in omega (arith, p.count);
      }

  -- all of it, and the bytes behind it stay
  pub printed_all : {vs : List ℕ} (ws : List ℕ) {n : ℕ} {out : List ℕ} → vs ≡ ws → length ws ≤ length out₀ → Printed out₀ vs n out → Prints ws out₀ out n
  printed_all {vs} ws {n} {out} e h p =
      let c : n ≡ length ws = p.count ∙ ap length e in
      let m : 0 + length ws ≡ n = omega arith in
      record { count = c; bytes = p.bytes ∙ ap (sets out₀ 0) e ∙ sets-eq ws out₀ 0 (omega arith) ∙ ap (λ (k : ℕ). ws ++ drop k out₀) m }

-- and it can be cut off again, as a caller that writes it does
pub counts : {vs before after : List ℕ} {n : ℕ} → Prints vs before after n → (n ≤ length after) × (n ≡ length (take n after))
counts {vs} {before} {after} {n} p =
    let l : length after ≡ length vs + length (drop n before) = ap length p.bytes ∙ length-append vs (drop n before) in
    let h : n ≤ length after = omega (arith, p.count) in
    (h, sym (length-take-le n after h))
