-- A block erased in place: between the bytes that are written stand the number, and zeros by the layout rules.
use mathlib.Core.Path.{◌≡◌, refl, sym, ap, ap₂, ◌∙◌}
use mathlib.Core.Bool.{true}
use mathlib.Core.List.{List, [], ◌∷◌, ◌++◌, append_assoc}
use Prim.Native.Nat.{ℕ, ◌+◌, ◌≤◌}
use native.Mathlib.Omega.{arith}
use lib.ListN.{length, set, take, drop, replicate, length-append, length-set}
use lib.Seq.{sets, sets-eq, take-add, take-append-add, length-take-le}
use Rattle.words.specs.Bytes.{part, zeros}
use Rattle.words.proofs.Parts.{part_long}
use Rattle.words.proofs.Writing.{put_next}
use Rattle.fields.specs.Fields.{checked}
use Rattle.fields.proofs.Zeros.{all_zero_zeros}
use Rattle.key_store.specs.Layout.{iv_of, rules, well_laid, body, block_of, erased_block}
use Rattle.key_store.proofs.Obeying.{rule}

marked : (b : List ℕ) → 80 ≤ length b → (take 32 (set b 0 2) ≡ (2 ∷ []) ++ part 1 15 b ++ part 16 16 b) × (drop 80 (set b 0 2) ≡ drop 80 b)
marked [] h = absurd (omega arith)
marked (x ∷ t) h = (ap (λ (l : List ℕ). 2 ∷ l) (take-add 15 16 t), refl)

module _ (b : List ℕ) (long : length b ≡ 512) (w : well_laid b ≡ true) where
  head : take 32 (set b 0 2) ≡ (2 ∷ []) ++ replicate 15 0 ++ iv_of b
  unfolding rules
  head =
      (marked b (omega arith)).0
      ∙ ap (λ (l : List ℕ). (2 ∷ []) ++ l ++ iv_of b) (sym (all_zero_zeros 15 (part 1 15 b) (part_long b 1 15 (omega arith)) (rule b 4 w)))

  behind : take 428 (drop 80 (set b 0 2)) ≡ replicate 428 0
  unfolding rules
  behind =
      ap (take 428) (marked b (omega arith)).1 ∙ sym (all_zero_zeros 428 (part 80 428 b) (part_long b 80 428 (omega arith)) (rule b 5 w))

  pub erased_in_place : (b1 b2 b3 b4 z : List ℕ) → z ≡ zeros → b1 ≡ sets (set b 0 2) 32 z → b2 ≡ sets b1 48 z → b3 ≡ sets b2 64 z
      → b4 ≡ checked (take 508 b3) → b4 ≡ erased_block (iv_of b)
  unfolding erased_block block_of body
  erased_in_place b1 b2 b3 b4 z ez e1 e2 e3 e4 =
      let l = set b 0 2 in
      let zl : length z ≡ 16 = ap length ez in
      let p2 : b2 ≡ sets l 32 (z ++ z) = put_next l z z 32 48 (omega arith) e1 e2 in
      let zz : length (z ++ z) ≡ 32 = length-append z z ∙ ap₂ ◌+◌ zl zl in
      let p3 : b3 ≡ sets l 32 (z ++ z ++ z) = put_next l (z ++ z) z 32 64 (omega arith) p2 e3 in
      let z3 : length (z ++ z ++ z) ≡ 48 = length-append (z ++ z) z ∙ ap₂ ◌+◌ zz zl in
      let ll : length l ≡ 512 = length-set b 0 2 ∙ long in
      let q : b3 ≡ take 32 l ++ (z ++ z ++ z) ++ drop 80 l =
      p3 ∙ sets-eq (z ++ z ++ z) l 32 (omega arith) ∙ ap (λ (k : ℕ). take 32 l ++ (z ++ z ++ z) ++ drop (32 + k) l) z3 in
      let front : length (take 32 l ++ (z ++ z ++ z)) ≡ 80 =
      length-append (take 32 l) (z ++ z ++ z) ∙ ap₂ ◌+◌ (length-take-le 32 l (omega arith)) z3 in
      let t : take 508 b3 ≡ take 32 l ++ (z ++ z ++ z) ++ take 428 (drop 80 l) =
      ap (take 508) q ∙ take_front (take 32 l ++ (z ++ z ++ z)) (drop 80 l) 80 428 front in
      e4
      ∙ ap checked
      (t
      ∙ ap₂ (λ (u v : List ℕ). u ++ (z ++ z ++ z) ++ v) head behind
      ∙ ap (λ (u : List ℕ). (2 ∷ []) ++ replicate 15 0 ++ iv_of b ++ (u ++ u ++ u) ++ replicate 428 0) ez
      ∙ ap (λ (u : List ℕ). u ++ replicate 428 0) (sym (append_assoc ((2 ∷ []) ++ replicate 15 0 ++ iv_of b) (zeros ++ zeros) zeros)))
    where
      take_front : (u v : List ℕ) (n k : ℕ) → length u ≡ n → take (n + k) (u ++ v) ≡ u ++ take k v
      take_front u v n k e = ap (λ (m : ℕ). take (m + k) (u ++ v)) (sym e) ∙ take-append-add u v k
