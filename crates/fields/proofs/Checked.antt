-- A block with its check: the check holds, and bytes of which it holds are their first 508 with the check.
use Rattle.std.proofs.Common.{◌≡◌, ℕ, ◌+◌, true, List, [], ◌++◌, length, take, drop, sym, ap, ◌∙◌, append-nil, arith, lit<, lit≤, length-append, take-append-drop, drop_of_length-le, length-take-le, take_all, drop_at, eq-eqb, eqb-true}
use lib.Seq.{sets, sets-eq}
use Rattle.words.specs.Bytes.{little, number, Row, part}
use Rattle.words.proofs.Bytes.{little_long, little_number, number_little}
use Rattle.words.proofs.Parts.{part_row, grow}
use Rattle.fields.specs.Fields.{check, checked, check_holds}
use Rattle.fields.proofs.Reading.{check_lt, check_front}

module _ (s : List ℕ) (long : length s ≡ 508) where
  pub checked_long : length (checked s) ≡ 512
  unfolding checked
  checked_long = length-append s (little 4 (check s)) ∙ omega (arith, long, little_long 4 (check s))

  pub check_written : check_holds (checked s) ≡ true
  unfolding check_holds checked
  check_written =
      let e : part 508 4 (s ++ little 4 (check s)) ≡ little 4 (check s) =
      ap (take 4) (drop_at s (little 4 (check s)) 508 long) ∙ take_all 4 (little 4 (check s)) (omega (arith, little_long 4 (check s))) in
      eq-eqb _ _ (ap number e ∙ number_little 4 (check s) (check_lt s) ∙ sym (check_front s (little 4 (check s)) long))

-- the check written behind the first 508 bytes
pub check_put : (b b' : List ℕ) (x : ℕ) → length b ≡ 512 → x ≡ check b → b' ≡ sets b 508 (little 4 x) → b' ≡ checked (take 508 b)
unfolding checked
check_put b b' x long e f =
    let front : length (take 508 b) ≡ 508 = length-take-le 508 b (omega arith) in
    let c : x ≡ check (take 508 b) = e ∙ ap check (sym (take-append-drop 508 b)) ∙ check_front (take 508 b) (drop 508 b) front in
    let none : drop (508 + length (little 4 x)) b ≡ [] = drop_of_length-le b {i = 508 + length (little 4 x)} (omega (arith, little_long 4 x)) in
    f
    ∙ sets-eq (little 4 x) b 508 (omega (arith, little_long 4 x))
    ∙ ap (λ (r : List ℕ). take 508 b ++ little 4 x ++ r) none
    ∙ append-nil (take 508 b ++ little 4 x)
    ∙ ap (λ (n : ℕ). take 508 b ++ little 4 n) c

-- the one block that the first 508 bytes have
pub check_taken : (b : List ℕ) → Row 512 256 b → check_holds b ≡ true → {s : List ℕ} → s ≡ take 508 b → checked s ≡ b
unfolding check_holds checked
check_taken b r h {s} e =
    let front : length (take 508 b) ≡ 508 = length-take-le 508 b (omega (arith, r.long)) in
    let c : check s ≡ number (part 508 4 b) =
    ap check e ∙ sym (check_front (take 508 b) (drop 508 b) front) ∙ ap check (take-append-drop 508 b) ∙ sym (eqb-true _ _ h) in
    grow b 508 4 e (ap (little 4) c ∙ little_number 4 (part 508 4 b) (part_row 256 512 (lit< tt) r 508 4 (lit≤ tt)))
    ∙ take_all 512 b (omega (arith, r.long))
