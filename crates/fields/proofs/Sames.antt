-- The loop that compares a part of a list with another list: what has been seen, and what is left to see, make the answer.
use Rattle.std.proofs.Common.{◌≡◌, ℕ, suc, ◌+◌, ◌-◌, ◌<◌, ◌≤◌, Bool, ◌&&◌, eqb, List, ◌∷◌, length, get_or, drop, sym, ap, ◌∙◌, arith, drop_of_length-le, drop-cons}
use mathlib.Core.Bool.{and_assoc, and-true}
use Rattle.words.specs.Bytes.{same, part}
use Rattle.words.proofs.Parts.{part_next}

pub same_more : (s t : List ℕ) (at i : ℕ) (all r : Bool) → i < length t → at + length t ≤ length s
    → (all && same (part (at + i) (length t - i) s) (drop i t)) ≡ r
    → ((all && eqb (get_or s (at + i) 0) (get_or t i 0)) && same (part (at + (i + 1)) (length t - (i + 1)) s) (drop (i + 1) t)) ≡ r
unfolding same
same_more s t at i all r h n q =
    let e : i + 1 ≡ suc i = omega arith in
    let d : drop i t ≡ get_or t i 0 ∷ drop (i + 1) t = drop-cons t i 0 h ∙ ap (λ (j : ℕ). get_or t i 0 ∷ drop j t) (sym e) in
    and_assoc all (eqb (get_or s (at + i) 0) (get_or t i 0)) (same (part (at + (i + 1)) (length t - (i + 1)) s) (drop (i + 1) t))
    ∙ rw (part_next s at (length t) i h n, d) at q

pub same_all : (s t : List ℕ) (j i : ℕ) (all r : Bool) → length t ≤ i → (all && same (part j (length t - i) s) (drop i t)) ≡ r → all ≡ r
unfolding same
same_all s t j i all r h q =
    let e : length t - i ≡ 0 = omega arith in
    sym (and-true all) ∙ rw (e, drop_of_length-le t h) at q
