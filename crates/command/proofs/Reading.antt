-- The first line of an input: behind digits alone stands either the end of the line, and then the line is well formed or not by its length, or
-- a byte that makes it malformed, or nothing.
use mathlib.Core.Path.{◌≡◌, refl, sym, ap, ap₂, subst, ◌∙◌}
use mathlib.Core.Bool.{true, false, ◌&&◌}
use mathlib.Core.List.{List, [], ◌∷◌, ◌++◌, append-nil}
use Prim.Native.Nat.{ℕ, zero, suc, ◌+◌, ◌*◌, ◌%◌, ◌≤◌, ◌<◌}
use native.Mathlib.Omega.{arith}
use native.Mathlib.Numerals.{add-one}
use borrow.Author.Tests.{eq-eqb, ne_eqb, le-ltb, le-leb, lt-leb, eqb-true, leb-true}
use lib.Dec.{ltb, eqb, leb}
use lib.ListN.{length, get_or, take, drop}
use lib.Seq.{take_all, take-suc, split_at, length-take-le}
use Rattle.scope.specs.Limits.{most_digits}
use Rattle.scope.specs.Refusals.{pick}
use Rattle.std.specs.List.{AllWithin}
use Rattle.words.proofs.Tests.{and_left, and_right}
use Rattle.command.specs.Hex.{digit, all_digits, bytes_of}
use Rattle.command.specs.Lines.{Line, Line.ended, Line.no_line, behind, up_to_end, well_formed, checked, first_line}
use Rattle.command.proofs.Digits.{all_digits_append, all_digits_more, digit_no_end, bytes_length}

-- the same with more bytes in front
abbrev in_front : List ℕ → Line → Line
in_front [] r = r
in_front (b ∷ p) r = behind b (in_front p r)

in_front_ended : (p l r : List ℕ) → in_front p (ended l r) ≡ ended (p ++ l) r
in_front_ended [] l r = refl
in_front_ended (b ∷ p) l r = ap (behind b) (in_front_ended p l r)

in_front_none : (p : List ℕ) → in_front p no_line ≡ no_line
in_front_none [] = refl
in_front_none (b ∷ p) = ap (behind b) (in_front_none p)

up_front : (p s : List ℕ) → all_digits p ≡ true → up_to_end (p ++ s) ≡ in_front p (up_to_end s)
unfolding all_digits up_to_end
up_front [] s d = refl
up_front (b ∷ p) s d =
    rw (digit_no_end b (and_left (ltb (digit b) 16) (all_digits p) d))
    (ap (behind b) (up_front p s (and_right (ltb (digit b) 16) (all_digits p) d)))

module _ (p : List ℕ) (d : all_digits p ≡ true) where
  -- no end
  open_end : no_line ≡ first_line p
  unfolding first_line up_to_end
  open_end = sym (ap checked (ap up_to_end (sym (append-nil p)) ∙ up_front p [] d ∙ in_front_none p))

  module _ (rest : List ℕ) where
    at_0a : first_line (p ++ 0x0a ∷ rest) ≡ pick (well_formed p) (ended p rest) no_line
    unfolding first_line up_to_end
    at_0a =
        ap checked (up_front p (0x0a ∷ rest) d ∙ in_front_ended p [] rest ∙ ap (λ (l : List ℕ). ended l rest) (append-nil p))

    odd : ¬ (length p % 2 ≡ 0) → no_line ≡ first_line (p ++ 0x0a ∷ rest)
    unfolding well_formed
    odd h = sym (at_0a ∙ rw (d, ne_eqb (length p % 2) 0 h))

    over : length p % 2 ≡ 0 → most_digits < length p → no_line ≡ first_line (p ++ 0x0a ∷ rest)
    unfolding well_formed
    over h k = sym (at_0a ∙ rw (d, eq-eqb (length p % 2) 0 h, lt-leb (length p) most_digits k))

    even : length p % 2 ≡ 0 → length p ≤ most_digits → ended p rest ≡ first_line (p ++ 0x0a ∷ rest)
    unfolding well_formed
    even h k = sym (at_0a ∙ rw (d, eq-eqb (length p % 2) 0 h, le-leb (length p) most_digits k))

  module _ (b : ℕ) (h : 15 < digit b) where
    not_well_formed : (l : List ℕ) → well_formed (p ++ b ∷ l) ≡ false
    unfolding well_formed all_digits
    not_well_formed l = rw (all_digits_append p (b ∷ l), d, le-ltb (digit b) 16 (omega arith))

    not_read : (r : Line) → checked (in_front p (behind b r)) ≡ no_line
    not_read (ended l r) = ap checked (in_front_ended p (b ∷ l) r) ∙ rw (not_well_formed l)
    not_read no_line = ap checked (in_front_none p)

    no_digit : (rest : List ℕ) → ¬ (b ≡ 0x0a) → no_line ≡ first_line (p ++ b ∷ rest)
    unfolding first_line up_to_end
    no_digit rest n = sym (ap checked (up_front p (b ∷ rest) d) ∙ rw (ne_eqb b 0x0a n) (not_read (up_to_end rest)))

-- ---- the same at a place of an input, with digits alone before it

pub all_open : (s : List ℕ) (i : ℕ) → length s ≤ i → all_digits (take i s) ≡ true → no_line ≡ first_line s
all_open s i h d = let e : take i s ≡ s = take_all i s h in subst (λ (l : List ℕ). no_line ≡ first_line l) e (open_end (take i s) d)

module _ (s : List ℕ) (i : ℕ) (h : i < length s) (d : all_digits (take i s) ≡ true) where
  long : length (take i s) ≡ i
  long = length-take-le i s (omega arith)

  whole : (b : ℕ) → get_or s i 0 ≡ b → take i s ++ b ∷ drop (i + 1) s ≡ s
  whole b e = ap₂ (λ (x k : ℕ). take i s ++ x ∷ drop k s) (sym e) (add-one i) ∙ sym (split_at s i 0 h)

  pub odd_at : get_or s i 0 ≡ 0x0a → ¬ (i % 2 ≡ 0) → no_line ≡ first_line s
  odd_at e n = odd (take i s) d (drop (i + 1) s) (λ z. n (ap (λ (k : ℕ). k % 2) (sym long) ∙ z)) ∙ ap first_line (whole 0x0a e)

  pub over_at : get_or s i 0 ≡ 0x0a → i % 2 ≡ 0 → most_digits < i → no_line ≡ first_line s
  over_at e z n =
      over (take i s) d (drop (i + 1) s) (ap (λ (k : ℕ). k % 2) long ∙ z) (omega (arith, long)) ∙ ap first_line (whole 0x0a e)

  pub line_at : get_or s i 0 ≡ 0x0a → i % 2 ≡ 0 → i ≤ most_digits → ended (take i s) (drop (i + 1) s) ≡ first_line s
  line_at e z n =
      even (take i s) d (drop (i + 1) s) (ap (λ (k : ℕ). k % 2) long ∙ z) (omega (arith, long)) ∙ ap first_line (whole 0x0a e)

  pub no_digit_at : ¬ (get_or s i 0 ≡ 0x0a) → 15 < digit (get_or s i 0) → no_line ≡ first_line s
  no_digit_at n g = no_digit (take i s) d (get_or s i 0) g (drop (i + 1) s) n ∙ ap first_line (whole (get_or s i 0) refl)

  -- a digit more
  pub further : digit (get_or s i 0) < 16 → all_digits (take (i + 1) s) ≡ true
  further g =
      ap (λ (k : ℕ). all_digits (take k s)) (add-one i) ∙ ap all_digits (take-suc s i 0 h) ∙ all_digits_more (take i s) (get_or s i 0) d g

-- digits up to a place, one by one
pub digits_within : (s : List ℕ) (i : ℕ) → i ≤ length s → AllWithin (λ (b : ℕ). digit b < 16) s 0 i → all_digits (take i s) ≡ true
unfolding all_digits
digits_within s zero h w = refl
digits_within s (suc i) h w =
    let e : i + 1 ≡ suc i = omega arith in
    ap (λ (k : ℕ). all_digits (take k s)) (sym e) ∙ further s i (omega arith) (digits_within s i (omega arith) (λ k d l m. w k d l (omega arith))) (w i 0 (omega arith) (omega arith))

-- ---- what a well-formed line is

module _ (l : List ℕ) (w : well_formed l ≡ true) where
  digits_and_even : (all_digits l && eqb (length l % 2) 0) ≡ true
  unfolding well_formed
  digits_and_even = and_left (all_digits l && eqb (length l % 2) 0) (leb (length l) most_digits) w

  pub formed_digits : all_digits l ≡ true
  formed_digits = and_left (all_digits l) (eqb (length l % 2) 0) digits_and_even

  pub formed_even : length l % 2 ≡ 0
  formed_even = eqb-true (length l % 2) 0 (and_right (all_digits l) (eqb (length l % 2) 0) digits_and_even)

  pub formed_short : length l ≤ most_digits
  unfolding well_formed
  formed_short = leb-true (length l) most_digits (and_right (all_digits l && eqb (length l % 2) 0) (leb (length l) most_digits) w)

  pub formed_line : (rest : List ℕ) → ended l rest ≡ first_line (l ++ 0x0a ∷ rest)
  formed_line rest = even l formed_digits rest formed_even formed_short

  -- it says at most 4,096 bytes
  pub formed_bytes : length (bytes_of l) ≤ 4096
  formed_bytes = let e : length l ≡ 2 * length (bytes_of l) = bytes_length l formed_even in omega (arith, formed_short)
