-- Digits by their ranges, and lines of digits: two at a time they are bytes, and bytes are two digits each.
use mathlib.Core.Path.{◌≡◌, refl, sym, ap, ◌∙◌}
use mathlib.Core.Bool.{Bool, true, false, ◌&&◌}
use mathlib.Core.List.{List, [], ◌∷◌, ◌++◌}
use Prim.Native.Nat.{ℕ, ◌+◌, ◌-◌, ◌*◌, ◌/◌, ◌%◌, ◌≤◌, ◌<◌}
use native.Mathlib.Omega.{arith}
use native.Mathlib.Numerals.{add-one}
use borrow.Author.Tests.{lt-ltb, le-ltb, le-leb, lt-leb, ltb-true, ltb-false, ne_eqb}
use lib.Dec.{ltb, eqb, lit<}
use lib.ListN.{length, get_or, drop}
use lib.Seq.{drop-cons}
use Rattle.std.specs.Prelude.{None, Some, IsSome, is_none}
use Rattle.std.specs.declared.option.Option.{Option}
use Rattle.scope.specs.Refusals.{pick}
use Rattle.words.proofs.Tests.{and_left, and_right}
use Rattle.command.specs.Hex.{digit, all_digits, bytes_of, glyph, hex_of}
use Rattle.command.specs.Machine.{said}

-- ---- a digit by its range

module _ (b : ℕ) where
  pub below_0 : b < 0x30 → 16 ≡ digit b
  unfolding digit
  below_0 h = rw (lt-leb 0x30 b h, lt-leb 0x61 b (omega arith))

  pub decimal_digit : 0x30 ≤ b → b ≤ 0x39 → b - 0x30 ≡ digit b
  unfolding digit
  decimal_digit h k = rw (le-leb 0x30 b h, le-leb b 0x39 k)

  pub between : 0x39 < b → b < 0x61 → 16 ≡ digit b
  unfolding digit
  between h k = rw (le-leb 0x30 b (omega arith), lt-leb b 0x39 h, lt-leb 0x61 b k)

  pub letter : 0x61 ≤ b → b ≤ 0x66 → 10 + (b - 0x61) ≡ digit b
  unfolding digit
  letter h k = rw (le-leb 0x30 b (omega arith), lt-leb b 0x39 (omega arith), le-leb 0x61 b h, le-leb b 0x66 k)

  pub above_f : 0x66 < b → 16 ≡ digit b
  unfolding digit
  above_f h = rw (le-leb 0x30 b (omega arith), lt-leb b 0x39 (omega arith), le-leb 0x61 b (omega arith), lt-leb b 0x66 h)

-- what the code says of it

pub said_some : (d : ℕ) → d < 16 → Some d ≡ said d
unfolding said
said_some d h = rw (lt-ltb d 16 h)

pub said_none : (d : ℕ) → 15 < d → None ≡ said d
unfolding said
said_none d h = rw (le-ltb d 16 (omega arith))

pub is_said : (r : Option ℕ) (d : ℕ) → d < 16 → r ≡ said d → IsSome r
is_said r d h e = rw (e, ← said_some d h) refl

pub said_is : (r : Option ℕ) (d v : ℕ) → d < 16 → r ≡ said d → r ≡ Some v → v ≡ d
said_is r d v h e f = let g : Some v ≡ Some d = sym f ∙ e ∙ sym (said_some d h) in cc

pub some_said : (d : ℕ) → is_none (said d) ≡ false → d < 16
unfolding said
some_said d = by (ltb d 16) refl
  where
    by : (b : Bool) → ltb d 16 ≡ b → is_none (pick {A = Option ℕ} b (Some d) None) ≡ false → d < 16
    by true e h = ltb-true d 16 e
    by false e h = let z : true ≡ false = h in absurd (cc)

pub none_said : (d : ℕ) → is_none (said d) ≡ true → 15 < d
unfolding said
none_said d = by (ltb d 16) refl
  where
    by : (b : Bool) → ltb d 16 ≡ b → is_none (pick {A = Option ℕ} b (Some d) None) ≡ true → 15 < d
    by true e h = absurd (cc)
    by false e h = let k : 16 ≤ d = ltb-false d 16 e in omega arith

-- ---- digits that say numbers

pub small : (v : ℕ) → v < 10 → 0x30 + v ≡ glyph v
unfolding glyph
small v h = rw (lt-ltb v 10 h)

pub large : (v : ℕ) → 10 ≤ v → 0x61 + (v - 10) ≡ glyph v
unfolding glyph
large v h = rw (le-ltb v 10 h)

-- ---- lines of digits

pub all_digits_append : (p s : List ℕ) → all_digits (p ++ s) ≡ (all_digits p && all_digits s)
unfolding all_digits
all_digits_append [] s = refl
all_digits_append (b ∷ p) s = ap (λ (t : Bool). ltb (digit b) 16 && t) (all_digits_append p s) ∙ and_assoc (ltb (digit b) 16) (all_digits p) (all_digits s)
  where
    and_assoc : (x y z : Bool) → (x && (y && z)) ≡ ((x && y) && z)
    and_assoc true y z = refl
    and_assoc false y z = refl

-- the end of a line is no digit
pub digit_no_end : (b : ℕ) → ltb (digit b) 16 ≡ true → eqb b 0x0a ≡ false
digit_no_end b h = ne_eqb b 0x0a (λ e. let k : digit b < 16 = ltb-true (digit b) 16 h in let l : digit b ≡ 16 = ap digit e ∙ sym (below_0 0x0a (lit< tt)) in omega arith)

-- a digit behind a line of digits, and the first of one
pub all_digits_more : (p : List ℕ) (b : ℕ) → all_digits p ≡ true → digit b < 16 → all_digits (p ++ (b ∷ [])) ≡ true
unfolding all_digits
all_digits_more p b e h = all_digits_append p (b ∷ []) ∙ rw (e, lt-ltb (digit b) 16 h)

-- the byte at a place, and what is behind it
pub next : (s : List ℕ) (i j : ℕ) → i < length s → j ≡ i + 1 → drop i s ≡ get_or s i 0 ∷ drop j s
next s i j h e = drop-cons s i 0 h ∙ ap (λ (k : ℕ). get_or s i 0 ∷ drop k s) (sym (e ∙ add-one i))

-- at a place of a line stand two digits, and digits behind them
abbrev pub Digits : List ℕ → ℕ → Type 0
Digits s i = (digit (get_or s i 0) < 16) × (digit (get_or s (i + 1) 0) < 16) × (all_digits (drop (i + 2) s) ≡ true)

split : (a b : ℕ) (s : List ℕ) → all_digits (a ∷ b ∷ s) ≡ true → (digit a < 16) × (digit b < 16) × (all_digits s ≡ true)
unfolding all_digits
split a b s e =
    let x = ltb (digit a) 16 in
    let y = ltb (digit b) 16 in
    let f = and_right x (y && all_digits s) e in
    (ltb-true (digit a) 16 (and_left x (y && all_digits s) e), ltb-true (digit b) 16 (and_left y (all_digits s) f), and_right y (all_digits s) f)

-- two digits off the front of a line from a place on
module _ (s : List ℕ) (i : ℕ) (h : i + 2 ≤ length s) where
  two : drop i s ≡ get_or s i 0 ∷ get_or s (i + 1) 0 ∷ drop (i + 2) s
  two = next s i (i + 1) (omega arith) refl ∙ ap (λ (t : List ℕ). get_or s i 0 ∷ t) (next s (i + 1) (i + 2) (omega arith) (omega arith))

  pub two_digits : bytes_of (drop i s) ≡ ((digit (get_or s i 0) * 16 + digit (get_or s (i + 1) 0)) ∷ []) ++ bytes_of (drop (i + 2) s)
  unfolding bytes_of
  two_digits = ap bytes_of two

  pub digits_there : all_digits (drop i s) ≡ true → Digits s i
  digits_there d = split (get_or s i 0) (get_or s (i + 1) 0) (drop (i + 2) s) (ap all_digits (sym two) ∙ d)

-- one byte off the front of a list from a place on
pub one_byte : (s : List ℕ) (i : ℕ) → i < length s → hex_of (drop i s) ≡ (glyph (get_or s i 0 / 16) ∷ glyph (get_or s i 0 % 16) ∷ []) ++ hex_of (drop (i + 1) s)
unfolding hex_of
one_byte s i h = ap hex_of (next s i (i + 1) h refl)

pub hex_length : (s : List ℕ) → length (hex_of s) ≡ 2 * length s
unfolding hex_of
hex_length [] = refl
hex_length (b ∷ s) = let e : length (hex_of s) ≡ 2 * length s = hex_length s in omega arith

-- an even number of digits says half as many bytes
pub bytes_length : (s : List ℕ) → length s % 2 ≡ 0 → length s ≡ 2 * length (bytes_of s)
unfolding bytes_of
bytes_length [] h = refl
bytes_length (a ∷ []) h = absurd (omega arith)
bytes_length (a ∷ b ∷ s) h = let e : length s ≡ 2 * length (bytes_of s) = bytes_length s (omega arith) in omega arith
