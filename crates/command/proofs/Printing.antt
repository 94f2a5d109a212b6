-- What is printed, as the code puts it together piece by piece, and how long it is at most.
use mathlib.Core.Path.{◌≡◌, sym, subst}
use mathlib.Core.Bool.{Bool, true, false}
use mathlib.Core.List.{List, [], ◌∷◌, ◌++◌, append_assoc}
use Prim.Native.Nat.{ℕ, ◌+◌, ◌/◌, ◌%◌, ◌≤◌, ◌<◌}
use native.Mathlib.Omega.{arith}
use borrow.Author.Tests.{lt-ltb, le-ltb}
use lib.Dec.{ltb, lit≤}
use lib.ListN.{length, length-append}
use Rattle.scope.specs.Refusals.{pick}
use Rattle.command.specs.Hex.{hex_of}
use Rattle.command.specs.Lines.{lines_in}
use Rattle.command.specs.Output.{Answer, Answer.sealed, Answer.refused, answer_to, ascii, decimal, printed, output}
use Rattle.command.specs.Machine.{Prints}
use Rattle.command.proofs.Digits.{hex_length}

pub one_digit : (n : ℕ) → n < 10 → ascii "refused " ++ ((0x30 + n % 10) ∷ 0x0a ∷ []) ≡ printed (refused n)
unfolding printed decimal
one_digit n h = rw (lt-ltb n 10 h)

pub two_digits : (n : ℕ) → 10 ≤ n → ascii "refused " ++ ((0x30 + n / 10 % 10) ∷ (0x30 + n % 10) ∷ 0x0a ∷ []) ≡ printed (refused n)
unfolding printed decimal
two_digits n h = rw (le-ltb n 10 h)

pub both_lines : (c t : List ℕ) → ascii "cipher=" ++ hex_of c ++ ascii "\nauth=" ++ hex_of t ++ ascii "\n" ≡ printed (sealed c t)
unfolding printed
both_lines c t = simp append_assoc

pub refused_length : (n : ℕ) → length (printed (refused n)) ≤ 11
unfolding printed decimal
refused_length n = by (ltb n 10)
  where
    by : (t : Bool) → length (ascii "refused " ++ pick t ((0x30 + n % 10) ∷ []) ((0x30 + n / 10 % 10) ∷ (0x30 + n % 10) ∷ []) ++ (0x0a ∷ [])) ≤ 11
    by true = lit≤ tt
    by false = lit≤ tt

pub sealed_length : (c t : List ℕ) → length c ≤ 4096 → length t ≡ 16 → length (printed (sealed c t)) ≤ 8238
unfolding printed
sealed_length c t h e = simp (length-append, hex_length) (omega arith)

-- an answer that is printed is the output
pub answered : (s : List ℕ) {before after : List ℕ} {n : ℕ} (a : Answer) → answer_to (lines_in s) ≡ a → Prints (printed a) before after n → Prints (output s) before after n
unfolding output
answered s {before} {after} {n} a e p = subst (λ (b : Answer). Prints (printed b) before after n) (sym e) p
