-- A mark that is read, compared with one: the bytes are compared.
use Rattle.std.proofs.Common.{◌≡◌, ℕ, ◌≤◌, eqb, leb, Option, Some, None, is_some, refl, sym, ap, ◌∙◌, arith, ne_eqb}
use Rattle.std.specs.Option.{option_eq}
use borrow.Author.Tests.{le-leb, lt-leb}
use Rattle.key_store.specs.Machine.{mark_number}
use Rattle.key_store.specs.Inner.{Reads}
use Rattle.key_store.specs.declared.Mark.{Mark}
use Rattle.key_store.specs.declared.Mark.TheVariants.{Empty, Held, Erased}
use Rattle.key_store.specs.contracts.MarkPartialEq.TheImpl as Equal

one_of_three : (m : Mark) → mark_number m ≤ 2
one_of_three Empty = omega arith
one_of_three Held = omega arith
one_of_three Erased = omega arith

equal_as : (m k : Mark) → (Equal.eq-value).it m k ≡ eqb (mark_number m) (mark_number k)
equal_as Empty Empty = refl
equal_as Empty Held = refl
equal_as Empty Erased = refl
equal_as Held Empty = refl
equal_as Held Held = refl
equal_as Held Erased = refl
equal_as Erased Empty = refl
equal_as Erased Held = refl
equal_as Erased Erased = refl

-- whether it is this mark
pub read_as : (b : ℕ) (o : Option Mark) (k : Mark) → Reads b o → option_eq (Equal.eq-value).it o (Some k) ≡ eqb b (mark_number k)
read_as b None k h = let l = one_of_three k in sym (ne_eqb b (mark_number k) (λ e. omega arith))
read_as b (Some m) k h = equal_as m k ∙ ap (λ (n : ℕ). eqb n (mark_number k)) h

-- whether it is one
pub read_some : (b : ℕ) (o : Option Mark) → Reads b o → is_some o ≡ leb b 2
read_some b None h = sym (lt-leb b 2 h)
read_some b (Some m) h = let l = one_of_three m in sym (le-leb b 2 (omega arith))
