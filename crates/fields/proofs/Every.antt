-- Tests that all hold: each does, and one that does not breaks all; and of lists one behind the other.
use Rattle.std.proofs.Common.{◌≡◌, ℕ, zero, suc, ◌<◌, Bool, true, false, ◌&&◌, List, [], ◌∷◌, ◌++◌, map, length, get_or, sym, refl, ap, ◌∙◌, true≢false, arith}
use mathlib.Core.Bool.{and_assoc}
use Rattle.words.proofs.Tests.{and_left, and_right}
use Rattle.fields.specs.Fields.{every}

pub every_at : (l : List Bool) → every l ≡ true → (i : ℕ) → get_or l i true ≡ true
unfolding every
every_at [] e i = refl
every_at (true ∷ l) e zero = refl
every_at (true ∷ l) e (suc i) = every_at l e i
every_at (false ∷ l) e i = absurd (true≢false (sym e))

pub every_not : (l : List Bool) (i : ℕ) → get_or l i true ≡ false → every l ≡ false
unfolding every
every_not [] i e = e
every_not (true ∷ l) zero e = absurd (true≢false e)
every_not (true ∷ l) (suc i) e = every_not l i e
every_not (false ∷ l) i e = refl

pub every_append : (p : List ℕ → Bool) (us vs : List (List ℕ)) → every (map p (us ++ vs)) ≡ (every (map p us) && every (map p vs))
unfolding every
every_append p [] vs = refl
every_append p (b ∷ us) vs = ap (λ (c : Bool). p b && c) (every_append p us vs) ∙ sym (and_assoc (p b) (every (map p us)) (every (map p vs)))

-- one of them
pub every_in : (p : List ℕ → Bool) (bs : List (List ℕ)) → every (map p bs) ≡ true → (i : ℕ) → i < length bs → p (get_or bs i []) ≡ true
unfolding every
every_in p [] e i h = absurd (omega arith)
every_in p (b ∷ bs) e zero h = and_left (p b) (every (map p bs)) e
every_in p (b ∷ bs) e (suc i) h = every_in p bs (and_right (p b) (every (map p bs)) e) i (omega arith)
