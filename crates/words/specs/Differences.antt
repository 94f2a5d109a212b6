-- What undoes ⊞: the four words of two blocks are subtracted modulo 2^32, with no borrow between words. It need not be believed by reading: `⊟-⊞` and `⊞-⊟`
-- of proofs/Sums.antt say that the two undo each other.
use Rattle.std.specs.Prelude.{ℕ, ◌+◌, ◌-◌, ◌%◌, ◌^◌, List}
use Rattle.words.specs.Sums.{wordwise}

abbrev pub sub32 : ℕ → ℕ → ℕ
sub32 x y = (x + (2 ^ 32 - y)) % 2 ^ 32

infixl 60 ◌⊟◌
unfoldable pub ◌⊟◌ : List ℕ → List ℕ → List ℕ
x ⊟ y = wordwise sub32 x y
