-- GHASH of bytes that arrive one by one (document 01, "Tag arithmetic" and "Sessions and parking"; SP 800-38D, section 6.4). A byte comes with its
-- number in its phase, from 0. For sessions that calls can reach this need not be believed by reading: crates/page/specs/Reached.antt has what they hold.
use Rattle.std.specs.Prelude.{ℕ, ◌+◌, ◌%◌, List, [], ◌∷◌, eqb, set}
use Rattle.scope.specs.Refusals.{pick}
use Rattle.ghash.specs.Hash.{eat}
use Rattle.digest.specs.Sum.{Sum, fresh}

-- one byte more, of number n: the sixteenth sends the block on
unfoldable pub push : (h : List ℕ) → Sum → (n b : ℕ) → Sum
push h y n b =
    pick (eqb (n % 16) 15)
    (fresh (eat h y.hash (set y.pending (n % 16) b)))
    (record { hash = y.hash; pending = set y.pending (n % 16) b })

-- bytes from number n on
unfoldable pub absorb : (h : List ℕ) → Sum → (n : ℕ) → List ℕ → Sum
absorb h y n [] = y
absorb h y n (b ∷ s) = absorb h (push h y n b) (n + 1) s

-- the hash once n bytes are in: what is held is padded with zeros and sent on
unfoldable pub settled : (h : List ℕ) → Sum → (n : ℕ) → List ℕ
settled h y n = pick (eqb (n % 16) 0) y.hash (eat h y.hash y.pending)
