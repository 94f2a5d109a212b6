-- What every byte keeps, a piece keeps: the hash stays a block, what is held stays 16 bytes, and behind the bytes held stand zeros.
use mathlib.Core.Path.{◌≡◌, refl, ap, ◌∙◌}
use mathlib.Core.Bool.{Bool, true, false}
use mathlib.Core.List.{List, [], ◌∷◌}
use Prim.Native.Nat.{ℕ, zero, suc, ◌+◌, ◌%◌, ◌≤◌, ◌<◌}
use native.Mathlib.Decide.{ℕ_discrete}
use native.Mathlib.Nat.{add-zero}
use native.Mathlib.Omega.{arith}
use lib.Dec.{eqb}
use lib.ListN.{length, get_or, replicate, set, length-set}
use lib.Seq.{get_or-set_other}
use Rattle.scope.specs.Refusals.{pick}
use Rattle.words.specs.Bytes.{IsBlock}
use Rattle.words.proofs.Rows.{Below, row_set, zeros_block}
use Rattle.ghash.specs.Hash.{eat}
use Rattle.ghash.proofs.Hashing.{eat_block}
use Rattle.digest.specs.Sum.{Sum, fresh}
use Rattle.digest.specs.Digest.{push, absorb, settled}
use Rattle.digest.proofs.Pieces.{sum, push_inside, push_fills}

-- both ways that a byte can go
picked {ℓ} : {A : Type 0} (P : A → Type ℓ) (t : Bool) {a b : A} → P a → P b → P (pick t a b)
picked P true p q = p
picked P false p q = q

-- what holds of bytes, and stays through each, stays through all
pub absorb_kept : (P : Sum → Type 0) (Q : ℕ → Type 0) (h : List ℕ)
    → ((y : Sum) (n b : ℕ) → Q b → P y → P (fresh (eat h y.hash (set y.pending (n % 16) b))))
    → ((y : Sum) (n b : ℕ) → Q b → P y → P (sum y.hash (set y.pending (n % 16) b)))
    → (y : Sum) (n : ℕ) (s : List ℕ) → ((i : ℕ) → Q (get_or s i 0)) → P y → P (absorb h y n s)
unfolding absorb push
absorb_kept P Q h full few y n [] q p = p
absorb_kept P Q h full few y n (b ∷ s) q p =
    absorb_kept P Q h full few (push h y n b) (n + 1) s (λ i. q (suc i))
    (picked P (eqb (n % 16) 15) (full y n b (q 0) p) (few y n b (q 0) p))

module _ (h : List ℕ) (y : Sum) (n : ℕ) (s : List ℕ) where
  pub absorb_hash_block : IsBlock y.hash → IsBlock (absorb h y n s).hash
  absorb_hash_block =
      absorb_kept (λ u. IsBlock u.hash) (λ b. Unit {0}) h (λ u m b q p. eat_block h u.hash _) (λ u m b q p. p) y n s (λ i. tt)

  pub absorb_pending_long : length y.pending ≡ 16 → length (absorb h y n s).pending ≡ 16
  absorb_pending_long =
      absorb_kept (λ u. length u.pending ≡ 16) (λ b. Unit {0}) h (λ u m b q p. refl) (λ u m b q p. length-set u.pending (m % 16) b ∙ p) y n s (λ i. tt)

  pub absorb_pending_block : Below 256 s → IsBlock y.pending → IsBlock (absorb h y n s).pending
  absorb_pending_block =
      absorb_kept (λ u. IsBlock u.pending) (λ b. b < 256) h (λ u m b q p. zeros_block) (λ u m b q p. row_set 16 256 (m % 16) b q p) y n s

pub settled_block : (h : List ℕ) (y : Sum) (n : ℕ) → IsBlock y.hash → IsBlock (settled h y n)
unfolding settled
settled_block h y n p = picked IsBlock (eqb (n % 16) 0) p (eat_block h y.hash y.pending)

-- ---- zeros behind the bytes held

-- n bytes are in, and past those of them that are held stand zeros
abbrev pub ZerosBehind : ℕ → Sum → Type 0
ZerosBehind n y = (i : ℕ) → n % 16 ≤ i → get_or y.pending i 0 ≡ 0

zero_at : (n i : ℕ) → ◌≡◌ {A = ℕ} (get_or (replicate n 0) i 0) 0
zero_at zero i = refl
zero_at (suc n) zero = refl
zero_at (suc n) (suc i) = zero_at n i

-- a hash with no bytes held
pub fresh_behind : (n : ℕ) (y : List ℕ) → ZerosBehind n (fresh y)
fresh_behind n y i k = zero_at 16 i

pub push_behind : (h : List ℕ) (y : Sum) (n b : ℕ) → ZerosBehind n y → ZerosBehind (n + 1) (push h y n b)
push_behind h y n b z i k = go (ℕ_discrete (n % 16) 15)
  where
    go : Dec (n % 16 ≡ 15) → get_or (push h y n b).pending i 0 ≡ 0
    go (yes e) = ap (λ (u : Sum). get_or u.pending i 0) (push_fills h y n b e) ∙ zero_at 16 i
    go (no e) =
        ap (λ (u : Sum). get_or u.pending i 0) (push_inside h y n b (omega (arith, e)))
        ∙ get_or-set_other y.pending (n % 16) i b 0 (omega (arith, e, k))
        ∙ z i (omega (arith, e, k))

pub absorb_behind : (h : List ℕ) (y : Sum) (n : ℕ) (s : List ℕ) → ZerosBehind n y → ZerosBehind (n + length s) (absorb h y n s)
unfolding absorb
absorb_behind h y n [] z i k = z i (rw (add-zero n) at k)
absorb_behind h y n (b ∷ s) z i k =
    let e : n + suc (length s) ≡ n + 1 + length s = omega arith in
    absorb_behind h (push h y n b) (n + 1) s (push_behind h y n b z) i (rw e at k)
