-- Blocks under keystream, batch by batch: so many are under the keystream that registers make, and the registers have gone as far.
use mathlib.Core.Path.{◌≡◌, refl, sym, ap, ap₂, ◌∙◌}
use mathlib.Core.List.{List, ◌++◌}
use Prim.Native.Nat.{ℕ, ◌+◌, ◌*◌, ◌≤◌}
use native.Mathlib.Omega.{arith}
use lib.ListN.{length, take}
use lib.Seq.{sets, slice, take-add, length-take-le}
use Rattle.words.specs.Xor.{xors}
use Rattle.words.proofs.Rows.{xors_length, xors_append}
use Rattle.words.proofs.Writing.{put_next}
use Rattle.cipher.specs.Registers.{Registers, IsRegisters}
use Rattle.cipher.specs.Run.{forward, moves, blocks}
use Rattle.cipher.proofs.Moves.{moves_add, blocks_add, blocks_length}
use Rattle.digest.proofs.Slices.{slice_take}
use Rattle.pass.specs.Inner.{under_blocks}

-- the registers s have gone i steps, to t, and i blocks of p are under their keystream in the output that was o
pub record Masked (s : Registers) (p o : List ℕ) (i : ℕ) (t : Registers) (out : List ℕ) : Type 0 where
  pub state : t ≡ moves forward i s
  pub written : out ≡ sets o 0 (under_blocks s i (take (16 * i) p))

module _ (s : Registers) (g : IsRegisters s) (p o : List ℕ) where
  pub masked_none : Masked s p o 0 s o
  unfolding moves xors
  masked_none = record { state = refl; written = refl }

  -- k blocks more, behind those
  pub masked_more : (i k : ℕ) {t t' : Registers} {out out' : List ℕ} → 16 * (i + k) ≤ length p → Masked s p o i t out → t' ≡ moves forward k t
      → out' ≡ sets out (16 * i) (under_blocks t k (slice (16 * i) (16 * i + 16 * k) p)) → Masked s p o (i + k) t' out'
  masked_more i k {t} {t'} {out} {out'} fits m et eo =
      let a = take (16 * i) p in
      let b = slice (16 * i) (16 * i + 16 * k) p in
      let la : length a ≡ length (blocks forward i s) = length-take-le (16 * i) p (omega arith) ∙ sym (blocks_length forward i s g) in
      let joined : under_blocks s i a ++ under_blocks (moves forward i s) k b ≡ under_blocks s (i + k) (take (16 * (i + k)) p) =
      sym (xors_append a (blocks forward i s) b (blocks forward k (moves forward i s)) la)
      ∙ ap₂ xors
      (ap (λ (l : List ℕ). a ++ l) (slice_take (16 * i) (16 * k) p) ∙ sym (take-add (16 * i) (16 * k) p) ∙ ap (λ (n : ℕ). take n p) (omega arith))
      (sym (blocks_add forward i k s)) in
      record {
        state = et ∙ ap (moves forward k) m.state ∙ moves_add forward i k s;
        written = put_next o (under_blocks s i a) (under_blocks (moves forward i s) k b) 0 (16 * i) (omega (arith, xors_length a (blocks forward i s) la, la, blocks_length forward i s g)) m.written
            (eo ∙ ap (λ (u : Registers). sets out (16 * i) (under_blocks u k b)) m.state) ∙ ap (sets o 0) joined;
      }
