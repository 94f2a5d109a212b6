-- What the code's values make of a session, in the terms of the definitions: text held under the block in use, and a block filled.
use mathlib.Core.Path.{◌≡◌, sym, ap, ap₂, ◌∙◌}
use mathlib.Core.List.{List}
use Prim.Native.Nat.{ℕ, ◌+◌, ◌%◌, ◌≤◌, ◌<◌}
use native.Mathlib.Omega.{arith}
use lib.ListN.{length, drop}
use lib.Seq.{sets, length-sets}
use Rattle.words.specs.Xor.{xors}
use Rattle.words.proofs.Blocks.{bytes_of_block}
use Rattle.ghash.specs.Hash.{eat}
use Rattle.digest.specs.Sum.{fresh}
use Rattle.session.specs.declared.Session as machine
use Rattle.session.specs.Session.{Session}
use Rattle.session.specs.Pieces.{text_taken, text_out}
use Rattle.session.specs.Machine.{session_of}
use Rattle.session.specs.Inner.{ready, masked, counted, holding, held}
use Rattle.session.proofs.Within.{within_out, within_few, within_full}

-- ---- text of one block: u is the session made ready, q what it then holds of the text p

module _ (s u : Session) (p key : List ℕ) (eu : u ≡ ready s) (ek : key ≡ u.current) where
  pub held_session : (q : List ℕ) (m : ℕ) → length p ≡ m → q ≡ sets u.sum.pending (u.text % 16) (xors p (drop (u.text % 16) key))
      → holding u q m ≡ held (ready s) p
  unfolding held
  held_session q m en eq =
      ap₂ (holding u) (eq ∙ ap (λ (k : List ℕ). sets u.sum.pending (u.text % 16) (xors p (drop (u.text % 16) k))) ek) (sym en)
      ∙ ap (λ (v : Session). holding v (sets v.sum.pending (v.text % 16) (masked v p)) (length p)) eu

  pub held_out : (o o₁ : List ℕ) (from : ℕ) → o₁ ≡ sets o from (xors p (drop (u.text % 16) key)) → o₁ ≡ sets o from (masked (ready s) p)
  held_out o o₁ from eo =
      eo ∙ ap (λ (k : List ℕ). sets o from (xors p (drop (u.text % 16) k))) ek ∙ ap (λ (v : Session). sets o from (masked v p)) eu

-- ---- the same as the definition has it: r is the session that holds the text, or has sent its block on

pub held_long : (s : Session) (r : machine.Session) (p : List ℕ) → session_of r ≡ held (ready s) p → length r.held.pending ≡ length s.sum.pending
unfolding held ready
held_long s r p er = ap (λ (v : Session). length v.sum.pending) er ∙ simp length-sets

module _ (s : Session) (r : machine.Session) (p : List ℕ) (er : session_of r ≡ held (ready s) p) (some : 0 < length p) where
  ready_long : length (ready s).current ≡ 16
  unfolding held
  ready_long = ap (λ (v : Session). length v.current) (sym er) ∙ (bytes_of_block r.current).long

  pub few_session : s.text % 16 + length p < 16 → session_of r ≡ text_taken s p
  few_session h = er ∙ sym (within_few s p some ready_long (omega arith) h)

  pub part_out : s.text % 16 + length p ≤ 16 → (o o₁ : List ℕ) (from : ℕ) → o₁ ≡ sets o from (masked (ready s) p) → o₁ ≡ sets o from (text_out s p)
  part_out h o o₁ from eo = eo ∙ ap (sets o from) (sym (within_out s p some ready_long h))

  -- y is the hash once the bytes held are sent on
  pub full_session : s.text % 16 + length p ≡ 16 → (y : List ℕ) → y ≡ eat s.h (session_of r).sum.hash r.held.pending
      → counted (session_of r) r.text (fresh y) ≡ text_taken s p
  unfolding held ready
  full_session h y ey =
      ap (λ (x : List ℕ). counted (session_of r) r.text (fresh x)) ey
      ∙ ap (λ (v : Session). counted v v.text (fresh (eat s.h v.sum.hash v.sum.pending))) er
      ∙ sym (within_full s p some ready_long (omega arith) h)
