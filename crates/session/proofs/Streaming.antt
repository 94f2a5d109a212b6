-- The keystream alone, done up to place i: some session has come by text to place i, at the start of a block, with the registers r. What that
-- session holds of the hash does not matter to what it writes, so the code keeps none.
use mathlib.Core.Path.{◌≡◌, refl, sym, ap, subst, ◌∙◌}
use mathlib.Core.List.{List, ◌++◌}
use Prim.Native.Nat.{ℕ, ◌+◌, ◌-◌, ◌*◌, ◌%◌, ◌≤◌, ◌<◌}
use native.Mathlib.Omega.{arith}
use lib.ListN.{length, drop}
use lib.Seq.{sets, slice, length-slice}
use Rattle.words.specs.Xor.{xors}
use Rattle.cipher.specs.Registers.{Registers, IsRegisters}
use Rattle.cipher.specs.Step.{z}
use Rattle.cipher.specs.Run.{forward, moves}
use Rattle.cipher.specs.State.{State}
use Rattle.cipher.proofs.Inverse.{z_block}
use Rattle.cipher.proofs.Moves.{moves_good}
use Rattle.pass.specs.Inner.{under_blocks}
use Rattle.session.specs.Session.{Session}
use Rattle.session.specs.Pieces.{text_taken, text_out}
use Rattle.session.specs.Inner.{ready, masked}
use Rattle.session.proofs.Pieces.{text_count}
use Rattle.session.proofs.Within.{ready_start, within_out}
use Rattle.session.proofs.Whole.{drawn_blocks}
use Rattle.session.proofs.Going.{Going, none, more, whole}

pub record Streaming (s : Session) (p o : List ℕ) (out : List ℕ) (r : Registers) (i : ℕ) : Type 0 where
  pub at : Session
  pub going : Going s p o 0 (length p) out at i
  pub registers : r ≡ at.state.registers
  pub good : IsRegisters r
  pub start : at.text % 16 ≡ 0

pub begun : (s : Session) (p o : List ℕ) (r : Registers) → r ≡ s.state.registers → IsRegisters r → s.text % 16 ≡ 0 → Streaming s p o o r 0
begun s p o r e g h = record { at = s; going = none s p o 0 (length p) (omega arith); registers = e; good = g; start = h }

module _ {s : Session} {p o : List ℕ} {out : List ℕ} {r : Registers} {i : ℕ} (g : Streaming s p o out r i) (out' : List ℕ) where
  -- up to place m, within a block
  pub stream_end : (m : ℕ) → i < m → m - i ≤ 16 → m ≡ length p → out' ≡ sets out i (xors (slice i m p) (z r)) → length p ≤ length o → out' ≡ text_out s p ++ drop (length p) o
  stream_end m some few e eo h =
      let n : length (slice i m p) ≡ m - i = length-slice i m p (omega arith) in
      let start = g.start in
      let ready_long : length (ready g.at).current ≡ 16 =
      ap (λ (u : Session). length u.current) (ready_start g.at start) ∙ ap (λ (q : Registers). length (z q)) (sym g.registers) ∙ (z_block r g.good).long in
      let under-block : text_out g.at (slice i m p) ≡ xors (slice i m p) (z g.at.state.registers) =
      within_out g.at (slice i m p) (omega arith) ready_long (omega arith) ∙ ap (λ (u : Session). masked u (slice i m p)) (ready_start g.at start) ∙ rw start in
      (whole
      (more g.going out' _ m (omega arith) (omega arith) (omega arith) refl
      (eo ∙ ap (λ (q : Registers). sets out i (xors (slice i m p) (z q))) g.registers ∙ ap (sets out i) (sym under-block)))
      e h).1

  -- k blocks more
  pub stream_blocks : (k : ℕ) → i + 16 * k ≤ length p → out' ≡ sets out i (under_blocks r k (slice i (i + 16 * k) p)) → (r' : Registers) → r' ≡ moves forward k r
      → Streaming s p o out' r' (i + 16 * k)
  stream_blocks k read eo r' er =
      let part = slice i (i + 16 * k) p in
      let n : length part ≡ 16 * k = length-slice i (i + 16 * k) p read ∙ omega arith in
      let c = text_count g.at part in
      let start = g.start in
      let d = drawn_blocks g.at (subst IsRegisters g.registers g.good) start k part n in
      record {
        at = text_taken g.at part;
        going = more g.going out' _ (i + 16 * k) (omega arith) read (omega arith) refl
            (eo ∙ ap (λ (q : Registers). sets out i (under_blocks q k part)) g.registers ∙ ap (sets out i) (sym d.output));
        registers = er ∙ ap (moves forward k) g.registers ∙ ap (λ (t : State). t.registers) (sym d.state);
        good = subst IsRegisters (sym er) (moves_good forward k r g.good);
        start = omega arith;
      }

-- nothing is left
pub stream_done : {s : Session} {p o : List ℕ} {out : List ℕ} {r : Registers} {i : ℕ} → Streaming s p o out r i → i ≡ length p → length p ≤ length o
    → out ≡ text_out s p ++ drop (length p) o
stream_done g e h = (whole g.going e h).1
