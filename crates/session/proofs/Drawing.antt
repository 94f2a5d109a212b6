-- Where a session's state is a state r moved on by the blocks that its text draws, and the block in use the one drawn last, a byte of text keeps it so.
use mathlib.Core.Path.{◌≡◌, ap, ◌∙◌}
use Prim.Native.Nat.{ℕ, suc, ◌+◌, ◌/◌, ◌%◌}
use native.Mathlib.Decide.{ℕ_discrete}
use native.Mathlib.Omega.{arith}
use borrow.Author.Tests.{eq-eqb, ne_eqb}
use Rattle.ghash.specs.Hash.{ceil16}
use Rattle.cipher.specs.Step.{z}
use Rattle.cipher.specs.Run.{forward, moves}
use Rattle.cipher.specs.State.{State, moved}
use Rattle.cipher.proofs.Stepping.{moved_more}
use Rattle.session.specs.Session.{Session, drawn_at}
use Rattle.session.specs.Pieces.{byte_current, byte_taken}

module _ (r : State) (s : Session) (state : s.state ≡ moved forward (drawn_at s.text) r) where
  -- one is drawn where the text has filled its blocks
  pub state_next : (b : ℕ) → (byte_taken s b).state ≡ moved forward (drawn_at (s.text + 1)) r
  unfolding byte_taken
  state_next b = go (ℕ_discrete (s.text % 16) 0)
    where
      go : Dec (s.text % 16 ≡ 0) → (byte_taken s b).state ≡ moved forward (drawn_at (s.text + 1)) r
      go (yes e) =
          let n : suc (drawn_at s.text) ≡ drawn_at (s.text + 1) = omega (arith, e) in
          rw (eq-eqb (s.text % 16) 0 e)
          (ap (moved forward 1) state ∙ moved_more forward (drawn_at s.text) r ∙ ap (λ (k : ℕ). moved forward k r) n)
      go (no e) =
          let n : drawn_at s.text ≡ drawn_at (s.text + 1) = omega (arith, e) in
          rw (ne_eqb (s.text % 16) 0 e) (state ∙ ap (λ (k : ℕ). moved forward k r) n)

  module _ (current : s.current ≡ z (moves forward (1 + ceil16 s.text) r.registers)) where
    -- the block in use is the keystream's block for this byte
    pub current_is : byte_current s ≡ z (moves forward (2 + s.text / 16) r.registers)
    unfolding byte_current
    current_is = go (ℕ_discrete (s.text % 16) 0)
      where
        go : Dec (s.text % 16 ≡ 0) → byte_current s ≡ z (moves forward (2 + s.text / 16) r.registers)
        go (yes e) =
            let n : drawn_at s.text ≡ 2 + s.text / 16 = omega (arith, e) in
            rw (eq-eqb (s.text % 16) 0 e) (ap (λ (t : State). z t.registers) state ∙ ap (λ (k : ℕ). z (moves forward k r.registers)) n)
        go (no e) =
            let n : 1 + ceil16 s.text ≡ 2 + s.text / 16 = omega (arith, e) in
            rw (ne_eqb (s.text % 16) 0 e) (current ∙ ap (λ (k : ℕ). z (moves forward k r.registers)) n)

    pub current_next : (b : ℕ) → (byte_taken s b).current ≡ z (moves forward (1 + ceil16 (s.text + 1)) r.registers)
    unfolding byte_taken
    current_next b =
        let n : 2 + s.text / 16 ≡ 1 + ceil16 (s.text + 1) = omega arith in
        current_is ∙ ap (λ (k : ℕ). z (moves forward k r.registers)) n
