-- Whole blocks of text, from the start of one: their ciphertext is the text under as many blocks of keystream, and the hash so far goes over it.
use mathlib.Core.Path.{◌≡◌, sym, ap, ap₂, subst, ◌∙◌}
use mathlib.Core.List.{List, [], ◌∷◌, ◌++◌}
use Prim.Native.Nat.{ℕ, zero, suc, ◌+◌, ◌-◌, ◌*◌, ◌%◌, ◌<◌}
use native.Mathlib.Omega.{arith}
use lib.ListN.{length, take, drop, take-append-drop, length-take, length-drop}
use Rattle.words.specs.Xor.{xors}
use Rattle.words.proofs.Rows.{xors_append}
use Rattle.ghash.specs.Hash.{hash_from}
use Rattle.cipher.specs.Registers.{Registers, IsRegisters}
use Rattle.cipher.specs.Step.{z}
use Rattle.cipher.specs.Run.{forward, made, moves, zs, blocks}
use Rattle.cipher.specs.State.{State, moved}
use Rattle.cipher.proofs.Inverse.{z_block}
use Rattle.cipher.proofs.Moves.{moves_good, blocks_more, blocks_length}
use Rattle.cipher.proofs.Stepping.{moved_none, moved_more}
use Rattle.digest.specs.Sum.{fresh}
use Rattle.digest.proofs.Pieces.{absorb_over, absorb_whole}
use Rattle.pass.specs.Inner.{under_blocks}
use Rattle.session.specs.Session.{Session}
use Rattle.session.specs.Pieces.{text_taken, text_out}
use Rattle.session.proofs.Pieces.{text_none, out_none, text_append, out_append, out_length, text_count, text_phase, text_ad, text_h, text_pad, text_iv, text_sum}
use Rattle.session.proofs.Within.{ready_start, drawn_once, block_out}

-- one block more under the keystream
under_more : (s : Registers) → IsRegisters s → (k : ℕ) (a b : List ℕ) → length a ≡ 16 * k
    → under_blocks s (suc k) (a ++ b) ≡ under_blocks s k a ++ xors b (z (moves forward k s))
unfolding made
under_more s g k a b e =
    ap (xors (a ++ b)) (blocks_more forward k s) ∙ xors_append a (blocks forward k s) b (z (moves forward k s)) (e ∙ sym (blocks_length forward k s g))

module _ (s : Session) (g : IsRegisters s.state.registers) (start : s.text % 16 ≡ 0) where
  abbrev r : Registers
  r = s.state.registers

  -- what the blocks write, and where they leave the cipher
  pub record Drawn (k : ℕ) (p : List ℕ) : Type 0 where
    pub state : (text_taken s p).state ≡ moved forward k s.state
    pub current : (j : ℕ) → k ≡ suc j → (text_taken s p).current ≡ z (moves forward j r)
    pub output : text_out s p ≡ under_blocks r k p

  drawn_more : (k : ℕ) (a b : List ℕ) → length a ≡ 16 * k → length b ≡ 16 → Drawn k a → Drawn (suc k) (a ++ b)
  drawn_more k a b ea eb d =
      let u = text_taken s a in
      let n = text_count s a in
      let at : u.text % 16 ≡ 0 = omega arith in
      let er : u.state.registers ≡ moves forward k r = ap (λ (t : State). t.registers) d.state in
      let long : length (z u.state.registers) ≡ 16 = ap (λ (q : Registers). length (z q)) er ∙ (z_block (moves forward k r) (moves_good forward k r g)).long in
      let on = drawn_once u b (omega arith) (omega arith) in
      let f = ready_start u at in
      record {
        state = ap (λ (v : Session). v.state) (text_append s a b) ∙ on.0 ∙ ap (λ (v : Session). v.state) f ∙ ap (moved forward 1) d.state
            ∙ moved_more forward k s.state;
        current = λ j e. ap (λ (v : Session). v.current) (text_append s a b) ∙ on.1 ∙ ap (λ (v : Session). v.current) f
            ∙ ap z er ∙ ap (λ (m : ℕ). z (moves forward m r)) (let f : k ≡ j = omega arith in f);
        output = out_append s a b
            ∙ ap₂ (λ (x y : List ℕ). x ++ y) d.output (block_out u b at eb long ∙ ap (λ (q : Registers). xors b (z q)) er)
            ∙ sym (under_more r g k a b ea);
      }

  pub drawn_blocks : (k : ℕ) (p : List ℕ) → length p ≡ 16 * k → Drawn k p
  unfolding blocks zs xors
  drawn_blocks zero [] e =
      record {
        state = ap (λ (v : Session). v.state) (text_none s) ∙ sym (moved_none forward s.state);
        current = λ j f. absurd (omega arith);
        output = out_none s;
      }
  drawn_blocks zero (x ∷ p) e = absurd (omega arith)
  drawn_blocks (suc k) p e =
      let a = take (16 * k) p in
      let b = drop (16 * k) p in
      let ea : length a ≡ 16 * k = simp length-take (omega arith) in
      let eb : length b ≡ 16 = simp length-drop (omega arith) in
      subst (Drawn (suc k)) (take-append-drop (16 * k) p) (drawn_more k a b ea eb (drawn_blocks k a ea))

  -- the session then
  pub whole_taken : (k : ℕ) (p : List ℕ) → length p ≡ 16 * k → 0 < k → length s.sum.pending ≡ 16
      → text_taken s p
      ≡ record {
        phase = s.phase;
        ad = s.ad;
        text = s.text + 16 * k;
        state = moved forward k s.state;
        h = s.h;
        pad = s.pad;
        current = z (moves forward (k - 1) r);
        sum = fresh (hash_from s.h s.sum.hash (under_blocks r k p));
        iv = s.iv;
      }
  whole_taken k p e some long =
      let d = drawn_blocks k p e in
      let n = out_length s p in
      λ i. record {
        phase = text_phase s p i;
        ad = text_ad s p i;
        text = (text_count s p ∙ ap (λ (m : ℕ). s.text + m) e) i;
        state = d.state i;
        h = text_h s p i;
        pad = text_pad s p i;
        current = d.current (k - 1) (omega arith) i;
        sum = (text_sum s p ∙ absorb_over s.h s.sum s.text (text_out s p) long start (omega arith)
            ∙ absorb_whole s.h s.sum.hash s.text (text_out s p) start (omega arith)
            ∙ ap (λ (c : List ℕ). fresh (hash_from s.h s.sum.hash c)) d.output) i;
        iv = text_iv s p i;
      }
