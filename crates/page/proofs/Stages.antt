-- Every session that a list of calls reaches is one of two: still taking data, or taking text. Either is wholly determined by key, IV and the
-- pieces accepted so far, and each call moves it to the next, so that sealing by pieces is sealing at once.
use mathlib.Core.Path.{◌≡◌, refl, sym, ap, ap₂, ◌∙◌}
use mathlib.Core.List.{List, [], ◌∷◌, ◌++◌, append_assoc, append-nil}
use Prim.Native.Nat.{ℕ, ◌+◌, ◌/◌, ◌%◌}
use native.Mathlib.Nat.{zero-add}
use lib.ListN.{length, get_or, length-append}
use Rattle.words.specs.Xor.{◌⊕◌}
use Rattle.words.specs.Bytes.{zeros}
use Rattle.ghash.specs.Hash.{ceil16}
use Rattle.cipher.specs.Run.{forward, moves}
use Rattle.cipher.specs.State.{moved}
use Rattle.start.specs.Start.{Mode.sealed, started, sealed_keystream}
use Rattle.digest.specs.Sum.{Sum, fresh}
use Rattle.digest.specs.Digest.{push, absorb, settled}
use Rattle.digest.proofs.Pieces.{absorb_append, absorb_one}
use Rattle.session.specs.Session.{Session, drawn_at}
use Rattle.session.specs.Calls.{begun}
use Rattle.session.specs.Pieces.{data_taken, closed, byte_current, byte_out, byte_taken, text_taken, text_out}
use Rattle.session.proofs.Drawing.{state_next, current_is, current_next}
use Rattle.page.specs.Page.{encrypted, cipher_of}
use Rattle.page.proofs.Phases.{ad_sum, text_sum}
use Rattle.page.proofs.Ciphertext.{stream_byte, encrypted_append, encrypted_one, encrypted_length}

-- the data accepted, and the text once a piece of it, even an empty one, has closed the data
pub data Stage : Type 0 where
  taking_data : (ad : List ℕ) → Stage
  taking_text : (ad text : List ℕ) → Stage

abbrev pub ad_of : Stage → List ℕ
ad_of (taking_data d) = d
ad_of (taking_text d t) = d

abbrev pub text_of : Stage → List ℕ
text_of (taking_data d) = []
text_of (taking_text d t) = t

unfoldable pub phase_at : Stage → ℕ
phase_at (taking_data d) = 0
phase_at (taking_text d t) = 1

module _ (key iv : List ℕ) where
  unfoldable pub sum_at : Stage → Sum
  sum_at (taking_data d) = ad_sum (sealed_keystream key iv 0) d
  sum_at (taking_text d t) = text_sum (sealed_keystream key iv 0) d (cipher_of key iv t)

  -- the session: as many blocks are drawn as the text needs, and the current one is the block drawn last
  unfoldable pub session_at : Stage → Session
  session_at g =
      record {
        phase = phase_at g;
        ad = length (ad_of g);
        text = length (text_of g);
        state = moved forward (drawn_at (length (text_of g))) (started key iv sealed);
        h = sealed_keystream key iv 0;
        pad = sealed_keystream key iv 1;
        current = sealed_keystream key iv (1 + ceil16 (length (text_of g)));
        sum = sum_at g;
        iv = iv;
      }

  -- ---- begin, data

  pub begun_at : begun key iv ≡ session_at (taking_data [])
  unfolding begun session_at phase_at sum_at moves absorb
  begun_at = refl

  pub data_at : (d p : List ℕ) → data_taken (session_at (taking_data d)) p ≡ session_at (taking_data (d ++ p))
  unfolding data_taken session_at phase_at sum_at
  data_at d p =
      λ i. record {
        phase = 0;
        ad = sym (length-append d p) i;
        text = 0;
        state = moved forward (drawn_at 0) (started key iv sealed);
        h = sealed_keystream key iv 0;
        pad = sealed_keystream key iv 1;
        current = sealed_keystream key iv (1 + ceil16 0);
        sum = (ap (λ (n : ℕ). absorb (sealed_keystream key iv 0) (ad_sum (sealed_keystream key iv 0) d) n p) (sym (zero-add (length d)))
            ∙ absorb_append (sealed_keystream key iv 0) (fresh zeros) 0 d p) i;
        iv = iv;
      }

  -- ---- text

  pub closed_at : (g : Stage) → closed (session_at g) ≡ session_at (taking_text (ad_of g) (text_of g))
  unfolding closed session_at phase_at sum_at encrypted absorb
  closed_at (taking_data d) = refl
  closed_at (taking_text d t) = refl

  module _ (d t : List ℕ) where
    -- the block in use is the keystream's block for this byte
    current_at : byte_current (session_at (taking_text d t)) ≡ sealed_keystream key iv (2 + length t / 16)
    unfolding session_at
    current_at = current_is (started key iv sealed) (session_at (taking_text d t)) refl refl

    pub byte_at : (b : ℕ) → byte_out (session_at (taking_text d t)) b ≡ b ⊕ stream_byte key iv (length t)
    unfolding byte_out session_at
    byte_at b = ap (λ (c : List ℕ). b ⊕ get_or c (length t % 16) 0) current_at

    module _ (b : ℕ) where
      -- one byte more of the ciphertext
      cipher_next : cipher_of key iv (t ++ (b ∷ [])) ≡ cipher_of key iv t ++ (byte_out (session_at (taking_text d t)) b ∷ [])
      cipher_next =
          encrypted_append key iv 0 t (b ∷ [])
          ∙ ap (λ (c : List ℕ). cipher_of key iv t ++ c)
          (ap (λ (n : ℕ). encrypted key iv n (b ∷ [])) (zero-add (length t)) ∙ encrypted_one key iv (length t) b
          ∙ ap (λ (x : ℕ). x ∷ []) (sym (byte_at b)))

      sum_next : push (sealed_keystream key iv 0) (sum_at (taking_text d t)) (length t) (byte_out (session_at (taking_text d t)) b)
          ≡ sum_at (taking_text d (t ++ (b ∷ [])))
      unfolding sum_at
      sum_next =
          let h : List ℕ = sealed_keystream key iv 0 in
          let from : Sum = fresh (settled h (ad_sum h d) (length d)) in
          let c : List ℕ = cipher_of key iv t in
          let o : ℕ = byte_out (session_at (taking_text d t)) b in
          let n : length t ≡ 0 + length c = sym (encrypted_length key iv 0 t) ∙ sym (zero-add (length c)) in
          ap (λ (i : ℕ). push h (absorb h from 0 c) i o) n
          ∙ sym (absorb_one h (absorb h from 0 c) (0 + length c) o)
          ∙ absorb_append h from 0 c (o ∷ [])
          ∙ ap (absorb h from 0) (sym cipher_next)

      pub byte_taken_at : byte_taken (session_at (taking_text d t)) b ≡ session_at (taking_text d (t ++ (b ∷ [])))
      unfolding byte_taken session_at phase_at
      byte_taken_at =
          let u = session_at (taking_text d t) in
          let one : length t + 1 ≡ length (t ++ (b ∷ [])) = sym (length-append t (b ∷ [])) in
          λ i. record {
            phase = 1;
            ad = length d;
            text = one i;
            state = (state_next (started key iv sealed) u refl b ∙ ap (λ (n : ℕ). moved forward (drawn_at n) (started key iv sealed)) one) i;
            h = sealed_keystream key iv 0;
            pad = sealed_keystream key iv 1;
            current = (current_next (started key iv sealed) u refl refl b ∙ ap (λ (n : ℕ). sealed_keystream key iv (1 + ceil16 n)) one) i;
            sum = sum_next i;
            iv = iv;
          }

  pub text_taken_at : (d t p : List ℕ) → text_taken (session_at (taking_text d t)) p ≡ session_at (taking_text d (t ++ p))
  unfolding text_taken
  text_taken_at d t [] = ap (λ (u : List ℕ). session_at (taking_text d u)) (sym (append-nil t))
  text_taken_at d t (b ∷ p) =
      ap (λ (s : Session). text_taken s p) (byte_taken_at d t b)
      ∙ text_taken_at d (t ++ (b ∷ [])) p
      ∙ ap (λ (u : List ℕ). session_at (taking_text d u)) (append_assoc t (b ∷ []) p)

  -- what a piece writes is its part of the page's ciphertext
  pub text_out_at : (d t p : List ℕ) → text_out (session_at (taking_text d t)) p ≡ encrypted key iv (length t) p
  unfolding text_out encrypted
  text_out_at d t [] = refl
  text_out_at d t (b ∷ p) =
      ap₂ (λ (x : ℕ) (l : List ℕ). x ∷ l) (byte_at d t b)
      (ap (λ (s : Session). text_out s p) (byte_taken_at d t b)
      ∙ text_out_at d (t ++ (b ∷ [])) p
      ∙ ap (λ (n : ℕ). encrypted key iv n p) (length-append t (b ∷ [])))
