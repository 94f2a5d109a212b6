-- What a session makes of a piece, byte by byte (document 01, "Tag arithmetic" and "Sessions and parking"). Of a session that calls can reach this need
-- not be believed by reading: crates/claims/specs/Claims.antt states what such a session is and has written, from the pieces that it accepted. It says as
-- well what a call does on a session that no list of calls reaches, one that a caller made up.
use Rattle.std.specs.Prelude.{ℕ, ◌+◌, ◌%◌, List, [], ◌∷◌, eqb, get_or, length}
use Rattle.scope.specs.Refusals.{pick}
use Rattle.words.specs.Xor.{◌⊕◌, xors}
use Rattle.ghash.specs.Hash.{lengths, eat}
use Rattle.cipher.specs.Step.{z}
use Rattle.cipher.specs.Run.{forward}
use Rattle.cipher.specs.State.{moved}
use Rattle.digest.specs.Sum.{fresh}
use Rattle.digest.specs.Digest.{push, absorb, settled}
use Rattle.session.specs.Session.{Session}

-- ---- data

unfoldable pub data_taken : Session → (piece : List ℕ) → Session
data_taken s p =
    record {
      phase = 0;
      ad = s.ad + length p;
      text = s.text;
      state = s.state;
      h = s.h;
      pad = s.pad;
      current = s.current;
      sum = absorb s.h s.sum s.ad p;
      iv = s.iv;
    }

-- ---- text

-- the first text closes the data: what is held of it is padded with zeros and hashed. Nothing is left to do where that is done
unfoldable pub closed : Session → Session
closed s =
    pick (eqb s.phase 0)
    (record {
      phase = 1;
      ad = s.ad;
      text = s.text;
      state = s.state;
      h = s.h;
      pad = s.pad;
      current = s.current;
      sum = fresh (settled s.h s.sum s.ad);
      iv = s.iv;
    })
    s

-- the keystream block for the next byte: one is drawn where the length so far is a multiple of 16, and not before
unfoldable pub byte_current : Session → List ℕ
byte_current s = pick (eqb (s.text % 16) 0) (z s.state.registers) s.current

-- a byte of text sealed
unfoldable pub byte_out : Session → ℕ → ℕ
byte_out s b = b ⊕ get_or (byte_current s) (s.text % 16) 0

unfoldable pub byte_taken : Session → ℕ → Session
byte_taken s b =
    record {
      phase = s.phase;
      ad = s.ad;
      text = s.text + 1;
      state = pick (eqb (s.text % 16) 0) (moved forward 1 s.state) s.state;
      h = s.h;
      pad = s.pad;
      current = byte_current s;
      sum = push s.h s.sum s.text (byte_out s b);
      iv = s.iv;
    }

-- a piece: the session after it, and its ciphertext
unfoldable pub text_taken : Session → (piece : List ℕ) → Session
text_taken s [] = s
text_taken s (b ∷ p) = text_taken (byte_taken s b) p

unfoldable pub text_out : Session → (piece : List ℕ) → List ℕ
text_out s [] = []
text_out s (b ∷ p) = byte_out s b ∷ text_out (byte_taken s b) p

-- ---- the tag

-- the hash of all, both lengths last, xor the end pad
unfoldable pub tag_of : Session → List ℕ
tag_of s =
    xors (eat s.h (settled s.h (closed s).sum s.text) (lengths s.ad s.text)) s.pad
