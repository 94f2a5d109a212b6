-- What a session is that calls have reached, from the key, the IV and the pieces that it has accepted (document 01, "Tag arithmetic" and "Sessions
-- and parking"): as many blocks are drawn as its text needs, the hash so far is GHASH of the whole blocks accepted, and the bytes behind them are
-- not yet hashed. Of such a session nothing has to be believed of how its calls go about it.
use Rattle.std.specs.Prelude.{ℕ, ◌+◌, ◌-◌, ◌%◌, Bool, true, false, List, [], ◌++◌, length, replicate}
use Rattle.ghash.specs.Hash.{ghash, whole_blocks, rest, ceil16, padded}
use Rattle.cipher.specs.Run.{forward}
use Rattle.cipher.specs.State.{moved}
use Rattle.start.specs.Start.{Mode.sealed, started, sealed_keystream}
use Rattle.digest.specs.Sum.{Sum}
use Rattle.session.specs.Session.{Session, drawn_at}
use Rattle.page.specs.Page.{cipher_of}

-- s arriving behind what is hashed already: its whole blocks are hashed, the rest is held from the left in a block, with zeros behind
abbrev pub arrived : (h hashed s : List ℕ) → Sum
arrived h hashed s = record { hash = ghash h (hashed ++ whole_blocks s); pending = rest s ++ replicate (16 - length s % 16) 0 }

-- while no text piece is accepted the data arrive; the first one, even an empty one, closes them, and the ciphertext arrives behind the padded data
abbrev pub sum_of : (key iv ad text : List ℕ) → (text_begun : Bool) → Sum
sum_of key iv d t false = arrived (sealed_keystream key iv 0) [] d
sum_of key iv d t true = arrived (sealed_keystream key iv 0) (padded d) (cipher_of key iv t)

abbrev pub phase_of : (text_begun : Bool) → ℕ
phase_of false = 0
phase_of true = 1

-- the session
unfoldable pub session_for : (key iv ad text : List ℕ) → (text_begun : Bool) → Session
session_for key iv d t begun =
    record {
      phase = phase_of begun;
      ad = length d;
      text = length t;
      state = moved forward (drawn_at (length t)) (started key iv sealed);
      h = sealed_keystream key iv 0;
      pad = sealed_keystream key iv 1;
      current = sealed_keystream key iv (1 + ceil16 (length t));
      sum = sum_of key iv d t begun;
      iv = iv;
    }
