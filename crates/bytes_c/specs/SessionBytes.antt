-- A session in 240 bytes, as C keeps it between calls: document 01 says what a session keeps ("Tag arithmetic" and "Sessions and parking"), document 02
-- adds the IV (S-5), and both leave its form open. Numbers are low byte first; the state is its 120 bytes; a block is 16 bytes. H, the end pad and the
-- keystream block in use are kept too, so that no call walks back for them. The bytes say nothing but what the session is: one that was suspended
-- and resumed has the bytes that it had before.
use Rattle.std.specs.Prelude.{ℕ, ◌≡◌, Bool, not, List, ◌++◌, eqb, length, get_or}
use Rattle.scope.specs.Refusals.{refuse, granted, bad_block}
use Rattle.words.specs.Bytes.{little, number, part}
use Rattle.session.specs.Session.{Session}
use Rattle.bytes_c.specs.Order.{buffer_after}
use Rattle.bytes_c.specs.StateBytes.{state_bytes, state_in}

-- 0-7 phase; 8-15 data length; 16-23 text length; 24-143 the state; 144-159 H; 160-175 end pad; 176-191 keystream block drawn last;
-- 192-207 hash so far; 208-223 bytes not yet hashed; 224-239 the IV
unfoldable pub session_bytes : Session → List ℕ
session_bytes s =
    little 8 s.phase
    ++ little 8 s.ad
    ++ little 8 s.text
    ++ state_bytes s.state
    ++ s.h
    ++ s.pad
    ++ s.current
    ++ s.sum.hash
    ++ s.sum.pending
    ++ s.iv

-- the session that bytes list. A phase is one byte, and bytes 1 to 7 are not read
unfoldable pub session_in : List ℕ → Session
session_in b =
    record {
      phase = get_or b 0 0;
      ad = number (part 8 8 b);
      text = number (part 16 8 b);
      state = state_in (part 24 120 b);
      h = part 144 16 b;
      pad = part 160 16 b;
      current = part 176 16 b;
      sum = record { hash = part 192 16 b; pending = part 208 16 b };
      iv = part 224 16 b;
    }

-- what a call that answers n and gives the session g leaves in a lent session: its bytes, and the session that they then list
pub record Leaves (n : ℕ) (g : Session) (session after : List ℕ) : Type 0 where
  pub bytes : after ≡ buffer_after n 240 (session_bytes g) session
  pub lists : session_in after ≡ granted n g (session_in session)

-- a session that is read is 240 bytes
abbrev pub is_session : (session : List ℕ) → Bool
is_session s = eqb (length s) 240

abbrev pub whole : (session : List ℕ) → ℕ → ℕ
whole s later = refuse (not (is_session s)) bad_block later
