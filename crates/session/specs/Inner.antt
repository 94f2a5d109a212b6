-- What the inner functions do and ask: a piece goes by parts of blocks and by whole blocks, and not by bytes. No call's
-- contract names anything here. p and o are the lengths of the piece and of the output, `from` and `to` the places of the part in both.
use Rattle.std.specs.Prelude.{ℕ, ◌+◌, ◌-◌, ◌%◌, ◌≡◌, List, eqb, length, drop}
use Rattle.std.proofs.lemmas.List.Edits.{sets}
use Rattle.scope.specs.Refusals.{pick}
use Rattle.words.specs.Xor.{xors}
use Rattle.ghash.specs.Hash.{eat}
use Rattle.cipher.specs.Run.{forward}
use Rattle.cipher.specs.State.{moved}
use Rattle.digest.specs.Sum.{Sum, fresh}
use Rattle.pass.specs.Inner.{Part}
use Rattle.session.specs.Session.{Session}
use Rattle.session.specs.Pieces.{byte_current}

-- n bytes more of data, which are hashed or held in y
abbrev pub told : Session → ℕ → (y : Sum) → Session
told s n y =
    record { phase = s.phase; ad = s.ad + n; text = s.text; state = s.state; h = s.h; pad = s.pad; current = s.current; sum = y; iv = s.iv }

-- the data closed, with their hash y
abbrev pub into_text : Session → (y : List ℕ) → Session
into_text s y =
    record { phase = 1; ad = s.ad; text = s.text; state = s.state; h = s.h; pad = s.pad; current = s.current; sum = fresh y; iv = s.iv }

-- ---- bytes of one block

-- a block is drawn where the next byte is the first of one
unfoldable pub ready : Session → Session
ready s =
    record {
      phase = s.phase;
      ad = s.ad;
      text = s.text;
      state = pick (eqb (s.text % 16) 0) (moved forward 1 s.state) s.state;
      h = s.h;
      pad = s.pad;
      current = byte_current s;
      sum = s.sum;
      iv = s.iv;
    }

-- text under the block in use
abbrev pub masked : Session → List ℕ → List ℕ
masked s p = xors p (drop (s.text % 16) s.current)

-- a session at another length and hash
abbrev pub counted : Session → ℕ → Sum → Session
counted s n y =
    record { phase = s.phase; ad = s.ad; text = n; state = s.state; h = s.h; pad = s.pad; current = s.current; sum = y; iv = s.iv }

-- m bytes more are held, which makes them q
abbrev pub holding : Session → List ℕ → ℕ → Session
holding s q m = counted s (s.text + m) (record { hash = s.sum.hash; pending = q })

-- the same where they are a whole block, which is sent on
abbrev pub sent_on : Session → List ℕ → ℕ → Session
sent_on s q m = counted s (s.text + m) (fresh (eat s.h s.sum.hash q))

-- text of one block held
unfoldable pub held : Session → List ℕ → Session
held s p = holding s (sets s.sum.pending (s.text % 16) (masked s p)) (length p)

-- ---- what is asked

-- whole blocks, from the start of one
pub record Blocks (text p o from to : ℕ) : Type 0 where
  pub part : Part text p o from to
  pub start : text % 16 ≡ 0
  pub whole : (to - from) % 16 ≡ 0
