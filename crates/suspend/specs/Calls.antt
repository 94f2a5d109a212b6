-- Suspending a session and resuming it (document 01, "Sessions and parking": park and take up): for each its number, 0 or that of the refusal in
-- the call's order, what stands in the lent output afterwards, and the session handed back. A refused call changes neither.
use Rattle.std.specs.Prelude.{ℕ, ◌+◌, ◌≡◌, ◌↔◌, true, false, not, List, ◌++◌, ltb, length, drop}
use Rattle.scope.specs.Refusals.{refuse, granted, key_length, short_output, no_origin, out_of_phase, bad_block}
use Rattle.words.specs.Bytes.{zeros}
use Rattle.cipher.specs.State.{State}
use Rattle.start.specs.Start.{Mode.sealed, sealed_keystream}
use Rattle.start.specs.Leads.{LeadsToState}
use Rattle.ghash.specs.Hash.{ceil16}
use Rattle.session.specs.Session.{Session, drawn_at}
use Rattle.session.specs.Calls.{Given, no_session}
use Rattle.layout.specs.Block.{Suspended, block_of, read}
use Rattle.layout.specs.Rules.{well_laid}

-- what a block says of a session
abbrev pub suspension_of : Session → Suspended
suspension_of s = record { phase = s.phase; ad = s.ad; text = s.text; registers = s.state.registers; sum = s.sum }

-- the state of what a block says: its registers, and the count, which is not in the block, since it follows from the text's length
abbrev pub state_for : Suspended → State
state_for k = record { registers = k.registers; count = drawn_at k.text }

-- ---- suspend: 7, 4

unfoldable pub suspend_number : Session → (out : List ℕ) → ℕ
suspend_number s out = refuse (not (ltb s.phase 2)) out_of_phase (refuse (ltb (length out) 512) short_output 0)

-- the block, at the front of the output; the session stays as it is
unfoldable pub suspend_call : Session → (out : List ℕ) → Given
suspend_call s out =
    record {
      number = suspend_number s out;
      out = granted (suspend_number s out) (block_of (suspension_of s) ++ drop 512 out) out;
      session = s;
    }

-- ---- resume: 1, 8, 6

pub record Resumed : Type 0 where
  pub number : ℕ
  pub iv : List ℕ
  pub session : Session

-- a refused resume gives zeros in the IV's place, and a session that takes no call
abbrev pub not_resumed : ℕ → Resumed
not_resumed n = record { number = n; iv = zeros; session = no_session }

-- the session of what a block says, under the IV that leads to its registers: "H, the end pad and the current keystream block come from walking
-- back. The hash so far and bytes 144-159 are taken as stored". The current block is the one drawn last, by its number in the keystream; the IV is carried on
-- (document 02, S-5)
unfoldable pub revived : (key iv : List ℕ) → Suspended → Session
revived key iv k =
    record {
      phase = k.phase;
      ad = k.ad;
      text = k.text;
      state = state_for k;
      h = sealed_keystream key iv 0;
      pad = sealed_keystream key iv 1;
      current = sealed_keystream key iv (1 + ceil16 k.text);
      sum = k.sum;
      iv = iv;
    }

-- a key of 32 bytes, and a block that obeys the layout rules: neither 1 nor 8
abbrev pub Resumable : (key block : List ℕ) → Type 0
Resumable key b = (length key ≡ 32) × (well_laid b ≡ true)

-- an IV leads to the block's state in sealed mode: to its registers, at the blocks that its text has drawn
abbrev pub LeadsToBlock : (key block iv : List ℕ) → Type 0
LeadsToBlock key b iv = LeadsToState key iv sealed (state_for (read b))

-- 1, 8, 6: 0 with an IV exactly if it leads there, 6 exactly if none does, "a plain-mode state" included
pub record Revives (key block : List ℕ) (r : Resumed) : Type 0 where
  pub wrong_key : (r.number ≡ key_length) ↔ ¬ (length key ≡ 32)
  pub bad : (r.number ≡ bad_block) ↔ (length key ≡ 32) × (well_laid block ≡ false)
  pub found : (iv : List ℕ) → ((r.number ≡ 0) × (r.iv ≡ iv)) ↔ Resumable key block × LeadsToBlock key block iv
  pub none : (r.number ≡ no_origin) ↔ Resumable key block × ((iv : List ℕ) → ¬ LeadsToBlock key block iv)
  pub session : r.number ≡ 0 → r.session ≡ revived key r.iv (read block)
