-- A session that stands where its key and IV lead in sealed mode is suspended and resumed to the very session: its block reads back as what was
-- kept, the walk back finds the IV, and H, the end pad and the block drawn last are the keystream's.
use mathlib.Core.Path.{◌≡◌, refl, sym, ap, ◌∙◌}
use mathlib.Core.List.{List, ◌++◌}
use Prim.Native.Nat.{ℕ, ◌+◌, ◌≤◌}
use native.Mathlib.Nat.{zero-add}
use native.Mathlib.Omega.{arith}
use borrow.Author.Tests.{eq-eqb, le-ltb, lt-ltb}
use lib.ListN.{length, take, drop, length-drop}
use lib.Seq.{take_at, take-append-le, drop-append-le}
use Rattle.scope.specs.Refusals.{granted}
use Rattle.words.specs.Bytes.{Row, IsBlock, part}
use Rattle.cipher.specs.Step.{z}
use Rattle.cipher.specs.Run.{forward, moves}
use Rattle.cipher.specs.State.{State, moved}
use Rattle.start.specs.Start.{Mode.sealed, start, started}
use Rattle.start.specs.Leads.{Traced.origin}
use Rattle.start.specs.Trace.{trace}
use Rattle.start.proofs.Tracing.{traces}
use Rattle.ghash.specs.Hash.{ceil16}
use Rattle.session.specs.Session.{Session, drawn_at}
use Rattle.layout.specs.Block.{registers_at, block_of}
use Rattle.layout.specs.Laws.{Fine}
use Rattle.layout.proofs.Written.{block_row, block_laid, registers_block, read_block}
use Rattle.suspend.specs.Calls.{suspension_of, state_for, suspend_number, suspend_call, revived}
use Rattle.suspend.specs.Walk.{by_origin, resume_call}

-- what a session is where key and IV lead, at the blocks that its text has drawn
pub record Led (key iv : List ℕ) (s : Session) : Type 0 where
  pub fine : Fine (suspension_of s)
  pub state_led : s.state ≡ moved forward (drawn_at s.text) (started key iv sealed)
  pub h_led : s.h ≡ z (start key iv sealed)
  pub pad_led : s.pad ≡ z (moves forward 1 (start key iv sealed))
  pub current_led : s.current ≡ z (moves forward (1 + ceil16 s.text) (start key iv sealed))
  pub iv_led : s.iv ≡ iv

pub suspend_session : (s : Session) (out : List ℕ) → (suspend_call s out).session ≡ s
unfolding suspend_call
suspend_session s out = refl

module _ (s : Session) (f : Fine (suspension_of s)) where
  -- an output of 512 bytes is long enough
  pub suspend_accepted : (out : List ℕ) → 512 ≤ length out → (suspend_call s out).number ≡ 0
  unfolding suspend_call suspend_number
  suspend_accepted out h = rw (lt-ltb s.phase 2 (omega (arith, f.phase_is)), le-ltb (length out) 512 h)

  module _ (out : List ℕ) (n : (suspend_call s out).number ≡ 0) where
    writes : (suspend_call s out).out ≡ block_of (suspension_of s) ++ drop 512 out
    unfolding suspend_call
    writes = ap (λ (i : ℕ). granted i (block_of (suspension_of s) ++ drop 512 out) out) n

    pub suspend_block : take 512 (suspend_call s out).out ≡ block_of (suspension_of s)
    suspend_block = ap (take 512) writes ∙ take_at (block_of (suspension_of s)) (drop 512 out) 512 (block_row (suspension_of s) f).long

    -- bytes 16 to 127 list the session's registers
    pub suspend_registers : registers_at (part 16 112 (suspend_call s out).out) ≡ s.state.registers
    suspend_registers =
        let b : List ℕ = block_of (suspension_of s) in
        let long : length b ≡ 512 = (block_row (suspension_of s) f).long in
        ap (λ (w : List ℕ). registers_at (part 16 112 w)) writes
        ∙ ap (λ (w : List ℕ). registers_at (take 112 w)) (drop-append-le 16 b (drop 512 out) (omega arith))
        ∙ ap registers_at (take-append-le 112 (drop 16 b) (drop 512 out) (rw (length-drop 16 b) (omega arith)))
        ∙ registers_block (suspension_of s) f

module _ (key iv : List ℕ) (k : Row 32 256 key) (v : IsBlock iv) (s : Session) (l : Led key iv s) where
  -- the count that the block says is the session's own
  pub same_state : state_for (suspension_of s) ≡ s.state
  same_state =
      let e : drawn_at s.text ≡ s.state.count = sym (ap (λ (t : State). t.count) l.state_led ∙ zero-add (drawn_at s.text)) in
      λ i. record { registers = s.state.registers; count = e i }

  pub traced : trace (state_for (suspension_of s)) key ≡ origin iv sealed
  traced =
      ((traces (state_for (suspension_of s)) l.fine.registers_good key k.below
      ).found iv sealed).1 ((k.long, omega (arith, l.fine.text_fits)), record { iv_block = v; arrives = sym (ap (λ (t : State). t.registers) l.state_led) })

  revived_same : revived key iv (suspension_of s) ≡ s
  unfolding revived moves
  revived_same =
      λ i. record {
        phase = s.phase;
        ad = s.ad;
        text = s.text;
        state = same_state i;
        h = sym l.h_led i;
        pad = sym l.pad_led i;
        current = sym l.current_led i;
        sum = s.sum;
        iv = sym l.iv_led i;
      }

  origin_found : by_origin key (suspension_of s) (origin iv sealed) ≡ record { number = 0; iv = iv; session = s }
  unfolding by_origin
  origin_found = ap (λ (u : Session). record { number = 0; iv = iv; session = u }) revived_same

  resume_block : resume_call key (block_of (suspension_of s)) ≡ record { number = 0; iv = iv; session = s }
  unfolding resume_call
  resume_block =
      rw (eq-eqb (length key) 32 k.long, block_laid (suspension_of s) l.fine, read_block (suspension_of s) l.fine)
      (ap (by_origin key (suspension_of s)) traced ∙ origin_found)

  -- resume right after an accepted suspend, with the bytes that it wrote
  pub resumes : (out : List ℕ) → (suspend_call s out).number ≡ 0
      → resume_call key (take 512 (suspend_call s out).out) ≡ record { number = 0; iv = iv; session = s }
  resumes out n = ap (resume_call key) (suspend_block s l.fine out n) ∙ resume_block
