-- A session at a stage within the limits stands where its key and IV lead, so that suspend writes its registers, and resume right after an accepted
-- suspend gives the very session.
use mathlib.Core.Path.{◌≡◌, refl, ap, subst, ◌∙◌}
use mathlib.Core.Bool.{Bool, true, false}
use mathlib.Core.List.{List, []}
use Prim.Native.Nat.{ℕ, ◌≤◌}
use native.Mathlib.Nat.{zero-add}
use borrow.Author.Tests.{eqb-true}
use lib.Dec.{eqb, lit≤}
use lib.ListN.{length, take, replicate}
use Rattle.scope.specs.Limits.{most_data}
use Rattle.words.specs.Bytes.{Row, IsBlock, part}
use Rattle.words.proofs.Rows.{Below}
use Rattle.cipher.specs.Run.{forward, moves}
use Rattle.cipher.specs.State.{State}
use Rattle.start.specs.Start.{Mode.sealed, start}
use Rattle.session.specs.Session.{Session, drawn_at}
use Rattle.session.specs.Calls.{begun}
use Rattle.session.specs.Pieces.{data_taken}
use Rattle.layout.specs.Block.{registers_at}
use Rattle.suspend.specs.Calls.{suspend_call, Resumed}
use Rattle.suspend.specs.Walk.{resume_call}
use Rattle.suspend.proofs.RoundTrip.{Led, suspend_session, suspend_accepted, suspend_registers, resumes}
use Rattle.suspend.proofs.Leading.{begun_led, data_led, closed_led, text_led}
use Rattle.page.proofs.Stages.{Stage, Stage.taking_data, Stage.taking_text, text_of, phase_at, session_at, begun_at, data_at, closed_at, text_taken_at}
use Rattle.claims.specs.Lists.{Bytes, Call.suspend_and_resume, left_by, cipher_state}
use Rattle.claims.proofs.Within.{Within}

-- a session that resume right after an accepted suspend gives back is left as it is
pub left_same : (key iv : List ℕ) (s : Session) (out : Bytes)
    → ((suspend_call s out.list).number ≡ 0 → resume_call key (take 512 (suspend_call s out.list).out) ≡ record { number = 0; iv = iv; session = s })
    → left_by key s (suspend_and_resume out) ≡ s
unfolding left_by
left_same key iv s out back = go (eqb (suspend_call s out.list).number 0) refl
  where
    go : (b : Bool) → eqb (suspend_call s out.list).number 0 ≡ b → left_by key s (suspend_and_resume out) ≡ s
    go true e = rw e (ap (λ (r : Resumed). r.session) (back (eqb-true (suspend_call s out.list).number 0 e)))
    go false e = rw e (suspend_session s out.list)

module _ (key iv : List ℕ) (k : Row 32 256 key) (v : IsBlock iv) where
  -- begun, then all data, then all text
  data_stage : (d : List ℕ) → length d ≤ most_data → Below 256 d → Led key iv (session_at key iv (taking_data d))
  unfolding begun
  data_stage d fits below =
      subst (Led key iv) (ap (λ (s : Session). data_taken s d) (begun_at key iv) ∙ data_at key iv [] d)
      (data_led key iv k v (begun key iv) d refl (rw (zero-add (length d)) fits) below (begun_led key iv k v))

  pub stage_led : (g : Stage) → Within g → Led key iv (session_at key iv g)
  unfolding session_at phase_at
  stage_led (taking_data d) w = data_stage d w.ad_fits w.ad_bytes
  stage_led (taking_text d t) w =
      subst (Led key iv) (text_taken_at key iv d [] t)
      (text_led key iv k v (session_at key iv (taking_text d [])) t refl (rw (zero-add (length t)) w.text_fits) w.text_bytes
      (subst (Led key iv) (closed_at key iv (taking_data d)) (closed_led key iv k v (session_at key iv (taking_data d)) (data_stage d w.ad_fits w.ad_bytes)).0))

module _ (key iv : List ℕ) (k : Row 32 256 key) (v : IsBlock iv) (g : Stage) (w : Within g) where
  led : Led key iv (session_at key iv g)
  led = stage_led key iv k v g w

  pub suspend_at : (out : List ℕ) → 512 ≤ length out → (suspend_call (session_at key iv g) out).number ≡ 0
  suspend_at out h = suspend_accepted (session_at key iv g) led.fine out h

  -- the very session
  pub resume_at : (out : List ℕ) → (suspend_call (session_at key iv g) out).number ≡ 0
      → resume_call key (take 512 (suspend_call (session_at key iv g) out).out) ≡ record { number = 0; iv = iv; session = session_at key iv g }
  resume_at out n = resumes key iv k v (session_at key iv g) led out n

  -- the registers, wherever they are written
  pub written_at : (out : List ℕ) → (suspend_call (session_at key iv g) out).number ≡ 0
      → registers_at (part 16 112 (suspend_call (session_at key iv g) out).out) ≡ moves forward (drawn_at (length (text_of g))) (start key iv sealed)
  unfolding session_at
  written_at out n = suspend_registers (session_at key iv g) led.fine out n ∙ ap (λ (t : State). t.registers) led.state_led

  pub cipher_state_at : cipher_state (session_at key iv g) ≡ moves forward (drawn_at (length (text_of g))) (start key iv sealed)
  unfolding cipher_state
  cipher_state_at = written_at (replicate 512 0) (suspend_at (replicate 512 0) (lit≤ tt))
