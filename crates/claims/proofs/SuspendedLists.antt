-- After any list of calls: the session stands at a stage within the limits, so that its cipher state is the start moved on by the blocks drawn,
-- every accepted suspend writes that state's registers, and resume right after it gives the very session.
use mathlib.Core.Path.{◌≡◌, sym, ap, subst, ◌∙◌}
use mathlib.Core.List.{List}
use Prim.Native.Nat.{ℕ, ◌+◌, ◌≤◌}
use native.Mathlib.Nat.{zero-add}
use native.Mathlib.Omega.{arith}
use borrow.Author.Tests.{lt-ltb}
use lib.Dec.{ltb}
use lib.ListN.{length, take}
use Rattle.scope.specs.Limits.{most_text, most_blocks}
use Rattle.scope.specs.Refusals.{refuse, too_long, short_output}
use Rattle.words.specs.Bytes.{part}
use Rattle.cipher.specs.Run.{forward, moves}
use Rattle.start.specs.Start.{Mode.sealed, start}
use Rattle.session.specs.Session.{Session, drawn_at}
use Rattle.layout.specs.Block.{registers_at}
use Rattle.suspend.specs.Calls.{suspend_call}
use Rattle.suspend.specs.Walk.{resume_call}
use Rattle.session.specs.Calls.{text_number, text_call}
use Rattle.page.proofs.Stages.{text_of, session_at}
use Rattle.page.proofs.WholeCalls.{phase_open, text_number_is}
use Rattle.claims.specs.Lists.{Bytes, Call, Trail, after, cipher_state}
use Rattle.claims.specs.Claims.{Keyed, suspended_number, suspended_out, Resumes}
use Rattle.claims.proofs.Within.{row_of}
use Rattle.claims.proofs.Suspending.{suspend_at, resume_at, written_at, cipher_state_at}
use Rattle.claims.proofs.Reached.{Reached, after_reached}

module _ (key iv : Bytes) (l : Keyed key iv) (cs : List Call) where
  reached : Reached key.list iv.list (after key iv cs)
  reached = after_reached key iv l cs

  at : Session
  at = session_at key.list iv.list reached.stage

  session_is : (after key iv cs).session ≡ at
  unfolding at
  session_is = ap (λ (u : Trail). u.session) reached.is

  pub state_leads : moves forward (drawn_at (length (after key iv cs).text)) (start key.list iv.list sealed) ≡ cipher_state (after key iv cs).session
  unfolding at
  state_leads =
      ap (λ (u : Trail). moves forward (drawn_at (length u.text)) (start key.list iv.list sealed)) reached.is
      ∙ sym (cipher_state_at key.list iv.list (row_of key l.key_long) (row_of iv l.iv_long) reached.stage reached.within)
      ∙ ap cipher_state (sym session_is)

  -- the session's own state: its registers are that cipher state, and its count the blocks that the accepted text has drawn, at most 65,538
  pub state_kept : (after key iv cs).session.state.registers ≡ cipher_state (after key iv cs).session
  unfolding at session_at
  state_kept =
      ap (λ (s : Session). s.state.registers) session_is
      ∙ sym (cipher_state_at key.list iv.list (row_of key l.key_long) (row_of iv l.iv_long) reached.stage reached.within)
      ∙ ap cipher_state (sym session_is)

  text_is : length (after key iv cs).text ≡ length (text_of reached.stage)
  text_is = ap (λ (u : Trail). length u.text) reached.is

  pub state_counted : (after key iv cs).session.state.count ≡ drawn_at (length (after key iv cs).text)
  unfolding at session_at
  state_counted =
      ap (λ (s : Session). s.state.count) session_is
      ∙ zero-add (drawn_at (length (text_of reached.stage)))
      ∙ ap drawn_at (sym text_is)

  pub state_fits : drawn_at (length (after key iv cs).text) ≤ most_blocks
  state_fits = let n = text_is in omega (arith, n, reached.within.text_fits)

  -- what a text piece is answered then
  pub text_answered : (p out : List ℕ) → (text_call (after key iv cs).session p out).number
      ≡ refuse (ltb most_text (length (after key iv cs).text + length p)) too_long (refuse (ltb (length out) (length p)) short_output 0)
  unfolding at text_call
  text_answered p out =
      let g = reached.stage in
      ap (λ (s : Session). text_number s p out) session_is
      ∙ text_number_is key.list iv.list g p out
      ∙ rw (lt-ltb (session_at key.list iv.list g).phase 2 (phase_open key.list iv.list g), text_is)

  module _ (out : Bytes) where
    number_is : suspended_number key iv cs out ≡ (suspend_call at out.list).number
    number_is = ap (λ (s : Session). (suspend_call s out.list).number) session_is

    pub suspended : 512 ≤ length out.list → suspended_number key iv cs out ≡ 0
    unfolding at
    suspended room =
        number_is ∙ suspend_at key.list iv.list (row_of key l.key_long) (row_of iv l.iv_long) reached.stage reached.within out.list room

    module _ (n : suspended_number key iv cs out ≡ 0) where
      pub resumed : Resumes key iv cs out
      unfolding at
      resumed =
          subst
          (λ (s : Session). resume_call key.list (take 512 (suspend_call s out.list).out) ≡ record { number = 0; iv = iv.list; session = s })
          (sym session_is)
          (resume_at key.list iv.list (row_of key l.key_long) (row_of iv l.iv_long) reached.stage reached.within out.list (sym number_is ∙ n))

      pub written : registers_at (part 16 112 (suspended_out key iv cs out)) ≡ cipher_state (after key iv cs).session
      unfolding at
      written =
          ap (λ (s : Session). registers_at (part 16 112 (suspend_call s out.list).out)) session_is
          ∙ written_at key.list iv.list (row_of key l.key_long) (row_of iv l.iv_long) reached.stage reached.within out.list (sym number_is ∙ n)
          ∙ sym (cipher_state_at key.list iv.list (row_of key l.key_long) (row_of iv l.iv_long) reached.stage reached.within)
          ∙ ap cipher_state (sym session_is)
