-- A page at once goes through the stages of a session: begun, all the data in, the data closed. One table of H serves them all, since H is block
-- 0 of the keystream at every stage.
use mathlib.Core.Path.{◌≡◌, refl, sym, ap, subst, ◌∙◌}
use mathlib.Core.List.{List, [], ◌++◌}
use Prim.Native.Nat.{ℕ}
use lib.ListN.{length, drop}
use Rattle.std.specs.Prelude.{Result, Ok, Err, IsOk}
use Rattle.scope.specs.declared.Refusal.{Refusal}
use Rattle.scope.proofs.Refused.{refused}
use Rattle.ghash.specs.Machine.{bytes_of_element, Table}
use Rattle.session.specs.declared.Session as machine
use Rattle.session.specs.Session.{Session}
use Rattle.session.specs.Machine.{session_of, Begins}
use Rattle.session.specs.Calls.{Given, begin_call}
use Rattle.session.specs.Pieces.{data_taken, closed, text_out}
use Rattle.start.specs.Start.{sealed_keystream}
use Rattle.page.specs.Page.{cipher_of}
use Rattle.page.proofs.Stages.{Stage, Stage.taking_data, Stage.taking_text, session_at, data_at, closed_at, text_out_at}
use Rattle.page.proofs.WholeCalls.{begin_call_at}

module _ (key iv : List ℕ) where
  pub begins : (r : Result machine.Session Refusal) → length key ≡ 32 → length iv ≡ 16 → Begins (begin_call key iv) r → IsOk r
  begins (Ok b) k v h = refl
  begins (Err e) k v h = absurd (refused e (h ∙ ap (λ (g : Given). g.number) (begin_call_at key iv k v)))

  pub begun_session : (b : machine.Session) (r : Result machine.Session Refusal) → length key ≡ 32 → length iv ≡ 16 → Begins (begin_call key iv) r → r ≡ Ok b
      → session_of b ≡ session_at key iv (taking_data [])
  begun_session b r k v h q = (subst (Begins (begin_call key iv)) q h).1 ∙ ap (λ (g : Given). g.session) (begin_call_at key iv k v)

  -- ---- the table of H

  h_at : (g : Stage) → (session_at key iv g).h ≡ sealed_keystream key iv 0
  unfolding session_at
  h_at g = refl

  -- made for the session b, it serves s
  pub lent : (f g : Stage) (b s : machine.Session) (table : List ℕ) → session_of b ≡ session_at key iv f → session_of s ≡ session_at key iv g
      → Table (bytes_of_element b.h) table → Table (bytes_of_element s.h) table
  lent f g b s table eb es =
      subst (λ (h : List ℕ). Table h table) (ap (λ (u : Session). u.h) eb ∙ h_at f ∙ sym (h_at g) ∙ ap (λ (u : Session). u.h) (sym es))

  -- ---- data, and what an open writes

  module _ (d : List ℕ) where
    pub told_session : (b s : Session) → b ≡ session_at key iv (taking_data []) → s ≡ data_taken b d → s ≡ session_at key iv (taking_data d)
    told_session b s eb es = es ∙ ap (λ (u : Session). data_taken u d) eb ∙ data_at key iv [] d

    pub closed_session : (s u : Session) → s ≡ session_at key iv (taking_data d) → u ≡ closed s → u ≡ session_at key iv (taking_text d [])
    closed_session s u es eu = eu ∙ ap closed es ∙ closed_at key iv (taking_data d)

    pub whole_out : (s : Session) → s ≡ session_at key iv (taking_text d []) → (t out after : List ℕ) → after ≡ text_out s t ++ drop (length t) out
        → after ≡ cipher_of key iv t ++ drop (length t) out
    whole_out s e t out after eo =
        eo ∙ ap (λ (v : Session). text_out v t ++ drop (length t) out) e ∙ ap (λ (l : List ℕ). l ++ drop (length t) out) (text_out_at key iv d [] t)
