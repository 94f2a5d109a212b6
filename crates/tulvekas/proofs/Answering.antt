-- What a refusal leaves of a session or a state and an accepted call makes of it, whatever the call, and how the call below and tests on lengths decide an answer.
use mathlib.Core.Path.{◌≡◌, refl, sym, ap, ◌∙◌}
use mathlib.Core.Bool.{Bool, true, false, not}
use mathlib.Core.List.{List, [], ◌∷◌, ◌++◌}
use Prim.Native.Nat.{ℕ, zero, suc, ◌≤◌, ◌<◌}
use native.Mathlib.Omega.{arith}
use borrow.Author.Tests.{eqb-true, not-false, eq-eqb}
use lib.Dec.{eqb}
use lib.ListN.{length, drop, set}
use Rattle.scope.specs.Refusals.{pick, granted}
use Rattle.cipher.specs.State.{State}
use Rattle.session.specs.Session.{Session}
use Rattle.bytes_c.specs.Order.{next, room}
use Rattle.bytes_c.specs.StateBytes.{state_bytes, state_in, LeavesState}
use Rattle.bytes_c.specs.SessionBytes.{session_bytes, session_in, Leaves, is_session, whole}
use Rattle.bytes_c.proofs.Answering.{never, refused, unwritten, accepted, short, fits}

-- ---- r is what the code answers, n what the definition says

module _ {r n : ℕ} (e : r ≡ n) where
  pub leaves_all : (g : Session) (s : List ℕ) → ¬ (r ≡ 0) → Leaves n g s s
  leaves_all g s h = record { bytes = unwritten e 240 (session_bytes g) s h; lists = refused e g (session_in s) h }

  pub state_leaves_all : (g : State) (s : List ℕ) → ¬ (r ≡ 0) → LeavesState n g s s
  state_leaves_all g s h = record { bytes = unwritten e 120 (state_bytes g) s h; lists = refused e g (state_in s) h }

module _ {n : ℕ} (e : 0 ≡ n) where
  pub leaves_stored : (g g' : Session) (s after : List ℕ) → g ≡ g' → Leaves 0 g s after → Leaves n g' s after
  leaves_stored g g' s after f l =
      record {
        bytes = l.bytes ∙ ap (λ (u : Session). session_bytes u ++ drop 240 s) f ∙ accepted e (session_bytes g' ++ drop 240 s) s;
        lists = l.lists ∙ f ∙ accepted e g' (session_in s);
      }

  pub state_leaves_stored : (g g' : State) (s after : List ℕ) → g ≡ g' → LeavesState 0 g s after → LeavesState n g' s after
  state_leaves_stored g g' s after f l =
      record {
        bytes = l.bytes ∙ ap (λ (u : State). state_bytes u ++ drop 120 s) f ∙ accepted e (state_bytes g' ++ drop 120 s) s;
        lists = l.lists ∙ f ∙ accepted e g' (state_in s);
      }

-- what a refused call left is left by one that says so again
pub granted_again : {A : Type 0} (n : ℕ) (a b : A) → granted n a b ≡ granted n (granted n a b) b
granted_again n a b = go (eqb n 0)
  where
    go : (t : Bool) → pick t a b ≡ pick t (pick t a b) b
    go true = refl
    go false = refl

-- ---- bytes at the front of a buffer

pub set_first : (out : List ℕ) (b : ℕ) → 1 ≤ length out → set out 0 b ≡ (b ∷ []) ++ drop 1 out
set_first [] b h = absurd (omega arith)
set_first (x ∷ out) b h = refl

-- ---- the tests, behind the call below and on the length of a session

pub below_refuses : (n later : ℕ) → ¬ (n ≡ 0) → n ≡ next n later
below_refuses n later h = refused {r = n} {n = n} refl later n h

pub below_accepts : (n later : ℕ) → 0 ≡ n → later ≡ next n later
below_accepts n later e = accepted e later n

pub nothing_later : (n : ℕ) → n ≡ next n 0
nothing_later zero = refl
nothing_later (suc n) = below_refuses (suc n) 0 (never n)

pub four_later : (n : ℕ) → ¬ (next n 4 ≡ 0)
four_later zero = never 3
four_later (suc n) = λ z. never n (below_refuses (suc n) 4 (never n) ∙ z)

-- m is the number of the call below, behind which a buffer is tested; n is what the code was answered
module _ (k : ℕ) (out : List ℕ) {n m : ℕ} (e : n ≡ m) where
  pub then_refused : ¬ (n ≡ 0) → n ≡ next m (room k out 0)
  then_refused h = e ∙ below_refuses m (room k out 0) (λ z. h (e ∙ z))

  module _ (z : n ≡ 0) where
    pub then_short : length out < k → 4 ≡ next m (room k out 0)
    then_short h = short k out 0 h ∙ below_accepts m (room k out 0) (sym z ∙ e)

    pub then_fits : k ≤ length out → 0 ≡ next m (room k out 0)
    then_fits h = fits k out 0 h ∙ below_accepts m (room k out 0) (sym z ∙ e)

-- r is what the code says of the session's length
module _ (s : List ℕ) {r : Bool} (e : r ≡ is_session s) where
  pub torn : (later : ℕ) → not r ≡ true → 8 ≡ whole s later
  torn later h = rw (← e, h)

  pub long : not r ≡ false → length s ≡ 240
  long h = eqb-true (length s) 240 (sym e ∙ not-false r h)

pub sound : (s : List ℕ) (later : ℕ) → length s ≡ 240 → later ≡ whole s later
sound s later h = rw (eq-eqb (length s) 240 h)
