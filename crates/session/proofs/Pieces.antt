-- A piece after a piece is both as one: text and data go byte by byte, so that each law is an induction over the first piece.
use mathlib.Core.Path.{◌≡◌, refl, sym, ap, ◌∙◌}
use mathlib.Core.Bool.{Bool, true, false}
use mathlib.Core.List.{List, [], ◌∷◌, ◌++◌}
use Prim.Native.Nat.{ℕ, suc, ◌+◌, ◌%◌, ◌≤◌}
use native.Mathlib.Nat.{add-zero}
use native.Mathlib.Decide.{ℕ_discrete}
use native.Mathlib.Omega.{arith}
use borrow.Author.Tests.{eq-eqb, ne_eqb}
use lib.Dec.{eqb}
use lib.ListN.{length, drop, length-append}
use Rattle.scope.specs.Refusals.{pick}
use Rattle.digest.specs.Sum.{Sum}
use Rattle.digest.specs.Digest.{absorb, settled}
use Rattle.digest.proofs.Pieces.{absorb_append}
use Rattle.cipher.specs.Run.{forward}
use Rattle.cipher.specs.State.{State, moved}
use Rattle.cipher.proofs.Stepping.{moved_none, moved_add}
use Rattle.session.specs.Session.{Session, drawn_by}
use Rattle.session.specs.Inner.{told, into_text}
use Rattle.session.specs.Pieces.{data_taken, closed, byte_out, byte_taken, text_taken, text_out}

-- ---- text

pub text_none : (s : Session) → text_taken s [] ≡ s
unfolding text_taken
text_none s = refl

pub out_none : (s : Session) → text_out s [] ≡ []
unfolding text_out
out_none s = refl

pub text_append : (s : Session) (p q : List ℕ) → text_taken s (p ++ q) ≡ text_taken (text_taken s p) q
unfolding text_taken
text_append s [] q = refl
text_append s (b ∷ p) q = text_append (byte_taken s b) p q

pub out_append : (s : Session) (p q : List ℕ) → text_out s (p ++ q) ≡ text_out s p ++ text_out (text_taken s p) q
unfolding text_taken text_out
out_append s [] q = refl
out_append s (b ∷ p) q = ap (λ (l : List ℕ). byte_out s b ∷ l) (out_append (byte_taken s b) p q)

pub out_length : (s : Session) (p : List ℕ) → length (text_out s p) ≡ length p
unfolding text_out
out_length s [] = refl
out_length s (b ∷ p) = ap suc (out_length (byte_taken s b) p)

pub text_count : (s : Session) (p : List ℕ) → (text_taken s p).text ≡ s.text + length p
unfolding text_taken byte_taken
text_count s [] = sym (add-zero s.text)
text_count s (b ∷ p) = text_count (byte_taken s b) p ∙ omega arith

-- a text takes as many steps as the definition says that it draws blocks, which are no more than it has bytes
pub text_moves : (s : Session) (p : List ℕ) → (text_taken s p).state ≡ moved forward (drawn_by s.text (length p)) s.state
unfolding text_taken byte_taken
text_moves s [] =
    let e : 0 ≡ drawn_by s.text 0 = omega arith in
    sym (moved_none forward s.state) ∙ ap (λ (k : ℕ). moved forward k s.state) e
text_moves s (b ∷ p) = text_moves (byte_taken s b) p ∙ go (ℕ_discrete (s.text % 16) 0)
  where
    go : Dec (s.text % 16 ≡ 0)
        → moved forward (drawn_by (s.text + 1) (length p)) (pick (eqb (s.text % 16) 0) (moved forward 1 s.state) s.state)
        ≡ moved forward (drawn_by s.text (suc (length p))) s.state
    go (yes e) =
        let f : 1 + drawn_by (s.text + 1) (length p) ≡ drawn_by s.text (suc (length p)) = omega (arith, e) in
        rw (eq-eqb (s.text % 16) 0 e) (moved_add forward 1 (drawn_by (s.text + 1) (length p)) s.state ∙ ap (λ (k : ℕ). moved forward k s.state) f)
    go (no e) =
        let f : drawn_by (s.text + 1) (length p) ≡ drawn_by s.text (suc (length p)) = omega (arith, e) in
        rw (ne_eqb (s.text % 16) 0 e) (ap (λ (k : ℕ). moved forward k s.state) f)

pub text_draws : (s : Session) (p : List ℕ) → (text_taken s p).state.count ≡ s.state.count + drawn_by s.text (length p)
text_draws s p = ap (λ (t : State). t.count) (text_moves s p)

pub draws_few : (s : Session) (p : List ℕ) → (text_taken s p).state.count ≤ s.state.count + length p
draws_few s p = let e = text_draws s p in omega (arith, e)

-- what no byte changes, no text does
pub text_keeps {ℓ} : {A : Type ℓ} (f : Session → A) → ((s : Session) (b : ℕ) → f (byte_taken s b) ≡ f s) → (s : Session) (p : List ℕ)
    → f (text_taken s p) ≡ f s
unfolding text_taken
text_keeps f h s [] = refl
text_keeps f h s (b ∷ p) = text_keeps f h (byte_taken s b) p ∙ h s b

pub text_phase : (s : Session) (p : List ℕ) → (text_taken s p).phase ≡ s.phase
unfolding byte_taken
text_phase = text_keeps (λ s. s.phase) (λ s b. refl)

pub text_ad : (s : Session) (p : List ℕ) → (text_taken s p).ad ≡ s.ad
unfolding byte_taken
text_ad = text_keeps (λ s. s.ad) (λ s b. refl)

pub text_h : (s : Session) (p : List ℕ) → (text_taken s p).h ≡ s.h
unfolding byte_taken
text_h = text_keeps (λ s. s.h) (λ s b. refl)

pub text_pad : (s : Session) (p : List ℕ) → (text_taken s p).pad ≡ s.pad
unfolding byte_taken
text_pad = text_keeps (λ s. s.pad) (λ s b. refl)

pub text_iv : (s : Session) (p : List ℕ) → (text_taken s p).iv ≡ s.iv
unfolding byte_taken
text_iv = text_keeps (λ s. s.iv) (λ s b. refl)

-- the hash goes as the digest of the ciphertext does
pub text_sum : (s : Session) (p : List ℕ) → (text_taken s p).sum ≡ absorb s.h s.sum s.text (text_out s p)
unfolding text_taken text_out byte_taken absorb
text_sum s [] = refl
text_sum s (b ∷ p) = text_sum (byte_taken s b) p

-- ---- the data closed

module _ (s : Session) where
  -- what closing does not change
  closed_keeps {ℓ} : {A : Type ℓ} (f : Session → A) → f (into_text s (settled s.h s.sum s.ad)) ≡ f s → f (closed s) ≡ f s
  unfolding closed
  closed_keeps f e = go (eqb s.phase 0)
    where
      go : (t : Bool) → f (pick t (into_text s (settled s.h s.sum s.ad)) s) ≡ f s
      go true = e
      go false = refl

  pub closed_text : (closed s).text ≡ s.text
  closed_text = closed_keeps (λ u. u.text) refl

  pub closed_h : (closed s).h ≡ s.h
  closed_h = closed_keeps (λ u. u.h) refl

  pub closed_already : ¬ (s.phase ≡ 0) → s ≡ closed s
  unfolding closed
  closed_already h = rw (ne_eqb s.phase 0 h)

  pub closed_now : s.phase ≡ 0 → into_text s (settled s.h s.sum s.ad) ≡ closed s
  unfolding closed
  closed_now h = rw (eq-eqb s.phase 0 h)

  pub closed_phase : ¬ ((closed s).phase ≡ 0)
  closed_phase = go (ℕ_discrete s.phase 0)
    where
      go : Dec (s.phase ≡ 0) → ¬ ((closed s).phase ≡ 0)
      go (yes e) = rw (← closed_now e) (λ z. omega (arith, z))
      go (no e) = rw (← closed_already e) e

  pub closed_state : (closed s).state ≡ s.state
  closed_state = closed_keeps (λ u. u.state) refl

-- a text taken by the session u with its data closed
module _ (s u : Session) (e : u ≡ closed s) where
  pub closed_count : u.text ≡ s.text
  closed_count = ap (λ (v : Session). v.text) e ∙ closed_text s

  pub closed_drawn : u.state.count ≡ s.state.count
  closed_drawn = ap (λ (v : Session). v.state.count) e ∙ ap (λ (t : State). t.count) (closed_state s)

  pub closed_piece : (r : Session) (p out after : List ℕ) → (r ≡ text_taken u p) × (after ≡ text_out u p ++ drop (length p) out)
      → (r ≡ text_taken (closed s) p) × (after ≡ text_out (closed s) p ++ drop (length p) out)
  closed_piece r p out after t = rw (← e) t

-- two texts, each of which closes the data, are one
module _ (s : Session) (p q : List ℕ) where
  closed_since : closed (text_taken (closed s) p) ≡ text_taken (closed s) p
  closed_since = sym (closed_already (text_taken (closed s) p) (rw (text_phase (closed s) p) (closed_phase s)))

  pub text_twice : text_taken (closed (text_taken (closed s) p)) q ≡ text_taken (closed s) (p ++ q)
  text_twice = ap (λ (u : Session). text_taken u q) closed_since ∙ sym (text_append (closed s) p q)

  pub out_twice : text_out (closed s) p ++ text_out (closed (text_taken (closed s) p)) q ≡ text_out (closed s) (p ++ q)
  out_twice = ap (λ (u : Session). text_out (closed s) p ++ text_out u q) closed_since ∙ sym (out_append (closed s) p q)

-- ---- data

pub told_taken : (s : Session) (p : List ℕ) (y : Sum) → s.phase ≡ 0 → y ≡ absorb s.h s.sum s.ad p → told s (length p) y ≡ data_taken s p
unfolding data_taken
told_taken s p y e f =
    λ i. record {
      phase = e i;
      ad = s.ad + length p;
      text = s.text;
      state = s.state;
      h = s.h;
      pad = s.pad;
      current = s.current;
      sum = f i;
      iv = s.iv;
    }

pub data_append : (s : Session) (p q : List ℕ) → data_taken s (p ++ q) ≡ data_taken (data_taken s p) q
unfolding data_taken
data_append s p q =
    let n : s.ad + length (p ++ q) ≡ s.ad + length p + length q = omega (arith, length-append p q) in
    λ i. record {
      phase = 0;
      ad = n i;
      text = s.text;
      state = s.state;
      h = s.h;
      pad = s.pad;
      current = s.current;
      sum = sym (absorb_append s.h s.sum s.ad p q) i;
      iv = s.iv;
    }
