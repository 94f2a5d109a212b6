-- Every list of calls, refused ones included, leaves the session that its accepted pieces determine, and has written the page's ciphertext of the
-- accepted text: an accepted piece moves on to the next such session, a refused one changes nothing, and neither does suspending, resumed or not.
use mathlib.Core.Path.{◌≡◌, refl, sym, ap, subst, ◌∙◌}
use mathlib.Core.List.{List, [], ◌∷◌, ◌++◌, append-nil}
use mathlib.Core.Bool.{Bool, true, false, ◌||◌}
use Prim.Native.Nat.{ℕ, ◌+◌, ◌≤◌}
use native.Mathlib.Nat.{zero-add}
use borrow.Author.Tests.{eqb-true}
use lib.Dec.{eqb}
use lib.ListN.{length, take, drop}
use lib.Seq.{take_at}
use Rattle.scope.specs.Limits.{most_data, most_text}
use Rattle.words.specs.Bytes.{Row, IsBlock}
use Rattle.session.specs.Session.{Session}
use Rattle.session.specs.Calls.{Given, data_number, data_call, text_number, text_call}
use Rattle.suspend.proofs.RoundTrip.{suspend_session}
use Rattle.page.specs.Page.{encrypted, cipher_of}
use Rattle.page.proofs.Ciphertext.{encrypted_append, encrypted_length}
use Rattle.page.proofs.Stages.{Stage, Stage.taking_data, Stage.taking_text, ad_of, text_of, session_at}
use Rattle.page.proofs.Reached.{text_begun_of}
use Rattle.page.proofs.WholeCalls.{begin_call_at, data_call_at, data_accepted, text_call_at, text_accepted}
use Rattle.claims.specs.Lists.{Bytes, Call, Call.give_data, Call.give_text, Call.suspend_alone, Call.suspend_and_resume, Trail, left_by, call, calls, at_begin, after}
use Rattle.claims.specs.Claims.{Keyed}
use Rattle.claims.proofs.Within.{row_of, Within, none_within, data_within, text_within}
use Rattle.claims.proofs.Suspending.{left_same, resume_at}

or_true : (b : Bool) → (b || true) ≡ true
or_true true = refl
or_true false = refl

or_false : (b : Bool) → (b || false) ≡ b
or_false true = refl
or_false false = refl

module _ (key iv : List ℕ) where
  -- what a list of calls has come to where its accepted pieces lead to a stage
  abbrev pub trail_at : Stage → Trail
  trail_at g = record { session = session_at key iv g; ad = ad_of g; text = text_of g; cipher = cipher_of key iv (text_of g); text_begun = text_begun_of g }

  pub record Reached (t : Trail) : Type 0 where
    pub stage : Stage
    pub is : t ≡ trail_at stage
    pub within : Within stage

  -- ---- an accepted piece

  data_left : (d : List ℕ) (p : Bytes) → length d + length p.list ≤ most_data
      → left_by key (session_at key iv (taking_data d)) (give_data p) ≡ session_at key iv (taking_data (d ++ p.list))
  unfolding left_by
  data_left d p fits = ap (λ (g : Given). g.session) (data_call_at key iv d p.list fits)

  text_left : (g : Stage) (p out : Bytes) → length (text_of g) + length p.list ≤ most_text → length p.list ≤ length out.list
      → left_by key (session_at key iv g) (give_text p out) ≡ session_at key iv (taking_text (ad_of g) (text_of g ++ p.list))
  unfolding left_by
  text_left g p out fits room = ap (λ (g : Given). g.session) (text_call_at key iv g p.list out.list fits room)

  pub data_next : (d : List ℕ) (p : Bytes) → length d + length p.list ≤ most_data
      → call key (trail_at (taking_data d)) (give_data p) ≡ trail_at (taking_data (d ++ p.list))
  unfolding call
  data_next d p fits = rw (data_left d p fits, data_call_at key iv d p.list fits)

  pub text_next : (g : Stage) (p out : Bytes) → length (text_of g) + length p.list ≤ most_text → length p.list ≤ length out.list
      → call key (trail_at g) (give_text p out) ≡ trail_at (taking_text (ad_of g) (text_of g ++ p.list))
  unfolding call
  text_next g p out fits room =
      let c : List ℕ = encrypted key iv (length (text_of g)) p.list in
      let w : take (length p.list) (c ++ drop (length p.list) out.list) ≡ c =
      take_at c (drop (length p.list) out.list) (length p.list) (encrypted_length key iv (length (text_of g)) p.list) in
      let a : cipher_of key iv (text_of g) ++ c ≡ cipher_of key iv (text_of g ++ p.list) =
      ap (λ (n : ℕ). cipher_of key iv (text_of g) ++ encrypted key iv n p.list) (sym (zero-add (length (text_of g))))
      ∙ sym (encrypted_append key iv 0 (text_of g) p.list) in
      rw (text_left g p out fits room, text_call_at key iv g p.list out.list fits room)
      (λ i. record {
        session = session_at key iv (taking_text (ad_of g) (text_of g ++ p.list));
        ad = ad_of g;
        text = text_of g ++ p.list;
        cipher = (ap (λ (l : List ℕ). cipher_of key iv (text_of g) ++ l) w ∙ a) i;
        text_begun = or_true (text_begun_of g) i;
      })

  -- ---- a refused one

  data_refused : (t : Trail) (p : Bytes) → eqb (data_number t.session p.list) 0 ≡ false → call key t (give_data p) ≡ t
  unfolding call left_by data_call
  data_refused t p e = rw (e, append-nil t.ad)

  text_refused : (t : Trail) (p out : Bytes) → eqb (text_number t.session p.list out.list) 0 ≡ false → call key t (give_text p out) ≡ t
  unfolding call left_by text_call
  text_refused t p out e = rw (e, append-nil t.text, append-nil t.cipher, or_false t.text_begun)

  -- ---- any list

  module _ (t : Trail) (k : Reached t) where
    still : (c : Call) → call key t c ≡ t → Reached (call key t c)
    still c e = subst Reached (sym e) k

    data_reached : (p : Bytes) → Reached (call key t (give_data p))
    data_reached p = go (eqb (data_number t.session p.list) 0) refl
      where
        g : Stage
        g = k.stage

        go : (v : Bool) → eqb (data_number t.session p.list) 0 ≡ v → Reached (call key t (give_data p))
        go true e =
            let n : data_number (session_at key iv g) p.list ≡ 0 =
            sym (ap (λ (u : Trail). data_number u.session p.list) k.is) ∙ eqb-true (data_number t.session p.list) 0 e in
            let a = data_accepted key iv g p.list n in
            record {
              stage = taking_data (ad_of g ++ p.list);
              is = ap (λ (u : Trail). call key u (give_data p)) (k.is ∙ ap trail_at a.0) ∙ data_next (ad_of g) p a.1;
              within = data_within g p k.within a.1;
            }
        go false e = still (give_data p) (data_refused t p e)

    text_reached : (p out : Bytes) → Reached (call key t (give_text p out))
    text_reached p out = go (eqb (text_number t.session p.list out.list) 0) refl
      where
        g : Stage
        g = k.stage

        go : (v : Bool) → eqb (text_number t.session p.list out.list) 0 ≡ v → Reached (call key t (give_text p out))
        go true e =
            let n : text_number (session_at key iv g) p.list out.list ≡ 0 =
            sym (ap (λ (u : Trail). text_number u.session p.list out.list) k.is)
            ∙ eqb-true (text_number t.session p.list out.list) 0 e in
            let a = text_accepted key iv g p.list out.list n in
            record {
              stage = taking_text (ad_of g) (text_of g ++ p.list);
              is = ap (λ (u : Trail). call key u (give_text p out)) k.is ∙ text_next g p out a.0 a.1;
              within = text_within g p k.within a.0;
            }
        go false e = still (give_text p out) (text_refused t p out e)

-- ---- suspended, and resumed or not: all stays as it is

-- a trail with another session
abbrev with_session : Trail → Session → Trail
with_session t s = record { session = s; ad = t.ad; text = t.text; cipher = t.cipher; text_begun = t.text_begun }

pub suspended_same : (key : List ℕ) (t : Trail) (out : Bytes) → call key t (suspend_alone out) ≡ t
unfolding call left_by
suspended_same key t out = ap (with_session t) (suspend_session t.session out.list)

module _ (key iv : List ℕ) (r : Row 32 256 key) (v : IsBlock iv) where
  pub resumed_same : (g : Stage) (out : Bytes) → Within g → call key (trail_at key iv g) (suspend_and_resume out) ≡ trail_at key iv g
  unfolding call
  resumed_same g out w = ap (with_session (trail_at key iv g)) (left_same key iv (session_at key iv g) out (resume_at key iv r v g w out.list))

  call_reached : (t : Trail) (c : Call) → Reached key iv t → Reached key iv (call key t c)
  call_reached t (give_data p) k = data_reached key iv t k p
  call_reached t (give_text p out) k = text_reached key iv t k p out
  call_reached t (suspend_alone out) k = still key iv t k (suspend_alone out) (suspended_same key t out)
  call_reached t (suspend_and_resume out) k =
      still key iv t k (suspend_and_resume out)
      (ap (λ (u : Trail). call key u (suspend_and_resume out)) k.is ∙ resumed_same k.stage out k.within ∙ sym k.is)

  pub calls_reached : (t : Trail) (cs : List Call) → Reached key iv t → Reached key iv (calls key t cs)
  unfolding calls
  calls_reached t [] k = k
  calls_reached t (c ∷ cs) k = calls_reached (call key t c) cs (call_reached t c k)

-- ---- from begin on

pub begin_at : (key iv : Bytes) → Keyed key iv
    → at_begin key iv ≡ trail_at key.list iv.list (taking_data [])
unfolding encrypted
begin_at key iv l = rw (begin_call_at key.list iv.list l.key_long l.iv_long)

pub after_reached : (key iv : Bytes) → Keyed key iv → (cs : List Call) → Reached key.list iv.list (after key iv cs)
after_reached key iv l cs =
    calls_reached key.list iv.list (row_of key l.key_long) (row_of iv l.iv_long) _ cs
    (record { stage = taking_data []; is = begin_at key iv l; within = none_within })
