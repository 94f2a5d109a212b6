-- Sealing by pieces: every list has written the page's ciphertext, and its session's finish gives the page's tag; and of a list of pieces that
-- join to a page within the limits every piece is accepted.
use mathlib.Core.Path.{◌≡◌, refl, sym, ap, subst, ◌∙◌}
use mathlib.Core.Bool.{Bool, true, false}
use mathlib.Core.List.{List, [], ◌∷◌, ◌++◌, append-nil, append_assoc}
use Prim.Native.Nat.{ℕ, zero, suc, ◌+◌, ◌≤◌}
use native.Mathlib.Omega.{arith}
use borrow.Author.Tests.{eqb-true}
use lib.Dec.{eqb}
use lib.ListN.{get_or, length, drop, length-append}
use Rattle.scope.specs.Limits.{most_data, most_text}
use Rattle.words.specs.Bytes.{Row, IsBlock}
use Rattle.scope.specs.Refusals.{granted}
use Rattle.session.specs.Calls.{Given, Finished, text_number, text_call, finish_call}
use Rattle.page.specs.Page.{encrypted, cipher_of, page_tag}
use Rattle.page.specs.Reached.{session_for}
use Rattle.page.proofs.Reached.{session_is}
use Rattle.page.proofs.Stages.{Stage, Stage.taking_data, Stage.taking_text, ad_of, text_of, session_at}
use Rattle.page.proofs.WholeCalls.{begin_call_at, data_call_at, text_call_at, text_accepted, finish_call_at}
use Rattle.claims.specs.Lists.{Bytes, Call, Call.give_data, Call.give_text, Call.suspend_alone, Call.suspend_and_resume, Trail, call, calls, answers, after, data_pieces, text_pieces, TextOn, DataThenText, Joins}
use Rattle.claims.specs.Claims.{Keyed, AllAccepted, SealedByPieces}
use Rattle.claims.proofs.Within.{row_of, Within, none_within, data_within, text_within}
use Rattle.claims.proofs.Reached.{trail_at, data_next, text_next, suspended_same, resumed_same, begin_at, after_reached}

pub any_list : (key iv : Bytes) → Keyed key iv → (cs : List Call) → SealedByPieces key iv cs (after key iv cs).ad (after key iv cs).text
any_list key iv l cs =
    let k : List ℕ = key.list in
    let v : List ℕ = iv.list in
    let r = after_reached key iv l cs in
    let t : after key iv cs ≡ trail_at k v r.stage = r.is in
    let f : finish_call (after key iv cs).session ≡ finish_call (session_at k v r.stage) = ap (λ (u : Trail). finish_call u.session) t in
    let g = f ∙ finish_call_at k v r.stage in
    record {
      begun = ap (λ (b : Given). b.number) (begin_call_at k v l.key_long l.iv_long);
      cipher = ap (λ (u : Trail). u.cipher) t ∙ sym (ap (λ (u : Trail). cipher_of k v u.text) t);
      finished = ap (λ (b : Finished). b.number) g;
      iv_given = ap (λ (b : Finished). b.iv) g;
      tag = ap (λ (b : Finished). b.tag) g ∙ sym (ap (λ (u : Trail). page_tag k v u.ad u.text) t);
    }

-- ---- every piece of a page is accepted

-- an answer more
answered_more : (n : ℕ) (l : List ℕ) → n ≡ 0 → ((i : ℕ) → get_or l i 0 ≡ 0) → (i : ℕ) → get_or (n ∷ l) i 0 ≡ 0
answered_more n l e h zero = e
answered_more n l e h (suc i) = h i

module _ (key iv : List ℕ) (r : Row 32 256 key) (v : IsBlock iv) where
  -- from a stage on, the calls take all pieces
  record All (g : Stage) (cs : List Call) : Type 0 where
    data_is : (calls key (trail_at key iv g) cs).ad ≡ ad_of g ++ data_pieces cs
    text_is : (calls key (trail_at key iv g) cs).text ≡ text_of g ++ text_pieces cs
    answered : (i : ℕ) → get_or (answers key (trail_at key iv g) cs) i 0 ≡ 0

  -- what a call leaves to be shown of a list that it begins
  Answers : (c : Call) (cs : List Call) (f g : Stage) → Type 0
  Answers c cs f g = ((i : ℕ) → get_or (answers key (trail_at key iv g) cs) i 0 ≡ 0) → (i : ℕ) → get_or (answers key (trail_at key iv f) (c ∷ cs)) i 0 ≡ 0

  -- an accepted call, and all that follow
  more : (c : Call) (cs : List Call) (f g : Stage) (d t : List ℕ) → call key (trail_at key iv f) c ≡ trail_at key iv g → Answers c cs f g
      → ad_of g ≡ ad_of f ++ d → text_of g ≡ text_of f ++ t → data_pieces (c ∷ cs) ≡ d ++ data_pieces cs → text_pieces (c ∷ cs) ≡ t ++ text_pieces cs
      → All g cs → All f (c ∷ cs)
  unfolding calls Answers
  more c cs f g d t e s a b x y r =
      record {
        data_is = ap (λ (u : Trail). (calls key u cs).ad) e ∙ r.data_is ∙ ap (λ (l : List ℕ). l ++ data_pieces cs) a
            ∙ append_assoc (ad_of f) d (data_pieces cs) ∙ ap (λ (l : List ℕ). ad_of f ++ l) (sym x);
        text_is = ap (λ (u : Trail). (calls key u cs).text) e ∙ r.text_is ∙ ap (λ (l : List ℕ). l ++ text_pieces cs) b
            ∙ append_assoc (text_of f) t (text_pieces cs) ∙ ap (λ (l : List ℕ). text_of f ++ l) (sym y);
        answered = s r.answered;
      }

  -- a suspend, resumed or not, leaves all as it is
  alone : (out : Bytes) (cs : List Call) (g : Stage) → All g cs → All g (suspend_alone out ∷ cs)
  unfolding Answers answers data_pieces text_pieces
  alone out cs g =
      let e = suspended_same key (trail_at key iv g) out in
      more (suspend_alone out) cs g g [] [] e (λ h i. ap (λ (u : Trail). get_or (answers key u cs) i 0) e ∙ h i) (sym (append-nil (ad_of g)))
      (sym (append-nil (text_of g))) refl refl

  resumed : (out : Bytes) (cs : List Call) (g : Stage) → Within g → All g cs → All g (suspend_and_resume out ∷ cs)
  unfolding Answers answers data_pieces text_pieces
  resumed out cs g w =
      let e = resumed_same key iv r v g out w in
      more (suspend_and_resume out) cs g g [] [] e (λ h i. ap (λ (u : Trail). get_or (answers key u cs) i 0) e ∙ h i) (sym (append-nil (ad_of g)))
      (sym (append-nil (text_of g))) refl refl

  -- a piece of text, and the rest within the limit behind it
  text_more : (g : Stage) (p out : Bytes) (cs : List Call) → Within g → length p.list ≤ length out.list
      → length (text_of g) + length (p.list ++ text_pieces cs) ≤ most_text
      → (Within (taking_text (ad_of g) (text_of g ++ p.list)) → length (text_of g ++ p.list) + length (text_pieces cs) ≤ most_text
      → All (taking_text (ad_of g) (text_of g ++ p.list)) cs)
      → All g (give_text p out ∷ cs)
  unfolding text_pieces data_pieces answers Answers
  text_more g p out cs w room fits rest =
      let l = length-append p.list (text_pieces cs) in
      let m = length-append (text_of g) p.list in
      let one : length (text_of g) + length p.list ≤ most_text = omega (arith, fits, l) in
      let e = text_next key iv g p out one room in
      let n = ap (λ (x : Given). x.number) (text_call_at key iv g p.list out.list one room) in
      more (give_text p out) cs g (taking_text (ad_of g) (text_of g ++ p.list)) [] p.list e
      (λ h. answered_more _ (answers key (call key (trail_at key iv g) (give_text p out)) cs) n (λ i. ap (λ (u : Trail). get_or (answers key u cs) i 0) e ∙ h i))
      (sym (append-nil (ad_of g))) refl refl refl
      (rest (text_within g p w one) (omega (arith, fits, l, m)))

  text_all : (g : Stage) (cs : List Call) → Within g → TextOn cs → length (text_of g) + length (text_pieces cs) ≤ most_text → All g cs
  unfolding TextOn text_pieces data_pieces calls answers
  text_all g [] w o fits = record { data_is = sym (append-nil (ad_of g)); text_is = sym (append-nil (text_of g)); answered = λ i. refl }
  text_all g (give_data p ∷ cs) w o fits = absurd o
  text_all g (give_text p out ∷ cs) w o fits =
      text_more g p out cs w o.0 fits (λ w. text_all (taking_text (ad_of g) (text_of g ++ p.list)) cs w o.1)
  text_all g (suspend_alone out ∷ cs) w o fits = alone out cs g (text_all g cs w o fits)
  text_all g (suspend_and_resume out ∷ cs) w o fits = resumed out cs g w (text_all g cs w o fits)

  data_all : (d : List ℕ) (cs : List Call) → Within (taking_data d) → DataThenText cs → length d + length (data_pieces cs) ≤ most_data
      → length (text_pieces cs) ≤ most_text → All (taking_data d) cs
  unfolding DataThenText text_pieces data_pieces calls answers Answers
  data_all d [] w o a b = record { data_is = sym (append-nil d); text_is = refl; answered = λ i. refl }
  data_all d (give_data p ∷ cs) w o a b =
      let l = length-append p.list (data_pieces cs) in
      let m = length-append d p.list in
      let one : length d + length p.list ≤ most_data = omega (arith, a, l) in
      let e = data_next key iv d p one in
      let n = ap (λ (x : Given). x.number) (data_call_at key iv d p.list one) in
      more (give_data p) cs (taking_data d) (taking_data (d ++ p.list)) p.list [] e
      (λ h. answered_more _ (answers key (call key (trail_at key iv (taking_data d)) (give_data p)) cs) n (λ i. ap (λ (u : Trail). get_or (answers key u cs) i 0) e ∙ h i))
      refl refl refl refl
      (data_all (d ++ p.list) cs (data_within (taking_data d) p w one) o (omega (arith, a, l, m)) b)
  data_all d (give_text p out ∷ cs) w o a b =
      text_more (taking_data d) p out cs w o.0 (omega arith) (λ w. text_all (taking_text d p.list) cs w o.1)
  data_all d (suspend_alone out ∷ cs) w o a b = alone out cs (taking_data d) (data_all d cs w o a b)
  data_all d (suspend_and_resume out ∷ cs) w o a b = resumed out cs (taking_data d) w (data_all d cs w o a b)

pub page : (key iv : Bytes) → Keyed key iv → (ad text : List ℕ) → length ad ≤ most_data → length text ≤ most_text → (cs : List Call)
    → Joins cs ad text → AllAccepted key iv cs ad text × SealedByPieces key iv cs ad text
page key iv l ad text d t cs j =
    let all = data_all key.list iv.list (row_of key l.key_long) (row_of iv l.iv_long) [] cs none_within j.order (rw j.data_joins (omega arith))
    (rw j.text_joins t) in
    let b = begin_at key iv l in
    let x : (after key iv cs).ad ≡ ad = ap (λ (u : Trail). (calls key.list u cs).ad) b ∙ all.data_is ∙ j.data_joins in
    let y : (after key iv cs).text ≡ text = ap (λ (u : Trail). (calls key.list u cs).text) b ∙ all.text_is ∙ j.text_joins in (
      record { answered = λ i. ap (λ (u : Trail). get_or (answers key.list u cs) i 0) b ∙ all.answered i; data_is = x; text_is = y },
      rw x at (rw y at (any_list key iv l cs)),
    )

-- ---- what the session is

pub session_after : (key iv : Bytes) → Keyed key iv → (cs : List Call)
    → let t = after key iv cs in t.session ≡ session_for key.list iv.list t.ad t.text t.text_begun
session_after key iv l cs =
    let r = after_reached key iv l cs in
    ap (λ (u : Trail). u.session) r.is ∙ session_is key.list iv.list r.stage
    ∙ sym (ap (λ (u : Trail). session_for key.list iv.list u.ad u.text u.text_begun) r.is)

-- ---- what a text piece writes

module _ (key iv : List ℕ) (p out : List ℕ) where
  abbrev Writes : Stage → Type 0
  Writes g =
      (text_call (session_at key iv g) p out).out
      ≡ granted (text_call (session_at key iv g) p out).number (encrypted key iv (length (text_of g)) p ++ drop (length p) out) out

  writes_at : (g : Stage) → Writes g
  unfolding text_call
  writes_at g = go (eqb (text_number (session_at key iv g) p out) 0) refl
    where
      go : (b : Bool) → eqb (text_number (session_at key iv g) p out) 0 ≡ b → Writes g
      go true e =
          let a = text_accepted key iv g p out (eqb-true (text_number (session_at key iv g) p out) 0 e) in
          let c = text_call_at key iv g p out a.0 a.1 in
          ap (λ (x : Given). x.out) c
          ∙ sym (ap (λ (n : ℕ). granted n (encrypted key iv (length (text_of g)) p ++ drop (length p) out) out) (ap (λ (x : Given). x.number) c))
      go false e = rw e

pub writes : (key iv : Bytes) → Keyed key iv → (cs : List Call) (p out : Bytes)
    → let t = after key iv cs in
    let g = text_call t.session p.list out.list in
    g.out ≡ granted g.number (encrypted key.list iv.list (length t.text) p.list ++ drop (length p.list) out.list) out.list
writes key iv l cs p out =
    let r = after_reached key iv l cs in
    subst
    (λ (u : Trail).
    (text_call u.session p.list out.list).out
    ≡ granted (text_call u.session p.list out.list).number
    (encrypted key.list iv.list (length u.text) p.list ++ drop (length p.list) out.list) out.list)
    (sym r.is) (writes_at key.list iv.list p.list out.list r.stage)
