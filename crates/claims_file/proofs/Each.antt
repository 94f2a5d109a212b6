-- Texts sealed one after the other at rising places, of a stay that the file has no page of, each open: every seal finds the stay's pages before its place
-- and none behind it, so that the file ends with the sealed pages in order.
use mathlib.Core.Path.{◌≡◌, refl, sym, ap, ap₂, ◌∙◌}
use mathlib.Core.Bool.{true}
use mathlib.Core.List.{List, [], ◌∷◌, ◌++◌, append-nil}
use Prim.Native.Nat.{ℕ, zero, suc, ◌+◌, ◌-◌, ◌^◌, ◌≤◌, ◌<◌}
use native.Mathlib.Omega.{arith}
use borrow.Author.Tests.{eqb-true, eq-eqb, leb-true, lt-ltb}
use lib.Dec.{eqb, leb}
use lib.ListN.{length, get_or, take, drop, take-append-drop}
use lib.Seq.{append_snoc, drop-drop}
use Rattle.scope.specs.Limits.{last_day}
use Rattle.words.proofs.Tests.{and_left, and_right}
use Rattle.fields.specs.Fields.{every}
use Rattle.page_file.specs.Layout.{page_number, departure, sealed_page}
use Rattle.page_file.specs.File.{pages, in_order, of_stay, running, all_on, one_day, stay_in_order, named}
use Rattle.page_file.specs.Calls.{seal_number, seal_file, page_of}
use Rattle.page_file.proofs.Pages.{of_stay_append, lacks_running, named_running}
use Rattle.claims_file.specs.Claims.{Entry, seal_each, each_accepted, rising, before, behind, OpensTo, Sealable}
use Rattle.claims_file.proofs.Accepting.{accepted}
use Rattle.claims_file.proofs.Reading.{number_is, departure_is}
use Rattle.claims_file.proofs.Opening.{page_opens}
use Rattle.claims_file.proofs.Placing.{own_after, behind_after, order_kept}

abbrev no_entry : Entry
no_entry = record { place = 0; text = [] }

-- ---- the stay's pages before a place, where it has none from there on

none_right : (us vs : List (List ℕ)) → us ++ vs ≡ [] → vs ≡ []
none_right [] vs e = e
none_right (u ∷ us) vs e = cc

none_behind : (s : List ℕ) (j : ℕ) (bs : List (List ℕ)) → of_stay s bs ≡ [] → of_stay s (drop j bs) ≡ []
none_behind s j bs e =
    none_right (of_stay s (take j bs)) (of_stay s (drop j bs))
    (sym (of_stay_append s (take j bs) (drop j bs)) ∙ ap (of_stay s) (take-append-drop j bs) ∙ e)

none_from : (s : List ℕ) (k j : ℕ) (bs : List (List ℕ)) → k ≤ j → of_stay s (drop k bs) ≡ [] → of_stay s (drop j bs) ≡ []
none_from s k j bs h e =
    let q : k + (j - k) ≡ j = omega arith in
    ap (of_stay s) (ap (λ (i : ℕ). drop i bs) (sym q) ∙ sym (drop-drop (j - k) k bs)) ∙ none_behind s (j - k) (drop k bs) e

all_before : (s : List ℕ) (j : ℕ) (bs : List (List ℕ)) → of_stay s (drop j bs) ≡ [] → of_stay s (take j bs) ≡ of_stay s bs
all_before s j bs e =
    sym (append-nil (of_stay s (take j bs)))
    ∙ ap (λ (l : List (List ℕ)). of_stay s (take j bs) ++ l) (sym e)
    ∙ sym (of_stay_append s (take j bs) (drop j bs))
    ∙ ap (of_stay s) (take-append-drop j bs)

-- ---- the pages that are sealed

module _ (key stay : List ℕ) (day : ℕ) where
  sealed_each : ℕ → List Entry → List (List ℕ)
  sealed_each n [] = []
  sealed_each n (e ∷ es) = sealed_page key stay n day e.text ∷ sealed_each (n + 1) es

  each_long : (n : ℕ) (es : List Entry) → length (sealed_each n es) ≡ length es
  unfolding sealed_each
  each_long n [] = refl
  each_long n (e ∷ es) = ap suc (each_long (n + 1) es)

  each_at : (n k : ℕ) (es : List Entry) → k < length es → get_or (sealed_each n es) k [] ≡ sealed_page key stay (n + k) day (get_or es k no_entry).text
  unfolding sealed_each
  each_at n k [] h = absurd (omega arith)
  each_at n zero (e ∷ es) h = ap (λ (m : ℕ). sealed_page key stay m day e.text) (let q : n ≡ n + 0 = omega arith in q)
  each_at n (suc k) (e ∷ es) h =
      let q : n + 1 + k ≡ n + suc k = omega arith in
      each_at (n + 1) k es (omega arith) ∙ ap (λ (m : ℕ). sealed_page key stay m day (get_or es k no_entry).text) q

  each_running : (n : ℕ) (es : List Entry) → length stay ≡ 12 → n + length es ≤ 2 ^ 32 → running n (sealed_each n es) ≡ true
  unfolding sealed_each running
  each_running n [] l h = refl
  each_running n (e ∷ es) l h =
      rw (eq-eqb (page_number (sealed_page key stay n day e.text)) n (number_is key stay n day e.text l (omega arith)))
      (each_running (n + 1) es l (omega arith))

  each_on : (n : ℕ) (es : List Entry) → length stay ≡ 12 → day ≤ last_day → all_on day (sealed_each n es) ≡ true
  unfolding sealed_each all_on every
  each_on n [] l h = refl
  each_on n (e ∷ es) l h =
      rw (eq-eqb (departure (sealed_page key stay n day e.text)) day (departure_is key stay n day e.text l h)) (each_on (n + 1) es l h)

  each_one_day : (n : ℕ) (es : List Entry) → length stay ≡ 12 → day ≤ last_day → one_day (sealed_each n es) ≡ true
  unfolding sealed_each one_day
  each_one_day n [] l h = refl
  each_one_day n (e ∷ es) l h =
      ap (λ (d : ℕ). all_on d (sealed_each (n + 1) es)) (departure_is key stay n day e.text l h) ∙ each_on (n + 1) es l h

  -- ---- the file that they are sealed into

  -- the first is accepted, and then the others
  module _ (n : ℕ) (e : Entry) (es : List Entry) (f : List ℕ) (a : each_accepted key stay day n (e ∷ es) f ≡ true) where
    abbrev next : List ℕ
    next = seal_file key stay n day e.text f e.place

    first : seal_number key stay day e.text f e.place ≡ 0
    unfolding each_accepted
    first =
        let m : ℕ = seal_number key stay day e.text f e.place in
        eqb-true m 0 (and_left (eqb m 0) (each_accepted key stay day (n + 1) es next) a)

    others : each_accepted key stay day (n + 1) es next ≡ true
    unfolding each_accepted
    others = and_right (eqb (seal_number key stay day e.text f e.place) 0) (each_accepted key stay day (n + 1) es next) a

  each_sealable : (n : ℕ) (es : List Entry) (f : List ℕ) → each_accepted key stay day n es f ≡ true → (k : ℕ) → k < length es
      → Sealable key stay day (get_or es k no_entry).text
  each_sealable n [] f a k h = absurd (omega arith)
  each_sealable n (e ∷ es) f a zero h = (accepted key stay day e.text f e.place (first n e es f a)).0
  each_sealable n (e ∷ es) f a (suc k) h =
      each_sealable (n + 1) es (seal_file key stay n day e.text f e.place) (others n e es f a) k (omega arith)

  each_order : (n : ℕ) (es : List Entry) (f : List ℕ) → each_accepted key stay day n es f ≡ true → in_order f ≡ true
      → in_order (seal_each key stay day n es f) ≡ true
  unfolding seal_each
  each_order n [] f a o = o
  each_order n (e ∷ es) f a o =
      each_order (n + 1) es (seal_file key stay n day e.text f e.place) (others n e es f a)
      (order_kept key stay n day e.text f e.place (first n e es f a) o)

  -- the stay had the pages bs, all before place k
  each_pages : (n k : ℕ) (es : List Entry) (f : List ℕ) (bs : List (List ℕ)) → of_stay stay (pages f) ≡ bs → of_stay stay (drop k (pages f)) ≡ []
      → rising k es ≡ true → each_accepted key stay day n es f ≡ true → of_stay stay (pages (seal_each key stay day n es f)) ≡ bs ++ sealed_each n es
  unfolding seal_each sealed_each rising
  each_pages n k [] f bs p z r a = p ∙ sym (append-nil bs)
  each_pages n k (e ∷ es) f bs p z r a =
      let i : ℕ = e.place in
      let b : List ℕ = sealed_page key stay n day e.text in
      let g : List ℕ = seal_file key stay n day e.text f i in
      let ok = first n e es f a in
      let up : k ≤ i = leb-true k i (and_left (leb k i) (rising (i + 1) es) r) in
      let none : of_stay stay (behind i f) ≡ [] = none_from stay k (i + 1) (pages f) (omega arith) z in
      let all : of_stay stay (before i f) ≡ bs = all_before stay i (pages f) (none_from stay k i (pages f) up z) ∙ p in
      let own : of_stay stay (pages g) ≡ bs ++ b ∷ [] =
      own_after key stay n day e.text f i ok ∙ ap₂ (λ (us vs : List (List ℕ)). us ++ b ∷ vs) all none in
      each_pages (n + 1) (i + 1) es g (bs ++ b ∷ []) own (ap (of_stay stay) (behind_after key stay n day e.text f i ok) ∙ none)
      (and_right (leb k i) (rising (i + 1) es) r) (others n e es f a)
      ∙ append_snoc bs b (sealed_each (n + 1) es)

  -- ---- the claim

  pub each_opens : (es : List Entry) (f : List ℕ) → length es ≤ 2 ^ 32 → in_order f ≡ true → of_stay stay (pages f) ≡ [] → rising 0 es ≡ true
      → each_accepted key stay day 0 es f ≡ true → (k : ℕ) → k < length es
      → OpensTo key stay k (seal_each key stay day 0 es f) (get_or es k no_entry).text
  unfolding page_of stay_in_order
  each_opens es f few o none r a k h =
      let s = each_sealable 0 es f a k h in
      let bs : List (List ℕ) = sealed_each 0 es in
      let own : of_stay stay (pages (seal_each key stay day 0 es f)) ≡ bs = each_pages 0 0 es f [] none none r a in
      let run : running 0 bs ≡ true = each_running 0 es s.stay_long (omega arith) in
      let inside : k < length bs = omega (arith, each_long 0 es) in
      let at : named k bs ≡ sealed_page key stay k day (get_or es k no_entry).text =
      named_running k bs run inside ∙ each_at 0 k es h
      ∙ ap (λ (m : ℕ). sealed_page key stay m day (get_or es k no_entry).text) (let q : 0 + k ≡ k = omega arith in q) in
      let day-one : one_day bs ≡ true = each_one_day 0 es s.stay_long s.day_fits in
      let ordered : stay_in_order k bs ≡ true = rw (lacks_running k bs run, lt-ltb k (length bs) inside, run, day-one) in
      page_opens key stay k day (get_or es k no_entry).text s (seal_each key stay day 0 es f) (ap (named k) own ∙ at) (each_order 0 es f a o)
      (ap (stay_in_order k) own ∙ ordered)
