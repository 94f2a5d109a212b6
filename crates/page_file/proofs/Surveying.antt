-- What is known of the pages seen so far, with one page more: what was seen of those before it, and what its header says, make what is known of all.
use Rattle.std.proofs.Common.{◌≡◌, ℕ, suc, ◌+◌, ◌≤◌, Bool, true, false, ◌&&◌, List, [], ◌∷◌, ◌++◌, map, length, Option, Some, None, refl, sym, ap, ap₂, ◌∙◌, append-nil, length-append, arith, eqb, leb, eq-eqb, eqb-true}
use Rattle.std.proofs.lemmas.Bool.{eqb-false}
use Rattle.std.specs.Option.{unwrap_or}
use Rattle.std.proofs.Math.ListN.{get_or-append}
use Rattle.std.proofs.Math.Seq.{get_or_at}
use mathlib.Core.Bool.{and_assoc, and-true}
use Rattle.scope.specs.Limits.{most_page_text, last_day}
use Rattle.scope.specs.Refusals.{pick}
use Rattle.words.specs.Bytes.{same}
use Rattle.fields.specs.Fields.{every}
use Rattle.fields.specs.Blocks.{cut}
use Rattle.fields.proofs.Every.{every_append}
use Rattle.fields.proofs.Blocks.{cut_long}
use Rattle.page_file.specs.Layout.{stay_of, page_number, departure, text_length}
use Rattle.page_file.specs.File.{in_range, of_stay, running, all_on, one_day}
use Rattle.page_file.specs.Inner.{first_day, IsPlace, Surveyed}
use Rattle.page_file.specs.declared.Seen.{Seen}
use Rattle.page_file.proofs.Pages.{of_stay_append, all_on_append, running_append}

-- both tests of a page's header
pub ranged_as : (c : Bool) (len day : ℕ) (b : List ℕ) → len ≡ text_length b → day ≡ departure b
    → (c && leb len most_page_text && leb day last_day) ≡ (c && in_range b)
unfolding in_range
ranged_as c len day b e g = rw (e, g) (and_assoc c (leb (text_length b) most_page_text) (leb (departure b) last_day))

-- ---- one page more

range_more : (bs : List (List ℕ)) (b : List ℕ) → every (map in_range (bs ++ b ∷ [])) ≡ (every (map in_range bs) && in_range b)
unfolding every
range_more bs b = every_append in_range bs (b ∷ []) ∙ ap (λ (c : Bool). every (map in_range bs) && c) (and-true (in_range b))

run_more : (us : List (List ℕ)) (b : List ℕ) → running 0 (us ++ b ∷ []) ≡ (running 0 us && eqb (page_number b) (length us))
unfolding running
run_more us b =
    let z : 0 + length us ≡ length us = omega arith in
    running_append 0 us (b ∷ [])
    ∙ ap (λ (m : ℕ). running 0 us && (eqb (page_number b) m && true)) z
    ∙ ap (λ (c : Bool). running 0 us && c) (and-true (eqb (page_number b) (length us)))

-- the day of the first, with one page more
day_more : (us : List (List ℕ)) (b : List ℕ) → Some (unwrap_or (first_day us) (departure b)) ≡ first_day (us ++ b ∷ [])
day_more [] b = refl
day_more (u ∷ us) b = refl

dated_more : (us : List (List ℕ)) (b : List ℕ)
    → (one_day us && eqb (departure b) (unwrap_or (first_day us) (departure b))) ≡ one_day (us ++ b ∷ [])
unfolding one_day all_on every
dated_more [] b = eq-eqb (departure b) (departure b) refl
dated_more (u ∷ us) b =
    ap (λ (c : Bool). all_on (departure u) us && c) (sym (and-true (eqb (departure b) (departure u))))
    ∙ sym (all_on_append (departure u) us (b ∷ []))

module _ (n : ℕ) (bs us : List (List ℕ)) (b : List ℕ) where
  -- the place of page n stays where it is
  place_kept : (p : Option ℕ) → IsPlace bs us n p → IsPlace (bs ++ b ∷ []) us n p
  place_kept None h = h
  place_kept (Some j) h = (h.0, omega (arith, h.1, length-append bs (b ∷ [])), get_or-append bs (b ∷ []) [] j h.1 ∙ h.2)

  -- and one page more of the stay is page n, or is not
  place_more : (i : ℕ) → length bs ≡ i → (p : Option ℕ) → IsPlace bs us n p → (c : Bool) → eqb (length us) n ≡ c
      → IsPlace (bs ++ b ∷ []) (us ++ b ∷ []) n (pick c (Some i) p)
  place_more i here p h true e =
      let q : length us ≡ n = eqb-true (length us) n e in (
        omega (arith, length-append us (b ∷ [])),
        omega (arith, length-append bs (b ∷ [])),
        get_or_at bs b [] [] i here ∙ sym (get_or_at us b [] [] n q),
      )
  place_more i here None h false e =
      let q = eqb-false (length us) n e in omega (arith, length-append us (b ∷ []), h)
  place_more i here (Some j) h false e = (
    omega (arith, length-append us (b ∷ []), h.0),
    omega (arith, length-append bs (b ∷ []), h.1),
    get_or-append bs (b ∷ []) [] j h.1 ∙ h.2 ∙ sym (get_or-append us (b ∷ []) [] n h.0),
  )

module _ (stay : List ℕ) (n : ℕ) (bs : List (List ℕ)) (s t : Seen) (b : List ℕ) (k : Surveyed stay n bs s) where
  -- of another stay
  module _ (other : same (stay_of b) stay ≡ false) where
    skipped : of_stay stay (bs ++ b ∷ []) ≡ of_stay stay bs
    unfolding of_stay
    skipped = of_stay_append stay bs (b ∷ []) ∙ rw other (append-nil (of_stay stay bs))

    pub passed : t.ranged ≡ (s.ranged && in_range b) → t.running ≡ s.running → t.dated ≡ s.dated → t.count ≡ s.count → t.day ≡ s.day → t.place ≡ s.place
        → Surveyed stay n (bs ++ b ∷ []) t
    passed er eu ed ec ey ep =
        record {
          ranged = er ∙ ap (λ (c : Bool). c && in_range b) k.ranged ∙ sym (range_more bs b);
          run = eu ∙ k.run ∙ ap (running 0) (sym skipped);
          dated = ed ∙ k.dated ∙ ap one_day (sym skipped);
          counted = ec ∙ k.counted ∙ ap length (sym skipped);
          day = ey ∙ k.day ∙ ap first_day (sym skipped);
          placed = rw (ep, skipped) (place_kept n bs (of_stay stay bs) b s.place k.placed);
        }

  -- of this stay
  module _ (i : ℕ) (here : length bs ≡ i) (mine : same (stay_of b) stay ≡ true) where
    joined : of_stay stay (bs ++ b ∷ []) ≡ of_stay stay bs ++ b ∷ []
    unfolding of_stay
    joined = of_stay_append stay bs (b ∷ []) ∙ rw mine

    pub added : t.ranged ≡ (s.ranged && in_range b) → t.running ≡ (s.running && eqb (page_number b) s.count)
        → t.dated ≡ (s.dated && eqb (departure b) (unwrap_or s.day (departure b))) → t.count ≡ s.count + 1 → t.day ≡ Some (unwrap_or s.day (departure b))
        → t.place ≡ pick (eqb s.count n) (Some i) s.place → Surveyed stay n (bs ++ b ∷ []) t
    added er eu ed ec ey ep =
        let us = of_stay stay bs in
        record {
          ranged = er ∙ ap (λ (c : Bool). c && in_range b) k.ranged ∙ sym (range_more bs b);
          run = eu ∙ ap₂ (λ (c : Bool) (m : ℕ). c && eqb (page_number b) m) k.run k.counted ∙ sym (run_more us b) ∙ ap (running 0) (sym joined);
          dated =
              ed
              ∙ ap₂ (λ (c : Bool) (d : Option ℕ). c && eqb (departure b) (unwrap_or d (departure b))) k.dated k.day
              ∙ dated_more us b
              ∙ ap one_day (sym joined);
          counted = ec ∙ ap (λ (m : ℕ). m + 1) k.counted ∙ sym (length-append us (b ∷ [])) ∙ ap length (sym joined);
          day = ey ∙ ap (λ (d : Option ℕ). Some (unwrap_or d (departure b))) k.day ∙ day_more us b ∙ ap first_day (sym joined);
          placed = rw (ep, k.counted, joined) (place_more n bs us b i here s.place k.placed (eqb (length us) n) refl);
        }

-- ---- before the first, and how many at most

pub seen_none : (stay : List ℕ) (n : ℕ) (f : List ℕ)
    → Surveyed stay n (cut 0 f) (record { ranged = true; running = true; dated = true; count = 0; day = None; place = None })
unfolding cut of_stay running one_day every
seen_none stay n f = record { ranged = refl; run = refl; dated = refl; counted = refl; day = refl; placed = omega arith }

fewer : (stay : List ℕ) (bs : List (List ℕ)) → length (of_stay stay bs) ≤ length bs
unfolding of_stay
fewer stay [] = omega arith
fewer stay (b ∷ bs) = go (same (stay_of b) stay) (fewer stay bs)
  where
    go : (c : Bool) → length (of_stay stay bs) ≤ length bs → length (pick c (b ∷ of_stay stay bs) (of_stay stay bs)) ≤ suc (length bs)
    go true h = omega arith
    go false h = omega arith

pub seen_fewer : (stay : List ℕ) (n i : ℕ) (f : List ℕ) (s : Seen) → Surveyed stay n (cut i f) s → s.count ≤ i
seen_fewer stay n i f s k = omega (arith, k.counted, fewer stay (cut i f), cut_long i f)
