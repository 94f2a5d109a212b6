-- The numbers of an open by what it finds: lengths, the file, the stay's pages; then the page that is asked for is the one at the place surveyed.
use Rattle.std.proofs.Common.{◌≡◌, ℕ, ◌+◌, ◌*◌, ◌/◌, ◌%◌, ◌≤◌, ◌<◌, Bool, true, false, not, ◌&&◌, List, [], length, get_or, Some, None, refl, sym, ap, ◌∙◌, subst, arith, leb, ltb, eq-eqb, ne_eqb}
use borrow.Author.Tests.{leb-true, le-ltb, lt-ltb}
use mathlib.Core.Bool.{and-false}
use Rattle.scope.specs.Limits.{most_page_text, last_day}
use Rattle.scope.specs.Refusals.{refuse}
use Rattle.words.specs.Bytes.{part}
use Rattle.words.proofs.Tests.{and_left}
use Rattle.fields.specs.Blocks.{blocks}
use Rattle.fields.proofs.Every.{every_in}
use Rattle.fields.proofs.Blocks.{cut_long, cut_at}
use Rattle.page_file.specs.Layout.{text_length, departure}
use Rattle.page_file.specs.File.{pages, in_range, in_order, of_stay, lacks, running, one_day, stay_in_order}
use Rattle.page_file.specs.Calls.{page_open_number, page_of, open_number}
use Rattle.page_file.specs.Inner.{IsPlace, Surveyed}
use Rattle.page_file.specs.declared.Seen.{Seen}
use Rattle.page_file.proofs.Pages.{lacks_running, named_running}

-- whether a stay is in order, by what is counted
in_order_is : (n : ℕ) (bs : List (List ℕ)) → stay_in_order n bs ≡ (ltb n (length bs) && (running 0 bs && one_day bs))
unfolding stay_in_order
in_order_is n bs = go (running 0 bs) refl
  where
    there : (a b : Bool) → (not (not a) && true && b) ≡ (a && (true && b))
    there true b = refl
    there false b = refl

    none : (a b : Bool) → (a && false && b) ≡ false
    none true b = refl
    none false b = refl

    go : (r : Bool) → running 0 bs ≡ r → (not (lacks n bs) && r && one_day bs) ≡ (ltb n (length bs) && (r && one_day bs))
    go true e = ap (λ (c : Bool). not c && true && one_day bs) (lacks_running n bs e) ∙ there (ltb n (length bs)) (one_day bs)
    go false e = none (not (lacks n bs)) (one_day bs) ∙ sym (and-false (ltb n (length bs)))

-- at this place stands the page that is asked for, and the number of an open is what comes of that page
pub record Found (key stay : List ℕ) (n : ℕ) (f : List ℕ) (room place : ℕ) : Type 0 where
  pub inside : 512 * place + 512 ≤ length f
  pub page : part (512 * place) 512 f ≡ page_of stay n f
  pub fits : text_length (part (512 * place) 512 f) ≤ most_page_text
  pub number : page_open_number key (page_of stay n f) room ≡ open_number key stay n f room

module _ (key stay : List ℕ) (n : ℕ) (f : List ℕ) (room : ℕ) where
  pub no_key : ¬ (length key ≡ 32) → 1 ≡ open_number key stay n f room
  unfolding open_number
  no_key h = rw (ne_eqb (length key) 32 h)

  module _ (k : length key ≡ 32) where
    pub no_stay : ¬ (length stay ≡ 12) → 2 ≡ open_number key stay n f room
    unfolding open_number
    no_stay h = rw (eq-eqb (length key) 32 k, ne_eqb (length stay) 12 h)

    module _ (l : length stay ≡ 12) where
      pub not_whole : ¬ (length f % 512 ≡ 0) → 13 ≡ open_number key stay n f room
      unfolding open_number in_order
      not_whole h = rw (eq-eqb (length key) 32 k, eq-eqb (length stay) 12 l, ne_eqb (length f % 512) 0 h)

      module _ (w : length f % 512 ≡ 0) (s : Seen) (v : Surveyed stay n (pages f) s) where
        pub out_of_range : s.ranged ≡ false → 13 ≡ open_number key stay n f room
        unfolding open_number in_order
        out_of_range h = rw (eq-eqb (length key) 32 k, eq-eqb (length stay) 12 l, eq-eqb (length f % 512) 0 w, sym v.ranged ∙ h)

        module _ (r : s.ranged ≡ true) where
          -- the number by what is asked of the stay, in one test
          by_stay : {c : Bool} → (ltb n (length (of_stay stay (pages f))) && (s.running && s.dated)) ≡ c
              → refuse (not c) 14 (page_open_number key (page_of stay n f) room) ≡ open_number key stay n f room
          unfolding open_number in_order
          by_stay {c} e =
              let whole : stay_in_order n (of_stay stay (pages f)) ≡ c = in_order_is n (of_stay stay (pages f)) ∙ rw (← v.run, ← v.dated) e in
              rw (eq-eqb (length key) 32 k, eq-eqb (length stay) 12 l, eq-eqb (length f % 512) 0 w, sym v.ranged ∙ r, whole)

          pub disordered : (s.running && s.dated) ≡ false → 14 ≡ open_number key stay n f room
          disordered h = by_stay (ap (λ (c : Bool). ltb n (length (of_stay stay (pages f))) && c) h ∙ and-false _)

          pub no_place : s.place ≡ None → 14 ≡ open_number key stay n f room
          no_place e =
              let few : length (of_stay stay (pages f)) ≤ n = subst (IsPlace (pages f) (of_stay stay (pages f)) n) e v.placed in
              by_stay (ap (λ (c : Bool). c && (s.running && s.dated)) (le-ltb n (length (of_stay stay (pages f))) few))

          module _ (o : (s.running && s.dated) ≡ true) (j : ℕ) (e : s.place ≡ Some j) where
            there : (n < length (of_stay stay (pages f))) × (j < length (pages f)) × (get_or (pages f) j [] ≡ get_or (of_stay stay (pages f)) n [])
            there = subst (IsPlace (pages f) (of_stay stay (pages f)) n) e v.placed

            run : running 0 (of_stay stay (pages f)) ≡ true
            run = sym v.run ∙ and_left s.running s.dated o

            pages_long : length (pages f) ≡ length f / 512
            unfolding blocks
            pages_long = cut_long (length f / 512) f

            inside : 512 * j + 512 ≤ length f
            inside = omega (arith, pages_long, there.1)

            page_at : get_or (pages f) j [] ≡ part (512 * j) 512 f
            unfolding blocks
            page_at = cut_at (length f / 512) j f (omega (arith, inside))

            page_found : part (512 * j) 512 f ≡ page_of stay n f
            unfolding page_of
            page_found = sym page_at ∙ there.2 ∙ sym (named_running n (of_stay stay (pages f)) run there.0)

            fits : text_length (part (512 * j) 512 f) ≤ most_page_text
            unfolding in_range
            fits =
                let b = part (512 * j) 512 f in
                let e : in_range b ≡ true = ap in_range (sym page_at) ∙ every_in in_range (pages f) (sym v.ranged ∙ r) j there.1 in
                leb-true (text_length b) most_page_text (and_left (leb (text_length b) most_page_text) (leb (departure b) last_day) e)

            by_page : page_open_number key (page_of stay n f) room ≡ open_number key stay n f room
            by_page = by_stay {c = true} (rw (lt-ltb n (length (of_stay stay (pages f))) there.0) o)

            pub place_found : Found key stay n f room j
            place_found = record { inside = inside; page = page_found; fits = fits; number = by_page }
