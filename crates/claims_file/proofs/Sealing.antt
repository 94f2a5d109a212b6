-- What was sealed into a place opens: for its stay the page stands between the stay's others, so that the stay is in order exactly where those leave room
-- for it, and then the page of its number is the one that was sealed.
use mathlib.Core.Path.{◌≡◌, refl, sym, ap, ap₂, ◌∙◌}
use mathlib.Core.Bool.{Bool, true, false, not, ◌&&◌, and_assoc, and-false}
use mathlib.Core.List.{List, [], ◌∷◌, ◌++◌}
use Prim.Native.Nat.{ℕ, ◌+◌, ◌^◌, ◌<◌}
use native.Mathlib.Omega.{arith}
use borrow.Author.Tests.{eqb-true, eqb-false, eq-eqb, ne_eqb}
use lib.Dec.{eqb}
use lib.ListN.{length, length-append}
use lib.Seq.{get_or_at}
use Rattle.words.proofs.Tests.{and_left}
use Rattle.fields.specs.Fields.{every}
use Rattle.fields.proofs.Every.{every_append}
use Rattle.page_file.specs.Layout.{page_number, departure, sealed_page}
use Rattle.page_file.specs.File.{of_stay, lacks, running, all_on, one_day, stay_in_order, named}
use Rattle.page_file.specs.Calls.{seal_number, seal_file, page_of}
use Rattle.page_file.proofs.Pages.{running_append, one_day_at, named_running, in_order_holds}
use Rattle.claims_file.specs.Claims.{before, behind, stay_fits, Seals}
use Rattle.claims_file.proofs.Reading.{number_is, departure_is}
use Rattle.claims_file.proofs.Opening.{page_opens}
use Rattle.claims_file.proofs.Placing.{sealable, file_long, pages_after, same_page, order_after, own_after}

-- ---- a page of number n between others of its stay

module _ (n : ℕ) (us : List (List ℕ)) (b : List ℕ) (vs : List (List ℕ)) (num : page_number b ≡ n) where
  lacks_not : lacks n (us ++ b ∷ vs) ≡ false
  unfolding lacks every
  lacks_not =
      every_append (λ (c : List ℕ). not (eqb (page_number c) n)) us (b ∷ vs) ∙ rw (eq-eqb (page_number b) n num) (and-false (lacks n us))

  running_with : running 0 (us ++ b ∷ vs) ≡ (eqb (length us) n && running 0 us && running (n + 1) vs)
  unfolding running
  running_with = running_append 0 us (b ∷ vs) ∙ go (eqb (length us) n) refl
    where
      go : (c : Bool) → eqb (length us) n ≡ c → (running 0 us && running (0 + length us) (b ∷ vs)) ≡ (eqb (length us) n && running 0 us && running (n + 1) vs)
      go true e =
          let q : 0 + length us ≡ n = omega (arith, eqb-true (length us) n e) in
          rw (e, q, eq-eqb (page_number b) n num)
      go false e =
          let q = ne_eqb (page_number b) (0 + length us) (λ h. eqb-false (length us) n e (omega arith)) in
          rw (e, q) (and-false (running 0 us))

  in_order_with : (day : ℕ) → departure b ≡ day → stay_in_order n (us ++ b ∷ vs) ≡ stay_fits n day us vs
  unfolding stay_in_order stay_fits
  in_order_with day d =
      ap (λ (c : Bool). not c && running 0 (us ++ b ∷ vs) && one_day (us ++ b ∷ vs)) lacks_not
      ∙ ap₂ ◌&&◌ running_with (one_day_at us b vs ∙ ap (λ (x : ℕ). all_on x us && all_on x vs) d)
      ∙ sym (and_assoc (eqb (length us) n && running 0 us && running (n + 1) vs) (all_on day us) (all_on day vs))

  named_with : stay_in_order n (us ++ b ∷ vs) ≡ true → named n (us ++ b ∷ vs) ≡ b
  named_with u =
      let r = (in_order_holds n (us ++ b ∷ vs) u).1 in
      let s = sym running_with ∙ r in
      let l : length us ≡ n =
      eqb-true (length us) n (and_left (eqb (length us) n) (running 0 us) (and_left (eqb (length us) n && running 0 us) (running (n + 1) vs) s)) in
      named_running n (us ++ b ∷ vs) r (omega (arith, length-append us (b ∷ vs))) ∙ get_or_at us b vs [] n l

-- ---- the claim

pub sealed_opens : (key stay : List ℕ) (n day : ℕ) (t f : List ℕ) (i : ℕ) → n < 2 ^ 32 → seal_number key stay day t f i ≡ 0 → Seals key stay n day t f i
unfolding page_of
sealed_opens key stay n day t f i h e =
    let b : List ℕ = sealed_page key stay n day t in
    let us : List (List ℕ) = of_stay stay (before i f) in
    let vs : List (List ℕ) = of_stay stay (behind i f) in
    let a = sealable key stay n day t f i e in
    let own = own_after key stay n day t f i e in
    let num : page_number b ≡ n = number_is key stay n day t a.stay_long h in
    let dep : departure b ≡ day = departure_is key stay n day t a.stay_long a.day_fits in
    record {
      long = file_long key stay n day t f i e;
      pages_after = pages_after key stay n day t f i e;
      same_page = same_page key stay n day t f i e h;
      order = order_after key stay n day t f i e;
      stay_order = ap (stay_in_order n) own ∙ in_order_with n us b vs num day dep;
      opens = λ o u.
          page_opens key stay n day t a (seal_file key stay n day t f i)
          (ap (named n) own ∙ named_with n us b vs num (sym (ap (stay_in_order n) own) ∙ u)) o u;
    }
