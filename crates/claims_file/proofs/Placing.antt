-- The file after an accepted seal: its pages are those before the place, the sealed page and those behind, so that for its own stay that page stands
-- between the stay's others, for another stay none does, and every other page is found by its stay and number as it was.
use mathlib.Core.Path.{◌≡◌, refl, sym, ap, ap₂, ◌∙◌}
use mathlib.Core.Bool.{Bool, true, false, ◌&&◌, true≢false}
use mathlib.Core.List.{List, [], ◌∷◌, ◌++◌, map}
use Prim.Native.Nat.{ℕ, ◌+◌, ◌*◌, ◌%◌, ◌^◌, ◌<◌}
use borrow.Author.Tests.{eq-eqb, eqb-true}
use lib.Dec.{eqb}
use lib.ListN.{length, drop}
use lib.Seq.{drop_at, drop-drop}
use Rattle.scope.specs.Refusals.{pick}
use Rattle.words.specs.Bytes.{same, part}
use Rattle.words.proofs.Tests.{and_right, same_refl, same_eq}
use Rattle.fields.specs.Fields.{every}
use Rattle.fields.specs.Blocks.{whole, replaced}
use Rattle.fields.proofs.Every.{every_append}
use Rattle.fields.proofs.Blocks.{cut_long, blocks_before, blocks_split, replaced_long, blocks_replaced}
use Rattle.page_file.specs.Layout.{stay_of, page_number, sealed_page}
use Rattle.page_file.specs.File.{pages, in_range, in_order, of_stay, named}
use Rattle.page_file.specs.Calls.{seal_number, seal_file, page_of}
use Rattle.page_file.proofs.Pages.{of_stay_append}
use Rattle.claims_file.specs.Claims.{Sealable, Place, before, behind}
use Rattle.claims_file.proofs.Accepting.{accepted}
use Rattle.claims_file.proofs.Reading.{stay_is, number_is, sealed_long, range_is}

-- ---- the stay of a page at the front

same_not : (s t : List ℕ) → ¬ (t ≡ s) → same s t ≡ false
same_not s t h = go (same s t) refl
  where
    go : (b : Bool) → same s t ≡ b → same s t ≡ false
    go true e = absurd (h (sym (same_eq s t e)))
    go false e = e

of_stay_own : (s b : List ℕ) (bs : List (List ℕ)) → stay_of b ≡ s → of_stay s (b ∷ bs) ≡ b ∷ of_stay s bs
unfolding of_stay
of_stay_own s b bs e = rw (ap (λ (x : List ℕ). same x s) e ∙ same_refl s)

of_stay_other : (s b : List ℕ) (bs : List (List ℕ)) → ¬ (s ≡ stay_of b) → of_stay s (b ∷ bs) ≡ of_stay s bs
unfolding of_stay
of_stay_other s b bs h = rw (same_not (stay_of b) s h)

-- ---- a page named behind others

module _ (s : List ℕ) (m : ℕ) where
  -- a page that is not the one named is passed over
  skip : (b : List ℕ) (bs : List (List ℕ)) → ¬ ((s ≡ stay_of b) × (m ≡ page_number b)) → named m (of_stay s (b ∷ bs)) ≡ named m (of_stay s bs)
  unfolding of_stay named
  skip b bs h = go (same (stay_of b) s) refl (eqb (page_number b) m) refl
    where
      go : (c : Bool) → same (stay_of b) s ≡ c → (d : Bool) → eqb (page_number b) m ≡ d
          → named m (pick c (b ∷ of_stay s bs) (of_stay s bs)) ≡ named m (of_stay s bs)
      go false p d q = refl
      go true p false q = rw q
      go true p true q = absurd (h (sym (same_eq (stay_of b) s p), sym (eqb-true (page_number b) m q)))

  named_behind : (us xs ys : List (List ℕ)) → named m xs ≡ named m ys → named m (us ++ xs) ≡ named m (us ++ ys)
  unfolding named
  named_behind [] xs ys e = e
  named_behind (u ∷ us) xs ys e = ap (λ (b : List ℕ). pick (eqb (page_number u) m) u b) (named_behind us xs ys e)

-- ---- the file afterwards

module _ (key stay : List ℕ) (n day : ℕ) (t f : List ℕ) (i : ℕ) (e : seal_number key stay day t f i ≡ 0) where
  abbrev page : List ℕ
  page = sealed_page key stay n day t

  abbrev file : List ℕ
  file = seal_file key stay n day t f i

  -- the page that stood in the place
  abbrev old : List ℕ
  old = part (512 * i) 512 f

  pub sealable : Sealable key stay day t
  sealable = (accepted key stay day t f i e).0

  place : Place f i
  place = (accepted key stay day t f i e).1

  page_long : length page ≡ 512
  page_long = sealed_long key stay n day t sealable.stay_long sealable.text_fits

  file_is : file ≡ replaced i page f
  unfolding seal_file
  file_is = rw e

  pub file_long : length file ≡ length f
  file_long = ap length file_is ∙ replaced_long f i place.whole place.inside page page_long

  pub pages_after : pages file ≡ before i f ++ page ∷ behind i f
  pages_after = ap pages file_is ∙ blocks_replaced f i place.whole place.inside page page_long

  -- and behind the place nothing changes
  pub behind_after : behind i file ≡ behind i f
  behind_after =
      let l : length (before i f) ≡ i = ap length (blocks_before f i place.whole place.inside) ∙ cut_long i f in
      ap (drop (i + 1)) pages_after
      ∙ sym (drop-drop 1 i (before i f ++ page ∷ behind i f))
      ∙ ap (drop 1) (drop_at (before i f) (page ∷ behind i f) i l)

  pages_were : pages f ≡ before i f ++ old ∷ behind i f
  pages_were = blocks_split f i place.whole place.inside

  whole_after : whole file ≡ true
  whole_after = eq-eqb (length file % 512) 0 (ap (λ (k : ℕ). k % 512) file_long ∙ place.whole)

  pub order_after : in_order file ≡ (every (map in_range (before i f)) && every (map in_range (behind i f)))
  unfolding in_order every
  order_after =
      let r : in_range page ≡ true = range_is key stay n day t sealable.stay_long sealable.text_fits sealable.day_fits in
      ap₂ ◌&&◌ whole_after (ap (λ (bs : List (List ℕ)). every (map in_range bs)) pages_after)
      ∙ every_append in_range (before i f) (page ∷ behind i f)
      ∙ ap (λ (c : Bool). every (map in_range (before i f)) && (c && every (map in_range (behind i f)))) r

  pub own_after : of_stay stay (pages file) ≡ of_stay stay (before i f) ++ page ∷ of_stay stay (behind i f)
  own_after =
      ap (of_stay stay) pages_after
      ∙ of_stay_append stay (before i f) (page ∷ behind i f)
      ∙ ap (λ (bs : List (List ℕ)). of_stay stay (before i f) ++ bs) (of_stay_own stay page (behind i f) (stay_is key stay n day t sealable.stay_long))

  -- of a stay that neither the page nor the one in its place was of
  pub others_after : (s : List ℕ) → ¬ (s ≡ stay) → ¬ (s ≡ stay_of old) → of_stay s (pages file) ≡ of_stay s (pages f)
  others_after s h k =
      let p : stay_of page ≡ stay = stay_is key stay n day t sealable.stay_long in
      ap (of_stay s) pages_after
      ∙ of_stay_append s (before i f) (page ∷ behind i f)
      ∙ ap (λ (bs : List (List ℕ)). of_stay s (before i f) ++ bs)
      (of_stay_other s page (behind i f) (λ q. h (q ∙ p)) ∙ sym (of_stay_other s old (behind i f) k))
      ∙ sym (ap (of_stay s) pages_were ∙ of_stay_append s (before i f) (old ∷ behind i f))

  -- a page that is neither the one sealed nor the one that stood in its place
  pub same_page : n < 2 ^ 32 → (s : List ℕ) (m : ℕ) → ¬ ((s ≡ stay) × (m ≡ n)) → ¬ ((s ≡ stay_of old) × (m ≡ page_number old))
      → page_of s m file ≡ page_of s m f
  unfolding page_of
  same_page small s m h k =
      let p : stay_of page ≡ stay = stay_is key stay n day t sealable.stay_long in
      let q : page_number page ≡ n = number_is key stay n day t sealable.stay_long small in
      let us : List (List ℕ) = of_stay s (before i f) in
      ap (named m) (ap (of_stay s) pages_after ∙ of_stay_append s (before i f) (page ∷ behind i f))
      ∙ named_behind s m us (of_stay s (page ∷ behind i f)) (of_stay s (old ∷ behind i f))
      (skip s m page (behind i f) (λ x. h (x.0 ∙ p, x.1 ∙ q)) ∙ sym (skip s m old (behind i f) k))
      ∙ sym (ap (named m) (ap (of_stay s) pages_were ∙ of_stay_append s (before i f) (old ∷ behind i f)))

  -- a file in order stays so
  pub order_kept : in_order f ≡ true → in_order file ≡ true
  unfolding in_order every
  order_kept o =
      let p : Bool = every (map in_range (before i f)) in
      let q : Bool = every (map in_range (behind i f)) in
      let w : every (map in_range (pages f)) ≡ (p && (in_range old && q)) =
      ap (λ (bs : List (List ℕ)). every (map in_range bs)) pages_were ∙ every_append in_range (before i f) (old ∷ behind i f) in
      order_after ∙ middle p (in_range old) q (sym w ∙ and_right (whole f) (every (map in_range (pages f))) o)
    where
      middle : (a b c : Bool) → (a && (b && c)) ≡ true → (a && c) ≡ true
      middle true true c h = h
      middle true false c h = absurd (true≢false (sym h))
      middle false b c h = h
