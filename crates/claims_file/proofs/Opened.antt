-- What opens is what sealing its text gives: a page of bytes is its fields, its ciphertext and its tag, numbers and their bytes determine each other, and
-- text and ciphertext do too.
use mathlib.Core.Path.{◌≡◌, refl, sym, ap, ap₂, subst, ◌∙◌}
use mathlib.Core.Bool.{Bool, true, false, not, ◌&&◌, true≢false}
use mathlib.Core.List.{List, ◌∷◌, ◌++◌, map}
use Prim.Native.Nat.{ℕ, zero, suc, ◌+◌, ◌-◌, ◌*◌, ◌/◌, ◌%◌, ◌≤◌, ◌<◌}
use native.Mathlib.Omega.{arith}
use borrow.Author.Tests.{eqb-true, leb-true, not-false}
use lib.Dec.{eqb, leb, ltb, lit<, lit≤}
use lib.ListN.{length, get_or, take, drop, length-drop, take-append-drop}
use lib.Seq.{take_all, take-take, length-take-le}
use Rattle.scope.specs.Limits.{most_page_text, last_day}
use Rattle.scope.specs.Refusals.{refuse, pick, granted, key_length, iv_length, short_output, bad_tag, bad_file, bad_stay}
use Rattle.words.specs.Bytes.{Row, little, number, part, same}
use Rattle.words.proofs.Rows.{row_take, row_drop}
use Rattle.words.proofs.Bytes.{little_number}
use Rattle.words.proofs.Parts.{part_row, part_long, grow}
use Rattle.words.proofs.Tests.{and_left, and_right, same_eq}
use Rattle.fields.specs.Fields.{every, all_zero}
use Rattle.fields.specs.Blocks.{cut, blocks, whole}
use Rattle.fields.proofs.Zeros.{all_zero_zeros}
use Rattle.page.specs.Page.{cipher_of, tag_for, page_tag}
use Rattle.page.proofs.Ciphertext.{cipher_length, cipher_twice}
use Rattle.scope.proofs.Refusing.{refuse_none}
use Rattle.page_file.specs.Layout.{stay_of, page_number, departure, text_length, cipher_in, tag_in, iv_of, ad_of}
use Rattle.page_file.specs.Layout.{header, padded_text, sealed_under, sealed_page}
use Rattle.page_file.specs.File.{pages, in_range, in_order, of_stay, lacks, stay_in_order, named}
use Rattle.page_file.specs.Calls.{content, page_open_number, page_of, open_number, open_text, Opened.written, Opened.refused, open_answer}
use Rattle.page_file.proofs.Pages.{in_order_holds}

-- ---- the page that an open finds

record Found (s : List ℕ) (n : ℕ) (b : List ℕ) : Type 0 where
  row : Row 512 256 b
  its_stay : stay_of b ≡ s
  its_number : page_number b ≡ n
  range : in_range b ≡ true

module _ (s : List ℕ) (n : ℕ) where
  -- among the stay's pages of a longer list, a page in front of the others
  module _ (b : List ℕ) (bs : List (List ℕ)) (row : Row 512 256 b) (range : in_range b ≡ true) (more : lacks n bs ≡ false → Found s n (named n bs)) where
    found_number : stay_of b ≡ s → (d : Bool) → eqb (page_number b) n ≡ d → (not d && lacks n bs) ≡ false → Found s n (pick d b (named n bs))
    found_number e true g l = record { row = row; its_stay = e; its_number = eqb-true (page_number b) n g; range = range }
    found_number e false g l = more l

    found_next : (c : Bool) → same (stay_of b) s ≡ c → lacks n (pick c (b ∷ bs) bs) ≡ false → Found s n (named n (pick c (b ∷ bs) bs))
    unfolding lacks every named
    found_next true e l = found_number (same_eq (stay_of b) s e) (eqb (page_number b) n) refl l
    found_next false e l = more l

  found : (m : ℕ) (f : List ℕ) → Row (512 * m) 256 f → every (map in_range (cut m f)) ≡ true → lacks n (of_stay s (cut m f)) ≡ false
      → Found s n (named n (of_stay s (cut m f)))
  unfolding cut every of_stay lacks
  found zero f r o l = absurd (true≢false l)
  found (suc m) f r o l =
      let b : List ℕ = take 512 f in
      let fs : List (List ℕ) = cut m (drop 512 f) in
      let e : 512 * suc m - 512 ≡ 512 * m = omega arith in
      let rest : Row (512 * m) 256 (drop 512 f) = subst (λ (k : ℕ). Row k 256 (drop 512 f)) e (row_drop 256 (512 * suc m) r 512) in
      found_next b (of_stay s fs) (row_take 256 (512 * suc m) r 512 (lit< tt) (omega arith)) (and_left (in_range b) (every (map in_range fs)) o)
      (λ k. found m (drop 512 f) rest (and_right (in_range b) (every (map in_range fs)) o) k)
      (same (stay_of b) s) refl l

-- ---- it is the sealed page of its text

module _ (key s : List ℕ) (n : ℕ) (b : List ℕ) (p : Found s n b) (room : ℕ) (accepted : page_open_number key b room ≡ 0) where
  abbrev text : List ℕ
  text = take (text_length b) (content key b)

  short : Bool
  short = ltb room (text_length b)

  wrong : Bool
  wrong = not (same (tag_in b) (tag_for key (iv_of b) (ad_of b) (cipher_in b)))

  unpadded : Bool
  unpadded = not (all_zero (drop (text_length b) (content key b)))

  tests : (wrong ≡ false) × (unpadded ≡ false)
  unfolding page_open_number short wrong unpadded
  tests =
      let c = refuse_none short short_output (refuse wrong bad_tag (refuse unpadded bad_file 0)) (lit< tt) accepted in
      let d = refuse_none wrong bad_tag (refuse unpadded bad_file 0) (lit< tt) c.1 in
      (d.0, (refuse_none unpadded bad_file 0 (lit< tt) d.1).0)

  tag_right : tag_in b ≡ tag_for key (iv_of b) (ad_of b) (cipher_in b)
  unfolding wrong
  tag_right =
      let w : List ℕ = tag_for key (iv_of b) (ad_of b) (cipher_in b) in
      same_eq (tag_in b) w (not-false (same (tag_in b) w) tests.0)

  padding_zero : all_zero (drop (text_length b) (content key b)) ≡ true
  unfolding unpadded
  padding_zero = not-false (all_zero (drop (text_length b) (content key b))) tests.1

  long : length b ≡ 512
  long = p.row.long

  fits : text_length b ≤ 474
  unfolding in_range
  fits = leb-true (text_length b) 474 (and_left (leb (text_length b) most_page_text) (leb (departure b) last_day) p.range)

  content_long : length (content key b) ≡ 474
  content_long = cipher_length key (iv_of b) (cipher_in b) ∙ part_long b 22 474 (omega (arith, long))

  text_long : length text ≡ text_length b
  text_long = length-take-le (text_length b) (content key b) (omega (arith, content_long, fits))

  -- a field's number and its bytes
  field : (at k : ℕ) → at + k ≤ 512 → little k (number (part at k b)) ≡ part at k b
  field at k h = little_number k (part at k b) (part_row 256 512 (lit< tt) p.row at k h)

  head_is : header s n (departure b) (length text) ≡ ad_of b
  unfolding header page_number departure text_length
  head_is =
      let e : little 4 n ≡ part 12 4 b = ap (little 4) (sym p.its_number) ∙ field 12 4 (lit≤ tt) in
      grow b 20 2 (grow b 16 4 (grow b 12 4 (sym p.its_stay) e) (field 16 4 (lit≤ tt))) (ap (little 2) text_long ∙ field 20 2 (lit≤ tt))

  padded_is : padded_text text ≡ content key b
  unfolding padded_text
  padded_is =
      let l : ℕ = text_length b in
      ap (λ (zs : List ℕ). text ++ zs)
      (all_zero_zeros (474 - length text) (drop l (content key b)) (omega (arith, length-drop l (content key b), content_long, text_long)) padding_zero)
      ∙ take-append-drop l (content key b)

  page_is : b ≡ sealed_page key s n (departure b) text
  unfolding sealed_page sealed_under
  page_is =
      let c : List ℕ = padded_text text in
      sym
      (ap (λ (h : List ℕ). h ++ cipher_of key (iv_of h) c ++ page_tag key (iv_of h) (ad_of h) c) head_is
      ∙ ap₂ (λ (v d : List ℕ). ad_of b ++ cipher_of key v c ++ page_tag key v d c) (take-take 16 22 b (lit≤ tt)) (take-take 22 22 b (lit≤ tt))
      ∙ ap (λ (x : List ℕ). ad_of b ++ x ++ tag_for key (iv_of b) (ad_of b) x)
      (ap (cipher_of key (iv_of b)) padded_is ∙ cipher_twice key (iv_of b) (cipher_in b))
      ∙ ap (λ (x : List ℕ). ad_of b ++ cipher_in b ++ x) (sym tag_right)
      ∙ grow b 496 16 (grow b 22 474 refl refl) refl
      ∙ take_all 512 b (omega (arith, long)))

-- ---- the claim

-- an open that wrote was accepted
wrote : (x given len : ℕ) → granted x (written given) (refused x) ≡ written len → (x ≡ 0) × (len ≡ given)
wrote x given len e = go (eqb x 0) refl e
  where
    go : (c : Bool) → eqb x 0 ≡ c → pick c (written given) (refused x) ≡ written len → (x ≡ 0) × (len ≡ given)
    go true q w = (eqb-true x 0 q, cc)
    go false q w = (cc, cc)

module _ (key stay : List ℕ) (n : ℕ) (f : List ℕ) (room : ℕ) (bytes : (i : ℕ) → get_or f i 0 < 256) (e : open_number key stay n f room ≡ 0) where
  abbrev page : List ℕ
  page = page_of stay n f

  found_there : Found stay n page × (page_open_number key page room ≡ 0)
  unfolding open_number page_of blocks in_order
  found_there =
      let bs : List (List ℕ) = of_stay stay (pages f) in
      let k : Bool = not (eqb (length key) 32) in
      let v : Bool = not (eqb (length stay) 12) in
      let z : Bool = not (stay_in_order n bs) in
      let x : ℕ = page_open_number key (named n bs) room in
      let a = refuse_none k key_length (refuse v iv_length (refuse (not (in_order f)) bad_file (refuse z bad_stay x))) (lit< tt) e in
      let b = refuse_none v iv_length (refuse (not (in_order f)) bad_file (refuse z bad_stay x)) (lit< tt) a.1 in
      let c = refuse_none (not (in_order f)) bad_file (refuse z bad_stay x) (lit< tt) b.1 in
      let d = refuse_none z bad_stay x (lit< tt) c.1 in
      let o : in_order f ≡ true = not-false (in_order f) c.0 in
      let w : length f % 512 ≡ 0 = eqb-true (length f % 512) 0 (and_left (whole f) (every (map in_range (pages f))) o) in
      let row : Row (512 * (length f / 512)) 256 f = record { long = omega arith; below = bytes } in
      let there = (in_order_holds n bs (not-false (stay_in_order n bs) d.0)).0 in
      (found stay n (length f / 512) f row (and_right (whole f) (every (map in_range (pages f))) o) there, d.1)

  opened : (text_length page ≡ length (open_text key stay n f)) × (page ≡ sealed_page key stay n (departure page) (open_text key stay n f))
  unfolding open_text
  opened =
      let p = found_there in
      (sym (text_long key stay n page p.0 room p.1), page_is key stay n page p.0 room p.1)

pub opened_sealed : (key stay : List ℕ) (n : ℕ) (f : List ℕ) (room len : ℕ) → ((i : ℕ) → get_or f i 0 < 256) → open_answer key stay n f room ≡ written len
    → (len ≡ length (open_text key stay n f)) × (page_of stay n f ≡ sealed_page key stay n (departure (page_of stay n f)) (open_text key stay n f))
unfolding open_answer
opened_sealed key stay n f room len bytes e =
    let w = wrote (open_number key stay n f room) (text_length (page_of stay n f)) len e in
    let o = opened key stay n f room bytes w.0 in
    (w.1 ∙ o.0, o.1)
