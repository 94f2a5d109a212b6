-- What an open of a page that is found answers and finds: by the room for its text, then by its tag, then by its padding.
use mathlib.Core.Path.{◌≡◌, refl, sym, ap, ap₂, ◌∙◌}
use mathlib.Core.Bool.{Bool, true, false, not}
use mathlib.Core.List.{List, ◌++◌, append-nil}
use Prim.Native.Nat.{ℕ, ◌-◌, ◌≤◌, ◌<◌}
use native.Mathlib.Omega.{arith}
use borrow.Author.Tests.{lt-ltb, le-ltb}
use lib.ListN.{length, drop, replicate, length-drop, length-replicate}
use lib.Seq.{take_all}
use Rattle.scope.specs.Limits.{most_page_text}
use Rattle.scope.specs.Refusals.{refuse}
use Rattle.words.specs.Bytes.{same, part}
use Rattle.words.proofs.Parts.{part_long}
use Rattle.words.proofs.Tests.{same_eq}
use Rattle.fields.specs.Fields.{all_zero}
use Rattle.page.specs.Page.{tag_for}
use Rattle.page.specs.Calls as whole
use Rattle.page.proofs.Answers.{open_by_tag, open_writes}
use Rattle.page.proofs.Ciphertext.{cipher_length}
use Rattle.page_file.specs.Layout.{text_length, cipher_in, tag_in, iv_of, ad_of}
use Rattle.page_file.specs.Calls.{content, page_open_number}

-- the number of an open by its tag, whatever comes later in the order
tag_first : (s : Bool) (later : ℕ) {n : ℕ} → n ≡ refuse (not s) 5 0 → ¬ (n ≡ 0) → n ≡ refuse (not s) 5 later
tag_first true later e h = absurd (h e)
tag_first false later e h = e

tag_holds : (s : Bool) {n : ℕ} → n ≡ refuse (not s) 5 0 → n ≡ 0 → s ≡ true
tag_holds true e h = refl
tag_holds false e h = absurd (omega arith)

module _ (key b : List ℕ) (room : ℕ) (k : length key ≡ 32) (l : length b ≡ 512) where
  pub no_room : room < text_length b → 4 ≡ page_open_number key b room
  unfolding page_open_number
  no_room h = rw (lt-ltb room (text_length b) h)

  right : Bool
  right = same (tag_in b) (tag_for key (iv_of b) (ad_of b) (cipher_in b))

  by_tag : whole.open_number key (iv_of b) (ad_of b) (cipher_in b) (tag_in b) (replicate 474 0) ≡ refuse (not right) 5 0
  unfolding right
  by_tag =
      open_by_tag key (iv_of b) (ad_of b) k (part_long b 0 16 (omega arith)) (let e = part_long b 0 22 (omega arith) in omega arith)
      (cipher_in b) (tag_in b) (replicate 474 0) (part_long b 496 16 (omega arith)) (let e = part_long b 22 474 (omega arith) in omega arith)
      (let e = part_long b 22 474 (omega arith) in omega (arith, length-replicate {A = ℕ} 474 0))

  module _ (h : text_length b ≤ room) {n : ℕ} (e : n ≡ whole.open_number key (iv_of b) (ad_of b) (cipher_in b) (tag_in b) (replicate 474 0)) where
    pub bad_tag_found : ¬ (n ≡ 0) → n ≡ page_open_number key b room
    unfolding page_open_number right
    bad_tag_found z = rw (le-ltb room (text_length b) h) (tag_first right _ (e ∙ by_tag) z)

    module _ (z : n ≡ 0) where
      tag_is : right ≡ true
      tag_is = tag_holds right (e ∙ by_tag) z

      -- what an accepted open writes into zeros
      pub content_read : {text : List ℕ} → text ≡ whole.open_out key (iv_of b) (ad_of b) (cipher_in b) (tag_in b) (replicate 474 0) → text ≡ content key b
      unfolding right
      content_read t =
          t
          ∙ open_writes key (iv_of b) (ad_of b) k (part_long b 0 16 (omega arith)) (let e = part_long b 0 22 (omega arith) in omega arith)
          (cipher_in b) (tag_in b) (replicate 474 0) (part_long b 496 16 (omega arith)) (let e = part_long b 22 474 (omega arith) in omega arith)
          (let e = part_long b 22 474 (omega arith) in omega (arith, length-replicate {A = ℕ} 474 0)) (same_eq _ _ tag_is)
          ∙ ap (λ (m : ℕ). content key b ++ drop m (replicate 474 0)) (part_long b 22 474 (omega arith))
          ∙ append-nil (content key b)

      content_long : length (content key b) ≡ 474
      content_long = cipher_length key (iv_of b) (cipher_in b) ∙ part_long b 22 474 (omega arith)

      padding_is : {text : List ℕ} {len : ℕ} → text ≡ content key b → len ≡ text_length b → text_length b ≤ most_page_text → all_zero (part len (474 - len) text) ≡ all_zero (drop (text_length b) (content key b))
      padding_is t g m =
          ap₂ (λ (x : List ℕ) (j : ℕ). all_zero (part j (474 - j) x)) t g
          ∙ ap all_zero (take_all (474 - text_length b) (drop (text_length b) (content key b)) (omega (arith, length-drop (text_length b) (content key b), content_long)))

      pub bad_padding : {text : List ℕ} {len : ℕ} → text ≡ content key b → len ≡ text_length b → text_length b ≤ most_page_text → all_zero (part len (474 - len) text) ≡ false → 13 ≡ page_open_number key b room
      unfolding page_open_number right
      bad_padding t g m p = rw (le-ltb room (text_length b) h, tag_is, sym (padding_is t g m) ∙ p)

      pub page_opened : {text : List ℕ} {len : ℕ} → text ≡ content key b → len ≡ text_length b → text_length b ≤ most_page_text → all_zero (part len (474 - len) text) ≡ true → 0 ≡ page_open_number key b room
      unfolding page_open_number right
      page_opened t g m p = rw (le-ltb room (text_length b) h, tag_is, sym (padding_is t g m) ∙ p)
