-- Where a file and a stay in it are in order and the page named is one that was sealed, opening gives the text that was sealed into it.
use mathlib.Core.Path.{◌≡◌, refl, sym, ap, ap₂, ◌∙◌}
use mathlib.Core.Bool.{Bool, true, false}
use mathlib.Core.List.{List, ◌++◌}
use Prim.Native.Nat.{ℕ, ◌-◌}
use borrow.Author.Tests.{eq-eqb}
use lib.Dec.{ltb}
use lib.ListN.{length, take, drop, replicate}
use lib.Seq.{take_at, drop_at}
use Rattle.scope.specs.Refusals.{pick, refuse, granted, short_output}
use Rattle.words.specs.Bytes.{same}
use Rattle.words.proofs.Tests.{same_refl}
use Rattle.fields.specs.Fields.{all_zero}
use Rattle.fields.proofs.Zeros.{zeros_all_zero}
use Rattle.page.specs.Page.{tag_for}
use Rattle.page_file.specs.Layout.{text_length, cipher_in, tag_in, iv_of, ad_of, padded_text, sealed_page}
use Rattle.page_file.specs.File.{pages, in_order, of_stay, stay_in_order}
use Rattle.page_file.specs.Calls.{content, page_open_number, page_of, open_number, open_text, open_out, Opened.written, Opened.refused, open_answer}
use Rattle.claims_file.specs.Claims.{OpensTo, Sealable}
use Rattle.claims_file.proofs.Reading.{length_is, tag_is, content_is}

-- where the room is all that is tested
by_room : {A : Type 0} (short : Bool) (given : A) (kept : ℕ → A)
    → granted (refuse short short_output 0) given (kept (refuse short short_output 0)) ≡ pick short (kept short_output) given
by_room true given kept = refl
by_room false given kept = refl

module _ (key stay : List ℕ) (n day : ℕ) (t : List ℕ) (a : Sealable key stay day t) where
  abbrev page : List ℕ
  page = sealed_page key stay n day t

  text_read : text_length page ≡ length t
  text_read = length_is key stay n day t a.stay_long a.text_fits

  content_read : content key page ≡ padded_text t
  content_read = content_is key stay n day t a.stay_long a.text_fits

  tag_read : same (tag_in page) (tag_for key (iv_of page) (ad_of page) (cipher_in page)) ≡ true
  tag_read = ap (same (tag_in page)) (sym (tag_is key stay n day t a.stay_long a.text_fits)) ∙ same_refl (tag_in page)

  padding_read : all_zero (drop (text_length page) (content key page)) ≡ true
  unfolding padded_text
  padding_read =
      ap₂ (λ (k : ℕ) (s : List ℕ). all_zero (drop k s)) text_read content_read
      ∙ ap all_zero (drop_at t (replicate (474 - length t) 0) (length t) refl)
      ∙ zeros_all_zero (474 - length t)

  opened : (room : ℕ) → page_open_number key page room ≡ refuse (ltb room (length t)) short_output 0
  unfolding page_open_number
  opened room = rw (tag_read, padding_read, text_read)

  module _ (f : List ℕ) (found : page_of stay n f ≡ page) (order : in_order f ≡ true) (stay_order : stay_in_order n (of_stay stay (pages f)) ≡ true) where
    number : (room : ℕ) → open_number key stay n f room ≡ refuse (ltb room (length t)) short_output 0
    unfolding open_number
    number room = rw (eq-eqb (length key) 32 a.key_long, eq-eqb (length stay) 12 a.stay_long, order, stay_order, found) (opened room)

    text : open_text key stay n f ≡ t
    unfolding open_text padded_text
    text =
        ap (λ (b : List ℕ). take (text_length b) (content key b)) found
        ∙ ap₂ take text_read content_read
        ∙ take_at t (replicate (474 - length t) 0) (length t) refl

    pub page_opens : OpensTo key stay n f t
    unfolding open_answer open_out
    page_opens =
        record {
          answer = λ room. rw (number room, found, text_read) (by_room (ltb room (length t)) (written (length t)) refused);
          out = λ o. rw (number (length o), text, found, text_read) (by_room (ltb (length o) (length t)) (t ++ drop (length t) o) (λ x. o));
        }
