-- What is read from a page that was sealed: it is its parts one behind the other, so that each field gives what was written, and the text's content comes
-- back since the keystream is xored twice.
use mathlib.Core.Path.{◌≡◌, sym, ap, ap₂, ◌∙◌}
use mathlib.Core.Bool.{true}
use mathlib.Core.List.{List, [], ◌∷◌, ◌++◌, append_assoc, append-nil}
use Prim.Native.Nat.{ℕ, ◌+◌, ◌-◌, ◌^◌, ◌≤◌, ◌<◌}
use native.Mathlib.Omega.{arith}
use borrow.Author.Tests.{le-leb}
use lib.Dec.{lit≤}
use lib.ListN.{length, replicate, length-append, length-replicate}
use lib.Seq.{take_all}
use Rattle.scope.specs.Limits.{most_page_text, last_day}
use Rattle.words.specs.Bytes.{little, number, part}
use Rattle.words.proofs.Bytes.{little_long, number_little}
use Rattle.words.proofs.Parts.{At, down, here, part_part}
use Rattle.page.specs.Page.{cipher_of, tag_for, page_tag}
use Rattle.page.proofs.Ciphertext.{cipher_length, cipher_twice}
use Rattle.page_file.specs.Layout.{stay_of, page_number, departure, text_length, cipher_in, tag_in, iv_of, ad_of}
use Rattle.page_file.specs.Layout.{header, padded_text, sealed_under, sealed_page}
use Rattle.page_file.specs.File.{in_range}
use Rattle.page_file.specs.Calls.{content}
use Rattle.page.proofs.TagLength.{tag_long}

-- ---- the page's parts

module _ (key stay : List ℕ) (n day : ℕ) (t : List ℕ) where
  abbrev page : List ℕ
  page = sealed_page key stay n day t

  abbrev head : List ℕ
  head = header stay n day (length t)

  abbrev cipher : List ℕ
  cipher = cipher_of key (iv_of head) (padded_text t)

  abbrev tag : List ℕ
  tag = page_tag key (iv_of head) (ad_of head) (padded_text t)

  from_head : At page 0 (head ∷ cipher ∷ tag ∷ [])
  unfolding sealed_page sealed_under
  from_head = record { is = append_assoc head cipher tag ∙ ap (λ (l : List ℕ). head ++ (cipher ++ l)) (sym (append-nil tag)) }

  head_fields : At head 0 (stay ∷ little 4 n ∷ little 4 day ∷ little 2 (length t) ∷ [])
  unfolding header
  head_fields = record { is = simp (append_assoc, append-nil) }

  head_from_iv : At head 0 ((stay ++ little 4 n) ∷ little 4 day ∷ little 2 (length t) ∷ [])
  unfolding header
  head_from_iv = record { is = simp (append_assoc, append-nil) }

  module _ (stay_long : length stay ≡ 12) where
    head_long : length head ≡ 22
    unfolding header
    head_long = simp (length-append, little_long, stay_long)

    ad_is : ad_of page ≡ head
    ad_is = here from_head 22 head_long

    -- a field of the page is one of its head
    in_head : (at k : ℕ) → at + k ≤ 22 → part at k page ≡ part at k head
    in_head at k h = ap (λ (i : ℕ). part i k page) (let e : at ≡ 0 + at = omega arith in e) ∙ sym (part_part page 0 22 at k h) ∙ ap (part at k) ad_is

    from_number : At head 12 (little 4 n ∷ little 4 day ∷ little 2 (length t) ∷ [])
    from_number = down head_fields 12 stay_long

    from_day : At head 16 (little 4 day ∷ little 2 (length t) ∷ [])
    from_day = down from_number 4 (little_long 4 n)

    from_length : At head 20 (little 2 (length t) ∷ [])
    from_length = down from_day 4 (little_long 4 day)

    pub stay_is : stay_of page ≡ stay
    stay_is = in_head 0 12 (lit≤ tt) ∙ here head_fields 12 stay_long

    pub number_is : n < 2 ^ 32 → page_number page ≡ n
    unfolding page_number
    number_is h = ap number (in_head 12 4 (lit≤ tt) ∙ here from_number 4 (little_long 4 n)) ∙ number_little 4 n h

    pub departure_is : day ≤ last_day → departure page ≡ day
    unfolding departure
    departure_is h = ap number (in_head 16 4 (lit≤ tt) ∙ here from_day 4 (little_long 4 day)) ∙ number_little 4 day (omega arith)

    pub iv_is : iv_of page ≡ stay ++ little 4 n
    iv_is = in_head 0 16 (lit≤ tt) ∙ here head_from_iv 16 (length-append stay (little 4 n) ∙ ap₂ ◌+◌ stay_long (little_long 4 n))

    module _ (text_fits : length t ≤ most_page_text) where
      padded_long : length (padded_text t) ≡ 474
      unfolding padded_text
      padded_long = length-append t (replicate (474 - length t) 0) ∙ omega (arith, length-replicate {A = ℕ} (474 - length t) 0)

      cipher_long : length cipher ≡ 474
      cipher_long = cipher_length key (iv_of head) (padded_text t) ∙ padded_long

      tag_16 : length tag ≡ 16
      tag_16 = tag_long key (iv_of head) (ad_of head) cipher

      from_cipher : At page 22 (cipher ∷ tag ∷ [])
      from_cipher = down from_head 22 head_long

      pub sealed_long : length page ≡ 512
      unfolding sealed_page sealed_under
      sealed_long =
          length-append (head ++ cipher) tag ∙ ap₂ ◌+◌ (length-append head cipher ∙ ap₂ ◌+◌ head_long cipher_long) tag_16

      pub length_is : text_length page ≡ length t
      unfolding text_length
      length_is = ap number (in_head 20 2 (lit≤ tt) ∙ here from_length 2 (little_long 2 (length t))) ∙ number_little 2 (length t) (omega arith)

      cipher_is : cipher_in page ≡ cipher
      cipher_is = here from_cipher 474 cipher_long

      -- the tag is the one that the page's own bytes give
      pub tag_is : tag_in page ≡ tag_for key (iv_of page) (ad_of page) (cipher_in page)
      tag_is =
          here (down from_cipher 474 cipher_long) 16 tag_16
          ∙ sym (ap₂ (tag_for key (iv_of head)) (ad_is ∙ sym (take_all 22 head (omega (arith, head_long)))) cipher_is)
          ∙ ap (λ (v : List ℕ). tag_for key v (ad_of page) (cipher_in page)) (sym (in_head 0 16 (lit≤ tt)))

      pub content_is : content key page ≡ padded_text t
      content_is = ap₂ (cipher_of key) (in_head 0 16 (lit≤ tt)) cipher_is ∙ cipher_twice key (iv_of head) (padded_text t)

      pub range_is : day ≤ last_day → in_range page ≡ true
      unfolding in_range
      range_is h = rw (length_is, departure_is h, le-leb (length t) most_page_text text_fits, le-leb day last_day h)
