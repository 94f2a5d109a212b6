-- Seal and open where the lengths are in order: seal gives the page's ciphertext and tag, and open gives the text of a ciphertext exactly where
-- the tag is the one that the definition gives.
use mathlib.Core.Path.{◌≡◌, refl, ◌∙◌}
use mathlib.Core.List.{List, ◌++◌}
use mathlib.Core.Bool.{Bool, true, false, not}
use Prim.Native.Nat.{ℕ, ◌≤◌}
use borrow.Author.Tests.{eq-eqb, le-ltb}
use lib.ListN.{length, drop}
use Rattle.scope.specs.Limits.{most_data, most_text}
use Rattle.scope.specs.Refusals.{refuse, bad_tag}
use Rattle.words.specs.Bytes.{same}
use Rattle.words.proofs.Tests.{same_refl, same_eq}
use Rattle.page.specs.Page.{cipher_of, tag_for, page_tag}
use Rattle.page.specs.Calls.{seal_number, seal_out, seal_tag, open_number, open_out}

same_other : (s t : List ℕ) → ¬ (s ≡ t) → same s t ≡ false
same_other s t h = go (same s t) refl
  where
    go : (b : Bool) → same s t ≡ b → same s t ≡ false
    go true e = absurd (h (same_eq s t e))
    go false e = e

module _ (key iv d : List ℕ) (key_long : length key ≡ 32) (iv_long : length iv ≡ 16) (ad_fits : length d ≤ most_data) where
  module _ (t out : List ℕ) (text_fits : length t ≤ most_text) (room : length t ≤ length out) where
    pub seal_accepted : seal_number key iv d t out ≡ 0
    unfolding seal_number
    seal_accepted =
        rw (
          eq-eqb (length key) 32 key_long,
          eq-eqb (length iv) 16 iv_long,
          le-ltb most_data (length d) ad_fits,
          le-ltb most_text (length t) text_fits,
          le-ltb (length out) (length t) room,
        )

    pub seal_writes : seal_out key iv d t out ≡ cipher_of key iv t ++ drop (length t) out
    unfolding seal_out
    seal_writes = rw seal_accepted

    pub seal_gives : seal_tag key iv d t out ≡ page_tag key iv d t
    unfolding seal_tag
    seal_gives = rw seal_accepted

  module _ (c tag out : List ℕ) (tag_long : length tag ≡ 16) (cipher_fits : length c ≤ most_text) (room : length c ≤ length out) where
    pub open_by_tag : open_number key iv d c tag out ≡ refuse (not (same tag (tag_for key iv d c))) bad_tag 0
    unfolding open_number
    open_by_tag =
        rw (
          eq-eqb (length key) 32 key_long,
          eq-eqb (length iv) 16 iv_long,
          eq-eqb (length tag) 16 tag_long,
          le-ltb most_data (length d) ad_fits,
          le-ltb most_text (length c) cipher_fits,
          le-ltb (length out) (length c) room,
        )

    pub open_accepted : tag ≡ tag_for key iv d c → open_number key iv d c tag out ≡ 0
    open_accepted e = open_by_tag ∙ rw (← e, same_refl tag)

    pub open_refused : ¬ (tag ≡ tag_for key iv d c) → open_number key iv d c tag out ≡ bad_tag
    open_refused h = open_by_tag ∙ rw (same_other tag (tag_for key iv d c) h)

    pub open_writes : tag ≡ tag_for key iv d c → open_out key iv d c tag out ≡ cipher_of key iv c ++ drop (length c) out
    unfolding open_out
    open_writes e = rw (open_accepted e)

    pub open_keeps : ¬ (tag ≡ tag_for key iv d c) → open_out key iv d c tag out ≡ out
    unfolding open_out
    open_keeps h = rw (open_refused h)
