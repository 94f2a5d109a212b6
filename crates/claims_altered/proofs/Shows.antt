-- Two pages that differ in one block have tags that differ; open compares tags, so it refuses the one under the other's; and a byte of the text is a byte of the
-- ciphertext, which stands in one block.
use mathlib.Core.Path.{◌≡◌, refl, sym, ap, ap₂, subst, ◌∙◌}
use mathlib.Core.List.{List, [], ◌++◌, append-nil}
use Prim.Native.Nat.{ℕ, ◌/◌, ◌%◌, ◌≤◌}
use lib.Dec.{lit<}
use lib.ListN.{length}
use Rattle.words.specs.Bytes.{IsBlock}
use Rattle.ghash.specs.Hash.{padded, ghash}
use Rattle.ghash.proofs.Padding.{padded_none}
use Rattle.start.specs.Start.{sealed_keystream}
use Rattle.page.specs.Page.{cipher_of, tag_for}
use Rattle.page.proofs.Ciphertext.{cipher_lengths, encrypted_below}
use Rattle.page.proofs.Tags.{tag_block}
use Rattle.claims.specs.Lists.{Bytes}
use Rattle.claims.specs.Claims.{Keyed, InOrder, OpenRefused, sealed_tag}
use Rattle.claims.proofs.Within.{row_of}
use Rattle.claims.proofs.Opening.{opens, sealed_long, tag_again}
use Rattle.claims_altered.specs.Claims.{SealedPage, SameLengths, OneBlock, OneBlock.in_data, OneBlock.in_cipher, HNotZero, tag_under, OneByte, Moves, SealGave, OneBlockShows}
use Rattle.claims_altered.proofs.Segments.{within_block, byte_block, just_one_kept}
use Rattle.claims_altered.proofs.Tags.{hash_apart, tags_data, tags_cipher}
use Rattle.claims_altered.proofs.SomeH.{some_h}

whole : (s : List ℕ) → length s % 16 ≡ 0 → padded s ++ [] ≡ s
whole s e = append-nil (padded s) ∙ padded_none s e

module _ (key iv : Bytes) (l : Keyed key iv) where
  tag_bytes : (p : SealedPage) → IsBlock (tag_under key iv p)
  tag_bytes p = tag_block key.list iv.list p.ad.list p.cipher.list (row_of key l.key_long) (row_of iv l.iv_long)

  abbrev cipher_bytes : Bytes → Bytes
  cipher_bytes t =
      record {
        list = cipher_of key.list iv.list t.list;
        below = encrypted_below key.list iv.list (row_of key l.key_long) (row_of iv l.iv_long) 0 t.list t.below;
      }

  tags : HNotZero key iv → (p q : SealedPage) → SameLengths p q → OneBlock p q → ¬ (tag_under key iv p ≡ tag_under key iv q)
  tags nz p q s (in_data i o c) e =
      tags_data key.list iv.list (row_of key l.key_long) (row_of iv l.iv_long) nz p.ad.list q.ad.list p.cipher.list i p.ad.below
      q.ad.below p.cipher.below s.ad_lengths o (e ∙ ap (tag_for key.list iv.list q.ad.list) (sym c))
  tags nz p q s (in_cipher i d o) e =
      tags_cipher key.list iv.list (row_of key l.key_long) (row_of iv l.iv_long) nz p.ad.list p.cipher.list q.cipher.list i p.ad.below
      p.cipher.below q.cipher.below s.cipher_lengths o (e ∙ ap (λ (a : List ℕ). tag_for key.list iv.list a q.cipher.list) (sym d))

  byte : HNotZero key iv → (ad : Bytes) (i : ℕ) (text text' : Bytes) → OneByte i text text' → Moves key iv ad i text text'
  byte nz ad i t t' o =
      let c : Bytes = cipher_bytes t in
      let c' : Bytes = cipher_bytes t' in
      let long : length c.list ≡ length c'.list = cipher_lengths key.list iv.list t.list t'.list o.lengths in
      let moved = just_one_kept key.list iv.list 1 i t.list t'.list o.lengths o.differ in
      record {
        cipher_lengths = long;
        cipher = moved;
        tag = tags nz (record { ad = ad; cipher = c }) (record { ad = ad; cipher = c' }) (record { ad_lengths = refl; cipher_lengths = long })
            (in_cipher (i / 16) refl (byte_block i c.list c'.list long moved));
      }

-- under the tag of another page than this
refused_under : (key iv : Bytes) (p q : SealedPage) (into : Bytes) → InOrder key iv q.ad q.cipher into → (tag : List ℕ) → tag ≡ tag_under key iv p
    → ¬ (tag ≡ tag_under key iv q) → OpenRefused key iv q.ad q.cipher.list tag into
refused_under key iv p q into l tag e h =
    let t : IsBlock tag = subst IsBlock (sym e) (tag_bytes key iv l.keyed p) in
    (opens key iv q.ad q.cipher (record { list = tag; below = t.below }) into l t.long).refuses h

-- what is lent to open for the altered page is in order where what was lent to seal was
altered_in_order : (key iv ad text out : Bytes) → InOrder key iv ad text out → (p q : SealedPage) → SealGave key iv ad text out p → SameLengths p q → (into : Bytes)
    → length q.cipher.list ≤ length into.list → InOrder key iv q.ad q.cipher into
altered_in_order key iv ad text out l p q z s into room =
    let d : length q.ad.list ≡ length ad.list = sym s.ad_lengths ∙ ap length z.ad_is in
    let c : length q.cipher.list ≡ length text.list = sym s.cipher_lengths ∙ ap length z.cipher_is ∙ sealed_long key iv ad text out l in
    record { keyed = l.keyed; ad_fits = rw d l.ad_fits; text_fits = rw c l.text_fits; room = room }

seal_gave : (key iv ad text out : Bytes) → InOrder key iv ad text out → (p : SealedPage) → SealGave key iv ad text out p
    → sealed_tag key iv ad text out ≡ tag_under key iv p
seal_gave key iv ad text out l p z = tag_again key iv ad text out l ∙ sym (ap₂ (tag_for key.list iv.list) z.ad_is z.cipher_is)

pub one_block_shows : OneBlockShows
one_block_shows =
    record {
      tags = λ key iv l nz p q s o. tags key iv l nz p q s o;
      byte = λ key iv l nz ad i text text' o. byte key iv l nz ad i text text' o;
      refuses = λ key iv nz p q s o into l. refused_under key iv p q into l _ refl (tags key iv l.keyed nz p q s o);
      refuses_sealed = λ key iv ad text out l nz p q z s o into room.
          let e = seal_gave key iv ad text out l p z in
          refused_under key iv p q into (altered_in_order key iv ad text out l p q z s into room) _ e (λ f. tags key iv l.keyed nz p q s o (sym e ∙ f));
      hashes = λ h s t k nz l w i o e.
          hash_apart [] s.list t.list [] i refl l o h.list (row_of h k) nz (λ j. lit< tt) s.below t.below (λ j. lit< tt) refl
          (ap (ghash h.list) (whole s.list w) ∙ e ∙ ap (ghash h.list) (sym (whole t.list (rw (sym l) w))));
      within_block = λ i front x x' behind from to l n. within_block i front x x' behind from to l n;
      some_h = λ key iv k v e. some_h (ap₂ (λ (a b : List ℕ). sealed_keystream a b 0) (sym k) (sym v) ∙ e);
    }
