-- Whole pages: the ciphertext that seal wrote is the page's, so the tag that open makes anew is the page's, and a second xor with the keystream
-- gives the text back.
use mathlib.Core.Path.{◌≡◌, sym, ap, ap₂, ◌∙◌}
use mathlib.Core.List.{List, ◌++◌}
use Prim.Native.Nat.{ℕ, ◌≤◌}
use lib.ListN.{length, take, drop}
use lib.Seq.{take_at}
use Rattle.scope.specs.Limits.{most_data, most_text}
use Rattle.page.specs.Page.{cipher_of, tag_for}
use Rattle.page.proofs.Ciphertext.{cipher_length, cipher_twice}
use Rattle.page.proofs.Tags.{tag_block}
use Rattle.page.proofs.Answers.{seal_accepted, seal_writes, seal_gives, open_accepted, open_refused, open_writes, open_keeps}
use Rattle.claims.specs.Lists.{Bytes}
use Rattle.claims.specs.Claims.{Keyed, InOrder, sealed_text, sealed_tag, SealedWhole, Opened, OpenRefused, TextOf, Opens}
use Rattle.claims.proofs.Within.{row_of}

-- ---- any ciphertext

module _ (key iv ad into : Bytes) (l : Keyed key iv) (ad_fits : length ad.list ≤ most_data) (c tag : List ℕ) (tag_long : length tag ≡ 16)
    (cipher-fits : length c ≤ most_text) (room : length c ≤ length into.list) where
  refused : ¬ (tag ≡ tag_for key.list iv.list ad.list c) → OpenRefused key iv ad c tag into
  refused h =
      record {
        number = open_refused key.list iv.list ad.list l.key_long l.iv_long ad_fits c tag into.list tag_long cipher-fits room h;
        unchanged = open_keeps key.list iv.list ad.list l.key_long l.iv_long ad_fits c tag into.list tag_long cipher-fits room h;
      }

  opened : (text : List ℕ) → tag ≡ tag_for key.list iv.list ad.list c → c ≡ cipher_of key.list iv.list text
      → Opened key iv ad c tag into text
  opened text e f =
      let n : length c ≡ length text = ap length f ∙ cipher_length key.list iv.list text in
      let m : cipher_of key.list iv.list c ≡ text = ap (cipher_of key.list iv.list) f ∙ cipher_twice key.list iv.list text in
      record {
        accepted = open_accepted key.list iv.list ad.list l.key_long l.iv_long ad_fits c tag into.list tag_long cipher-fits room e;
        output = open_writes key.list iv.list ad.list l.key_long l.iv_long ad_fits c tag into.list tag_long cipher-fits room e
            ∙ ap₂ (λ (x : List ℕ) (i : ℕ). x ++ drop i into.list) m n;
      }

-- a second xor with the keystream undoes the first, so that the text of a ciphertext is its ciphertext
text_of : (key iv : Bytes) (c : List ℕ) → TextOf key iv c (cipher_of key.list iv.list c)
text_of key iv c =
    record {
      encrypts = cipher_twice key.list iv.list c;
      only = λ t e. sym (cipher_twice key.list iv.list t) ∙ ap (cipher_of key.list iv.list) e;
    }

pub opens : (key iv ad cipher tag into : Bytes) → InOrder key iv ad cipher into → length tag.list ≡ 16 → Opens key iv ad cipher tag into
opens key iv ad cipher tag into o l =
    let c : List ℕ = cipher.list in
    let t : List ℕ = cipher_of key.list iv.list c in
    record {
      gives = λ e. (
        t,
        text_of key iv c,
        opened key iv ad into o.keyed o.ad_fits c tag.list l o.text_fits o.room t e (sym (cipher_twice key.list iv.list c)),
      );
      refuses = refused key iv ad into o.keyed o.ad_fits c tag.list l o.text_fits o.room;
    }

-- ---- a sealed page

module _ (key iv ad text out : Bytes) (o : InOrder key iv ad text out) where
  pub seals : SealedWhole key iv ad text out
  seals =
      let kl = o.keyed.key_long in
      let vl = o.keyed.iv_long in
      record {
        accepted = seal_accepted key.list iv.list ad.list kl vl o.ad_fits text.list out.list o.text_fits o.room;
        output = seal_writes key.list iv.list ad.list kl vl o.ad_fits text.list out.list o.text_fits o.room;
        tag = seal_gives key.list iv.list ad.list kl vl o.ad_fits text.list out.list o.text_fits o.room;
      }

  front : sealed_text key iv ad text out ≡ cipher_of key.list iv.list text.list
  front =
      ap (take (length text.list)) seals.output
      ∙ take_at (cipher_of key.list iv.list text.list) (drop (length text.list) out.list) (length text.list)
      (cipher_length key.list iv.list text.list)

  pub sealed_long : length (sealed_text key iv ad text out) ≡ length text.list
  sealed_long = ap length front ∙ cipher_length key.list iv.list text.list

  -- the tag that seal gave is the one that open makes of what seal wrote
  pub tag_again : sealed_tag key iv ad text out ≡ tag_for key.list iv.list ad.list (sealed_text key iv ad text out)
  tag_again = seals.tag ∙ ap (tag_for key.list iv.list ad.list) (sym front)

  pub tag_long : length (sealed_tag key iv ad text out) ≡ 16
  tag_long =
      ap length seals.tag
      ∙ (tag_block key.list iv.list ad.list (cipher_of key.list iv.list text.list)
      (row_of key o.keyed.key_long) (row_of iv o.keyed.iv_long)).long

  module _ (into : Bytes) (room : length text.list ≤ length into.list) where
    pub gives_back : Opened key iv ad (sealed_text key iv ad text out) (sealed_tag key iv ad text out) into text.list
    gives_back =
        opened key iv ad into o.keyed o.ad_fits (sealed_text key iv ad text out) (sealed_tag key iv ad text out) tag_long
        (rw sealed_long o.text_fits) (rw sealed_long room) text.list tag_again front

    pub no_other : (tag : Bytes) → length tag.list ≡ 16 → ¬ (tag.list ≡ sealed_tag key iv ad text out)
        → OpenRefused key iv ad (sealed_text key iv ad text out) tag.list into
    no_other tag l h =
        refused key iv ad into o.keyed o.ad_fits (sealed_text key iv ad text out) tag.list l (rw sealed_long o.text_fits) (rw sealed_long room)
        (λ e. h (e ∙ sym tag_again))
