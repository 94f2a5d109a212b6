-- What the tests of presence say of a block, and the two blocks that calls write: each obeys the rules, and its mark, number, key and tag are read back.
use mathlib.Core.Path.{◌≡◌, refl, sym, ap, ◌∙◌}
use mathlib.Core.Bool.{true, false, not, true≢false}
use mathlib.Core.List.{List, []}
use Prim.Native.Nat.{ℕ}
use native.Mathlib.Omega.{arith}
use lib.Dec.{eqb, lit≤}
use borrow.Author.Tests.{eqb-true, not-true}
use lib.ListN.{length}
use Rattle.words.specs.Bytes.{same}
use Rattle.words.proofs.Tests.{and_left, and_right, same_refl, same_eq, refuted}
use Rattle.page.specs.Page.{cipher_of, page_tag}
use Rattle.page.proofs.Ciphertext.{cipher_length}
use Rattle.page.proofs.TagLength.{tag_long}
use Rattle.key_store.specs.Layout.{held, erased, mark_of, iv_of, sealed_in, tag_in, well_laid, Entry, read, held_block, erased_block, held_entry, erased_entry}
use Rattle.key_store.specs.Laws.{Fine}
use Rattle.key_store.specs.Store.{is_empty, present, holds, any}
use Rattle.key_store.proofs.Written.{block_laid, read_block}
use Rattle.claims_keys.proofs.First.{any_more, any_less}

-- ---- tests of a block

module _ (iv b : List ℕ) where
  pub present_iv : present iv b ≡ true → iv_of b ≡ iv
  present_iv e = same_eq (iv_of b) iv (and_right (not (is_empty b)) (same (iv_of b) iv) e)

  pub present_full : present iv b ≡ true → is_empty b ≡ false
  present_full e = not-true (is_empty b) (and_left (not (is_empty b)) (same (iv_of b) iv) e)

  pub holds_present : holds iv b ≡ true → present iv b ≡ true
  holds_present e =
      let m : mark_of b ≡ held = eqb-true (mark_of b) held (and_left (eqb (mark_of b) held) (same (iv_of b) iv) e) in
      rw m (and_right (eqb (mark_of b) held) (same (iv_of b) iv) e)

  pub unheld : present iv b ≡ false → holds iv b ≡ false
  unheld e = refuted (holds iv b) (λ h. true≢false (sym (holds_present h) ∙ e))

  pub empty_lacks : is_empty b ≡ true → present iv b ≡ false
  empty_lacks e = rw e

  pub other_lacks : same (iv_of b) iv ≡ false → present iv b ≡ false
  other_lacks e = refuted (present iv b) (λ h. true≢false (sym (and_right (not (is_empty b)) (same (iv_of b) iv) h) ∙ e))

-- a number that is held is present
module _ (iv : List ℕ) (bs : List (List ℕ)) where
  pub held_present : any (holds iv) bs ≡ true → any (present iv) bs ≡ true
  held_present = any_more (holds iv) (present iv) (holds_present iv) bs

  pub absent_unheld : any (present iv) bs ≡ false → any (holds iv) bs ≡ false
  absent_unheld = any_less (holds iv) (present iv) (holds_present iv) bs

-- ---- the blocks that are written

module _ (key iv k : List ℕ) (iv_long : length iv ≡ 16) (k-long : length k ≡ 32) where
  held_fine : Fine (held_entry key iv k)
  held_fine =
      record {
        mark_is = lit≤ tt;
        iv_long = iv_long;
        sealed_long = cipher_length key iv k ∙ k-long;
        tag_long = tag_long key iv [] (cipher_of key iv k);
        no_iv = λ m. absurd (omega arith);
        no_sealed = λ n. absurd (n refl);
        no_tag = λ n. absurd (n refl);
      }

  pub held_laid : well_laid (held_block key iv k) ≡ true
  unfolding held_block
  held_laid = block_laid (held_entry key iv k) held_fine

  held_reads : read (held_block key iv k) ≡ held_entry key iv k
  unfolding held_block
  held_reads = read_block (held_entry key iv k) held_fine

  held_mark : mark_of (held_block key iv k) ≡ held
  unfolding read
  held_mark = ap (λ (e : Entry). e.mark) held_reads

  pub held_iv : iv_of (held_block key iv k) ≡ iv
  unfolding read
  held_iv = ap (λ (e : Entry). e.iv) held_reads

  pub held_sealed : sealed_in (held_block key iv k) ≡ cipher_of key iv k
  unfolding read
  held_sealed = ap (λ (e : Entry). e.sealed) held_reads

  pub held_tag : tag_in (held_block key iv k) ≡ page_tag key iv [] k
  unfolding read
  held_tag = ap (λ (e : Entry). e.tag) held_reads

  pub held_full : is_empty (held_block key iv k) ≡ false
  held_full = rw held_mark

  pub held_holds : holds iv (held_block key iv k) ≡ true
  held_holds = rw (held_mark, held_iv) (same_refl iv)

module _ (iv : List ℕ) (iv_long : length iv ≡ 16) where
  erased_fine : Fine (erased_entry iv)
  erased_fine =
      record {
        mark_is = lit≤ tt;
        iv_long = iv_long;
        sealed_long = refl;
        tag_long = refl;
        no_iv = λ m. absurd (omega arith);
        no_sealed = λ n. refl;
        no_tag = λ n. refl;
      }

  pub erased_laid : well_laid (erased_block iv) ≡ true
  unfolding erased_block
  erased_laid = block_laid (erased_entry iv) erased_fine

  erased_reads : read (erased_block iv) ≡ (erased_entry iv)
  unfolding erased_block
  erased_reads = read_block (erased_entry iv) erased_fine

  erased_mark : mark_of (erased_block iv) ≡ erased
  unfolding read
  erased_mark = ap (λ (e : Entry). e.mark) erased_reads

  pub erased_iv : iv_of (erased_block iv) ≡ iv
  unfolding read
  erased_iv = ap (λ (e : Entry). e.iv) erased_reads

  pub erased_full : is_empty (erased_block iv) ≡ false
  erased_full = rw erased_mark

  pub erased_present : present iv (erased_block iv) ≡ true
  erased_present = rw (erased_mark, erased_iv) (same_refl iv)

  pub erased_unheld : (v : List ℕ) → holds v (erased_block iv) ≡ false
  erased_unheld v = rw erased_mark

  -- to tests of presence it is the block in whose place it is put
  pub erased_alike : (v b : List ℕ) → holds iv b ≡ true → present v b ≡ present v (erased_block iv)
  erased_alike v b e = let h : present iv b ≡ true = holds_present iv b e in rw (present_full iv b h, present_iv iv b h, erased_full, erased_iv)
