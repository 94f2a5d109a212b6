-- An erased number is present and not held, and where that is so every call for it is refused, so that it stays.
use mathlib.Core.Path.{◌≡◌, ap, ◌∙◌}
use mathlib.Core.Bool.{true, false}
use mathlib.Core.List.{List}
use Prim.Native.Nat.{ℕ}
use borrow.Author.Tests.{eq-eqb}
use lib.ListN.{length}
use Rattle.fields.specs.Blocks.{blocks}
use Rattle.key_store.specs.Layout.{erased_block}
use Rattle.key_store.specs.Store.{present, holds, any, well_kept}
use Rattle.key_store.specs.Calls.{store_number, fetch_number, erase_number, erase_after}
use Rattle.claims_keys.specs.Lists.{Call, after}
use Rattle.claims_keys.specs.Claims.{Gone}
use Rattle.claims_keys.proofs.First.{any_new}
use Rattle.claims_keys.proofs.Blocks.{erased_present, erased_unheld}
use Rattle.claims_keys.proofs.Once.{none_holds}
use Rattle.claims_keys.proofs.Putting.{kept}
use Rattle.claims_keys.proofs.Accepting.{erasing, gone_blocks, gone_kept}
use Rattle.claims_keys.proofs.Others.{not_held}

module _ (iv s : List ℕ) (l : length iv ≡ 16) (w : well_kept s ≡ true) (p : any (present iv) (blocks s) ≡ true) (h : any (holds iv) (blocks s) ≡ false) where
  refused : Gone iv s
  unfolding fetch_number erase_number store_number
  refused =
      record {
        fetch = λ key m. rw (eq-eqb (length key) 32 m, eq-eqb (length iv) 16 l, w, h);
        erase = rw (eq-eqb (length iv) 16 l, w, h);
        never_again = λ key k m n. rw (eq-eqb (length key) 32 m, eq-eqb (length k) 32 n, eq-eqb (length iv) 16 l, w, p);
      }

module _ (iv s : List ℕ) (e : erase_number iv s ≡ 0) where
  abbrev rest : List ℕ
  rest = erase_after iv s

  still_present : any (present iv) (blocks rest) ≡ true
  still_present =
      let r = erasing iv s e in
      ap (any (present iv)) (gone_blocks iv s e)
      ∙ any_new (holds iv) (erased_block iv) (present iv) (erased_present iv r.iv_long) (blocks s) r.there

  unheld : any (holds iv) (blocks rest) ≡ false
  unheld =
      let r = erasing iv s e in
      ap (any (holds iv)) (gone_blocks iv s e)
      ∙ none_holds iv (erased_block iv) (erased_unheld iv r.iv_long iv) (blocks s) (kept s r.well).no_twice

  pub erased_gone : (cs : List Call) → Gone iv (after cs rest)
  erased_gone cs =
      let u = not_held iv cs rest still_present unheld in
      refused iv (after cs rest) (erasing iv s e).iv_long (u.well ∙ gone_kept iv s e) (u.present ∙ still_present) (u.held ∙ unheld)
