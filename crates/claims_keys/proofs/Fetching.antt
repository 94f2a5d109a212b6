-- What was stored is fetched: the new block is the only one that holds the number, its tag is the one that its own bytes give, and the keystream is xored twice.
-- Calls that do not erase it leave that block where it is.
use mathlib.Core.Path.{◌≡◌, ap, ◌∙◌}
use mathlib.Core.Bool.{true}
use mathlib.Core.List.{List, []}
use Prim.Native.Nat.{ℕ}
use borrow.Author.Tests.{eq-eqb}
use lib.ListN.{length}
use Rattle.words.proofs.Tests.{same_refl}
use Rattle.fields.specs.Blocks.{blocks}
use Rattle.page.specs.Page.{page_tag}
use Rattle.page.proofs.Ciphertext.{cipher_twice}
use Rattle.key_store.specs.Layout.{held_block}
use Rattle.key_store.specs.Store.{is_empty, holds, any, found}
use Rattle.key_store.specs.Calls.{store_number, store_after, fetch_number, fetch_key}
use Rattle.claims_keys.specs.Lists.{Call, after, never_erases}
use Rattle.claims_keys.specs.Claims.{Fetches, SameFetch}
use Rattle.claims_keys.proofs.First.{any_new, found_new}
use Rattle.claims_keys.proofs.Blocks.{absent_unheld, held_sealed, held_tag, held_holds}
use Rattle.claims_keys.proofs.Accepting.{storing, stored_blocks, stored_kept}
use Rattle.claims_keys.proofs.Others.{not_erased, same_fetch}

module _ (key iv k s : List ℕ) (e : store_number key iv k s ≡ 0) where
  abbrev new : List ℕ
  new = held_block key iv k

  abbrev stored : List ℕ
  stored = store_after key iv k s

  new_holds : holds iv new ≡ true
  new_holds = held_holds key iv k (storing key iv k s e).iv_long (storing key iv k s e).stay_key_long

  pub there : any (holds iv) (blocks stored) ≡ true
  there = ap (any (holds iv)) (stored_blocks key iv k s e) ∙ any_new is_empty new (holds iv) new_holds (blocks s) (storing key iv k s e).room

  it_is : found (holds iv) (blocks stored) ≡ new
  it_is =
      ap (found (holds iv)) (stored_blocks key iv k s e)
      ∙ found_new is_empty new (holds iv) new_holds (blocks s) (storing key iv k s e).room
      (absent_unheld iv (blocks s) (storing key iv k s e).absent)

  answer : fetch_number key iv stored ≡ 0
  unfolding fetch_number
  answer =
      let r = storing key iv k s e in
      rw (
        eq-eqb (length key) 32 r.key_long,
        eq-eqb (length iv) 16 r.iv_long,
        stored_kept key iv k s e,
        there,
        it_is,
        held_sealed key iv k r.iv_long r.stay_key_long,
        held_tag key iv k r.iv_long r.stay_key_long,
        same_refl (page_tag key iv [] k),
      )

  fetched : fetch_key key iv stored ≡ k
  unfolding fetch_key
  fetched =
      let r = storing key iv k s e in
      rw (answer, it_is, held_sealed key iv k r.iv_long r.stay_key_long) (cipher_twice key iv k)

  pub stored_fetched : (cs : List Call) → never_erases iv cs ≡ true → Fetches key iv (after cs stored) k
  stored_fetched cs n =
      let f : SameFetch iv (after cs stored) stored = same_fetch iv stored (after cs stored) (not_erased iv cs stored there n) in
      record { answer = f.answer key ∙ answer; fetched = f.fetched key ∙ fetched }
