-- No number is accepted twice: a store is accepted where its number is absent, and whatever number is present stays so, so that those accepted later are absent
-- before.
use mathlib.Core.Path.{◌≡◌, refl, sym, ap, ◌∙◌}
use mathlib.Core.Bool.{Bool, true, false}
use mathlib.Core.List.{List, [], ◌∷◌}
use Prim.Native.Nat.{ℕ}
use borrow.Author.Tests.{eqb-true}
use lib.Dec.{eqb}
use Rattle.scope.specs.Refusals.{pick}
use Rattle.words.specs.Bytes.{same}
use Rattle.words.proofs.Tests.{same_eq}
use Rattle.fields.specs.Blocks.{blocks}
use Rattle.key_store.specs.Layout.{held_block, erased_block}
use Rattle.key_store.specs.Store.{is_empty, present, holds, any}
use Rattle.key_store.specs.Calls.{store_number, store_after, erase_after}
use Rattle.claims_keys.specs.Lists.{Call, Call.store, Call.fetch, Call.erase, left, accepted, apart}
use Rattle.claims_keys.proofs.First.{any_less, any_same, any_kept}
use Rattle.claims_keys.proofs.Blocks.{empty_lacks, held_present, erased_alike}
use Rattle.claims_keys.proofs.Accepting.{storing, store_cases, stored_blocks, erasing, erase_cases, gone_blocks}
use Rattle.claims_keys.proofs.Fetching.{there}

-- whether a number is present
abbrev in_store : (store iv : List ℕ) → Bool
in_store s v = any (present v) (blocks s)

stays : (c : Call) (s v : List ℕ) → in_store s v ≡ true → in_store (left c s) v ≡ true
stays (store key iv k) s v h =
    store_cases key iv k s (λ t. in_store t v ≡ true)
    (λ e. ap (any (present v)) (stored_blocks key iv k s e) ∙ any_kept is_empty (held_block key iv k) (present v) (empty_lacks v) (blocks s) h)
    h
stays (fetch key iv) s v h = h
stays (erase iv) s v h =
    erase_cases iv s (λ t. in_store t v ≡ true)
    (λ e.
    ap (any (present v)) (gone_blocks iv s e)
    ∙ any_same (holds iv) (erased_block iv) (present v) (erased_alike iv (erasing iv s e).iv_long v) (blocks s) ∙ h)
    h

-- numbers that are absent after a call are absent before it
before : (c : Call) (s : List ℕ) (vs : List (List ℕ)) → any (in_store (left c s)) vs ≡ false → any (in_store s) vs ≡ false
before c s = any_less (in_store s) (in_store (left c s)) (stays c s)

pub none_present : (cs : List Call) (s : List ℕ) → any (in_store s) (accepted cs s) ≡ false
unfolding accepted any
none_present [] s = refl
none_present (store key iv k ∷ cs) s =
    go (eqb (store_number key iv k s) 0) refl
    (before (store key iv k) s (accepted cs (store_after key iv k s)) (none_present cs (store_after key iv k s)))
  where
    go : (t : Bool) → eqb (store_number key iv k s) 0 ≡ t → any (in_store s) (accepted cs (store_after key iv k s)) ≡ false
        → any (in_store s) (pick t (iv ∷ accepted cs (store_after key iv k s)) (accepted cs (store_after key iv k s))) ≡ false
    go true e ih = rw (storing key iv k s (eqb-true (store_number key iv k s) 0 e)).absent ih
    go false e ih = ih
none_present (fetch key iv ∷ cs) s = none_present cs s
none_present (erase iv ∷ cs) s = before (erase iv) s (accepted cs (erase_after iv s)) (none_present cs (erase_after iv s))

pub never_twice : (cs : List Call) (s : List ℕ) → apart (accepted cs s) ≡ true
unfolding accepted apart
never_twice [] s = refl
never_twice (store key iv k ∷ cs) s = go (eqb (store_number key iv k s) 0) refl (never_twice cs (store_after key iv k s))
  where
    go : (t : Bool) → eqb (store_number key iv k s) 0 ≡ t → apart (accepted cs (store_after key iv k s)) ≡ true
        → apart (pick t (iv ∷ accepted cs (store_after key iv k s)) (accepted cs (store_after key iv k s))) ≡ true
    go true e ih =
        let s' : List ℕ = store_after key iv k s in
        let q : store_number key iv k s ≡ 0 = eqb-true (store_number key iv k s) 0 e in
        let new : in_store s' iv ≡ true = held_present iv (blocks s') (there key iv k s q) in
        let none : any (same iv) (accepted cs s') ≡ false =
        any_less (same iv) (in_store s') (λ v f. ap (in_store s') (sym (same_eq iv v f)) ∙ new) (accepted cs s') (none_present cs s') in
        rw none ih
    go false e ih = ih
never_twice (fetch key iv ∷ cs) s = never_twice cs s
never_twice (erase iv ∷ cs) s = never_twice cs (erase_after iv s)
