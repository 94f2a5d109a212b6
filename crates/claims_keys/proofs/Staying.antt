-- What calls leave is as long as what they were lent and obeys the rules if and only if that did, since every accepted call puts one block in.
use mathlib.Core.Path.{◌≡◌, refl, sym, ◌∙◌}
use mathlib.Core.List.{List, [], ◌∷◌}
use Prim.Native.Nat.{ℕ}
use lib.ListN.{length}
use Rattle.key_store.specs.Store.{well_kept}
use Rattle.claims_keys.specs.Lists.{Call, Call.store, Call.fetch, Call.erase, left, after}
use Rattle.claims_keys.proofs.Accepting.{storing, store_cases, stored_long, stored_kept, erasing, erase_cases, gone_long, gone_kept}

long_left : (c : Call) (s : List ℕ) → length (left c s) ≡ length s
long_left (store key iv k) s = store_cases key iv k s (λ t. length t ≡ length s) (stored_long key iv k s) refl
long_left (fetch key iv) s = refl
long_left (erase iv) s = erase_cases iv s (λ t. length t ≡ length s) (gone_long iv s) refl

pub same_length : (cs : List Call) (s : List ℕ) → length (after cs s) ≡ length s
unfolding after
same_length [] s = refl
same_length (c ∷ cs) s = same_length cs (left c s) ∙ long_left c s

pub well_left : (c : Call) (s : List ℕ) → well_kept (left c s) ≡ well_kept s
well_left (store key iv k) s =
    store_cases key iv k s (λ t. well_kept t ≡ well_kept s) (λ e. stored_kept key iv k s e ∙ sym (storing key iv k s e).well) refl
well_left (fetch key iv) s = refl
well_left (erase iv) s = erase_cases iv s (λ t. well_kept t ≡ well_kept s) (λ e. gone_kept iv s e ∙ sym (erasing iv s e).well) refl

pub well_after : (cs : List Call) (s : List ℕ) → well_kept (after cs s) ≡ well_kept s
unfolding after
well_after [] s = refl
well_after (c ∷ cs) s = well_after cs (left c s) ∙ well_left c s
