-- Key stores through C: fetch is the call below with a test of the buffer behind it, so that what is claimed of stores is claimed of what C is told.
use mathlib.Core.Path.{◌≡◌, sym, ap, ◌∙◌}
use mathlib.Core.Bool.{true}
use mathlib.Core.List.{List, ◌++◌}
use Prim.Native.Nat.{ℕ, ◌≤◌}
use lib.ListN.{length, drop}
use Rattle.scope.specs.Refusals.{granted, no_key}
use Rattle.key_store.specs.Calls.{store_number, store_after, fetch_number, fetch_key, erase_number, erase_after}
use Rattle.claims_keys.specs.Lists.{Call, after, never_erases}
use Rattle.claims_keys.proofs.Claimed.{key_claims}
use Rattle.bytes_c.specs.Order.{next, room}
use Rattle.bytes_c.proofs.Answering.{never, fits, unwritten}
use Rattle.tulvekas.specs.Keys.{keys_fetch_answer, keys_fetch_writes}
use Rattle.tulvekas.proofs.Answering.{nothing_later, below_refuses}

module _ (key iv s out : List ℕ) where
  pub fetches_key : 32 ≤ length out
      → (keys_fetch_answer key iv s out ≡ fetch_number key iv s)
      × (keys_fetch_writes key iv s out ≡ granted (fetch_number key iv s) (fetch_key key iv s ++ drop 32 out) out)
  unfolding keys_fetch_answer
  fetches_key h =
      let n = fetch_number key iv s in
      let e : next n (room 32 out 0) ≡ n = ap (next n) (sym (fits 32 out 0 h)) ∙ sym (nothing_later n) in
      (e, ap (λ (m : ℕ). granted m (fetch_key key iv s ++ drop 32 out) out) e)

  -- refused below
  fetch_refused : (n : ℕ) → fetch_number key iv s ≡ n → ¬ (n ≡ 0) → (keys_fetch_answer key iv s out ≡ n) × (keys_fetch_writes key iv s out ≡ out)
  unfolding keys_fetch_answer
  fetch_refused n e h =
      let a : n ≡ next (fetch_number key iv s) (room 32 out 0) = sym e ∙ below_refuses (fetch_number key iv s) (room 32 out 0) (λ z. h (sym e ∙ z)) in
      (sym a, sym (unwritten a 32 (fetch_key key iv s) out h))

pub key_fetched : (key iv k s : List ℕ) → store_number key iv k s ≡ 0 → (cs : List Call) → never_erases iv cs ≡ true → (out : List ℕ) → 32 ≤ length out
    → (keys_fetch_answer key iv (after cs (store_after key iv k s)) out ≡ 0)
    × (keys_fetch_writes key iv (after cs (store_after key iv k s)) out ≡ k ++ drop 32 out)
key_fetched key iv k s e cs n out h =
    let t = after cs (store_after key iv k s) in
    let f = key_claims.stored_fetched key iv k s e cs n in
    let c = fetches_key key iv t out h in
    (c.0 ∙ f.answer, c.1 ∙ ap (λ (m : ℕ). granted m (fetch_key key iv t ++ drop 32 out) out) f.answer ∙ ap (λ (l : List ℕ). l ++ drop 32 out) f.fetched)

pub key_gone : (iv s : List ℕ) → erase_number iv s ≡ 0 → (cs : List Call) (key : List ℕ) → length key ≡ 32 → (out : List ℕ)
    → (keys_fetch_answer key iv (after cs (erase_after iv s)) out ≡ no_key) × (keys_fetch_writes key iv (after cs (erase_after iv s)) out ≡ out)
key_gone iv s e cs key l out = fetch_refused key iv (after cs (erase_after iv s)) out no_key ((key_claims.erased_gone iv s e cs).fetch key l) (never 16)
