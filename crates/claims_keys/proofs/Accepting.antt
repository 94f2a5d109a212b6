-- What it says of a store that a call on it is accepted, and the blocks that the call leaves. A refused call leaves the store as it is, so that what is to be
-- shown of a call is shown of an accepted one.
use mathlib.Core.Path.{◌≡◌, refl, sym, ap, ◌∙◌}
use mathlib.Core.Bool.{Bool, true, false, not, ◌||◌}
use mathlib.Core.List.{List}
use Prim.Native.Nat.{ℕ}
use borrow.Author.Tests.{eqb-true, eq-eqb, not-false}
use lib.Dec.{eqb, lit<}
use lib.ListN.{length}
use Rattle.scope.specs.Refusals.{refuse, granted, key_length, iv_length, short_output, bad_block, number_taken, no_key}
use Rattle.scope.proofs.Refusing.{refuse_none}
use Rattle.words.proofs.Tests.{neither}
use Rattle.fields.specs.Blocks.{blocks, replaced}
use Rattle.key_store.specs.Layout.{iv_of, well_laid, held_block, erased_block}
use Rattle.key_store.specs.Store.{is_empty, present, holds, any, first, well_kept}
use Rattle.key_store.specs.Calls.{store_number, store_after, erase_number, erase_after}
use Rattle.claims_keys.specs.Claims.{Storable, Erasable}
use Rattle.claims_keys.proofs.First.{put_first}
use Rattle.claims_keys.proofs.Blocks.{present_iv, present_full, holds_present, held_laid, held_iv, held_full, erased_laid, erased_iv, erased_full}
use Rattle.claims_keys.proofs.Once.{once_new, once_again}
use Rattle.claims_keys.proofs.Putting.{kept, put_long, put_blocks, put_kept}

module _ (n : ℕ) (t s : List ℕ) where
  cases : (P : List ℕ → Type 0) → (n ≡ 0 → P (granted n t s)) → P s → P (granted n t s)
  cases P f g = go (eqb n 0) refl
    where
      go : (b : Bool) → eqb n 0 ≡ b → P (granted n t s)
      go true e = f (eqb-true n 0 e)
      go false e = rw e g

  -- two calls with one answer
  both : (m : ℕ) (t' s' : List ℕ) (P : List ℕ → List ℕ → Type 0) → n ≡ m → (n ≡ 0 → m ≡ 0 → P (granted n t s) (granted m t' s')) → P s s'
      → P (granted n t s) (granted m t' s')
  both m t' s' P q f g = go (eqb n 0) refl
    where
      go : (b : Bool) → eqb n 0 ≡ b → P (granted n t s) (granted m t' s')
      go true e = f (eqb-true n 0 e) (sym q ∙ eqb-true n 0 e)
      go false e = let e' : eqb m 0 ≡ false = ap (λ (x : ℕ). eqb x 0) (sym q) ∙ e in rw (e, e') g

-- ---- store

module _ (key iv k s : List ℕ) where
  pub storing : store_number key iv k s ≡ 0 → Storable key iv k s
  unfolding store_number
  storing e =
      let l : Bool = not (eqb (length key) 32) || not (eqb (length k) 32) in
      let v : Bool = not (eqb (length iv) 16) in
      let w : Bool = not (well_kept s) in
      let t : Bool = any (present iv) (blocks s) in
      let f : Bool = not (any is_empty (blocks s)) in
      let a = refuse_none l key_length (refuse v iv_length (refuse w bad_block (refuse t number_taken (refuse f short_output 0)))) (lit< tt) e in
      let b = refuse_none v iv_length (refuse w bad_block (refuse t number_taken (refuse f short_output 0))) (lit< tt) a.1 in
      let c = refuse_none w bad_block (refuse t number_taken (refuse f short_output 0)) (lit< tt) b.1 in
      let d = refuse_none t number_taken (refuse f short_output 0) (lit< tt) c.1 in
      let n = neither (not (eqb (length key) 32)) (not (eqb (length k) 32)) a.0 in
      record {
        key_long = eqb-true (length key) 32 (not-false (eqb (length key) 32) n.0);
        stay_key_long = eqb-true (length k) 32 (not-false (eqb (length k) 32) n.1);
        iv_long = eqb-true (length iv) 16 (not-false (eqb (length iv) 16) b.0);
        well = not-false (well_kept s) c.0;
        absent = d.0;
        room = not-false (any is_empty (blocks s)) (refuse_none f short_output 0 (lit< tt) d.1).0;
      }

  pub storable : Storable key iv k s → store_number key iv k s ≡ 0
  unfolding store_number
  storable r =
      rw (eq-eqb (length key) 32 r.key_long, eq-eqb (length k) 32 r.stay_key_long, eq-eqb (length iv) 16 r.iv_long, r.well, r.absent, r.room)

  abbrev filled : List ℕ
  filled = replaced (first is_empty (blocks s)) (held_block key iv k) s

  pub stored : store_number key iv k s ≡ 0 → store_after key iv k s ≡ filled
  unfolding store_after
  stored e = rw e

  pub store_cases : (P : List ℕ → Type 0) → (store_number key iv k s ≡ 0 → P (store_after key iv k s)) → P s → P (store_after key iv k s)
  unfolding store_after
  store_cases = cases (store_number key iv k s) filled s

  module _ (e : store_number key iv k s ≡ 0) where
    new_laid : well_laid (held_block key iv k) ≡ true
    new_laid = held_laid key iv k (storing e).iv_long (storing e).stay_key_long

    pub stored_long : length (store_after key iv k s) ≡ length s
    stored_long = ap length (stored e) ∙ put_long is_empty (held_block key iv k) s (kept s (storing e).well) (storing e).room new_laid

    pub stored_blocks : blocks (store_after key iv k s) ≡ put_first is_empty (held_block key iv k) (blocks s)
    stored_blocks = ap blocks (stored e) ∙ put_blocks is_empty (held_block key iv k) s (kept s (storing e).well) (storing e).room new_laid

    pub stored_kept : well_kept (store_after key iv k s) ≡ true
    stored_kept =
        let b : List ℕ = held_block key iv k in
        let v : iv_of b ≡ iv = held_iv key iv k (storing e).iv_long (storing e).stay_key_long in
        ap well_kept (stored e)
        ∙ put_kept is_empty b s (kept s (storing e).well) (storing e).room new_laid
        (once_new b (held_full key iv k (storing e).iv_long (storing e).stay_key_long) (blocks s) (rw v (storing e).absent) (kept s (storing e).well).no_twice)

pub store_both : (key iv k k' s s' : List ℕ) (P : List ℕ → List ℕ → Type 0) → store_number key iv k s ≡ store_number key iv k' s'
    → (store_number key iv k s ≡ 0 → store_number key iv k' s' ≡ 0 → P (store_after key iv k s) (store_after key iv k' s')) → P s s'
    → P (store_after key iv k s) (store_after key iv k' s')
unfolding store_after
store_both key iv k k' s s' =
    both (store_number key iv k s) (filled key iv k s) s (store_number key iv k' s') (filled key iv k' s') s'

-- ---- erase

module _ (iv s : List ℕ) where
  pub erasing : erase_number iv s ≡ 0 → Erasable iv s
  unfolding erase_number
  erasing e =
      let v : Bool = not (eqb (length iv) 16) in
      let w : Bool = not (well_kept s) in
      let h : Bool = not (any (holds iv) (blocks s)) in
      let a = refuse_none v iv_length (refuse w bad_block (refuse h no_key 0)) (lit< tt) e in
      let b = refuse_none w bad_block (refuse h no_key 0) (lit< tt) a.1 in
      record {
        iv_long = eqb-true (length iv) 16 (not-false (eqb (length iv) 16) a.0);
        well = not-false (well_kept s) b.0;
        there = not-false (any (holds iv) (blocks s)) (refuse_none h no_key 0 (lit< tt) b.1).0;
      }

  pub erasable : Erasable iv s → erase_number iv s ≡ 0
  unfolding erase_number
  erasable r = rw (eq-eqb (length iv) 16 r.iv_long, r.well, r.there)

  abbrev cleared : List ℕ
  cleared = replaced (first (holds iv) (blocks s)) (erased_block iv) s

  pub gone : erase_number iv s ≡ 0 → erase_after iv s ≡ cleared
  unfolding erase_after
  gone e = rw e

  pub erase_cases : (P : List ℕ → Type 0) → (erase_number iv s ≡ 0 → P (erase_after iv s)) → P s → P (erase_after iv s)
  unfolding erase_after
  erase_cases = cases (erase_number iv s) cleared s

  module _ (e : erase_number iv s ≡ 0) where
    gone_laid : well_laid (erased_block iv) ≡ true
    gone_laid = erased_laid iv (erasing e).iv_long

    pub gone_long : length (erase_after iv s) ≡ length s
    gone_long = ap length (gone e) ∙ put_long (holds iv) (erased_block iv) s (kept s (erasing e).well) (erasing e).there gone_laid

    pub gone_blocks : blocks (erase_after iv s) ≡ put_first (holds iv) (erased_block iv) (blocks s)
    gone_blocks = ap blocks (gone e) ∙ put_blocks (holds iv) (erased_block iv) s (kept s (erasing e).well) (erasing e).there gone_laid

    pub gone_kept : well_kept (erase_after iv s) ≡ true
    gone_kept =
        let c : List ℕ = erased_block iv in
        let l : length iv ≡ 16 = (erasing e).iv_long in
        let alike : (b : List ℕ) → holds iv b ≡ true → (is_empty b ≡ false) × (iv_of b ≡ iv_of c) =
        λ b h. (present_full iv b (holds_present iv b h), present_iv iv b (holds_present iv b h) ∙ sym (erased_iv iv l)) in
        ap well_kept (gone e)
        ∙ put_kept (holds iv) c s (kept s (erasing e).well) (erasing e).there gone_laid
        (once_again c (erased_full iv l) (holds iv) alike (blocks s) ∙ (kept s (erasing e).well).no_twice)

pub erase_both : (iv s s' : List ℕ) (P : List ℕ → List ℕ → Type 0) → erase_number iv s ≡ erase_number iv s'
    → (erase_number iv s ≡ 0 → erase_number iv s' ≡ 0 → P (erase_after iv s) (erase_after iv s')) → P s s' → P (erase_after iv s) (erase_after iv s')
unfolding erase_after
erase_both iv s s' = both (erase_number iv s) (cleared iv s) s (erase_number iv s') (cleared iv s') s'
