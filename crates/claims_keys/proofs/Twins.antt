-- After an erasure no byte of the store tells which key was stored. Of two stores that the same calls but for a number's key led to, either there is no difference, or both
-- hold the number and are equal once it is erased: an accepted call for another number can be made after the erasure as well as before it, and one that stores
-- a key for this number is refused.
use mathlib.Core.Path.{◌≡◌, refl, sym, ap, ◌∙◌}
use mathlib.Core.Bool.{Bool, true, false, true≢false}
use mathlib.Core.List.{List}
use Prim.Native.Nat.{ℕ}
use lib.ListN.{length}
use Rattle.words.specs.Bytes.{same}
use Rattle.words.proofs.Tests.{same_eq, refuted}
use Rattle.fields.specs.Blocks.{blocks}
use Rattle.fields.proofs.Blocks.{blocks_same}
use Rattle.key_store.specs.Layout.{held_block, erased_block}
use Rattle.key_store.specs.Store.{is_empty, present, holds, any, first, well_kept}
use Rattle.key_store.specs.Calls.{store_number, store_after, erase_number, erase_after}
use Rattle.claims_keys.specs.Lists.{Call, Call.store, Call.fetch, Call.erase, left, after}
use Rattle.claims_keys.specs.Lists.{Alike, Alike.one, Alike.other_key, AllAlike, AllAlike.none, AllAlike.more}
use Rattle.claims_keys.specs.Claims.{Erasable}
use Rattle.claims_keys.proofs.First.{put_first, any_same, put_put}
use Rattle.claims_keys.proofs.Blocks.{present_full, holds_present, unheld, held_present, erased_full, erased_present, erased_unheld, erased_alike}
use Rattle.claims_keys.proofs.Putting.{kept}
use Rattle.claims_keys.proofs.Accepting.{storing, store_cases, store_both, stored_blocks, stored_kept}
use Rattle.claims_keys.proofs.Accepting.{erasing, erasable, erase_both, gone_blocks, gone_kept}
use Rattle.claims_keys.proofs.Others.{Apart, not_both, store_apart, erase_apart, other, leaves}
use Rattle.claims_keys.proofs.Erasing.{nothing_left}
use Rattle.claims_keys.proofs.Storing.{one_key_apart}

-- the blocks with the number's one erased
abbrev cleared : List ℕ → List (List ℕ) → List (List ℕ)
cleared iv bs = put_first (holds iv) (erased_block iv) bs

record Near (iv s s' : List ℕ) : Type 0 where
  this : Erasable iv s
  that : Erasable iv s'
  rest : cleared iv (blocks s) ≡ cleared iv (blocks s')

data Twins (iv s s' : List ℕ) : Type 0 where
  equal : s ≡ s' → Twins iv s s'
  near : Near iv s s' → Twins iv s s'

module _ (iv s s' : List ℕ) (n : Near iv s s') where
  erased_same : erase_after iv s ≡ erase_after iv s'
  erased_same =
      let e : erase_number iv s ≡ 0 = erasable iv s n.this in
      let e' : erase_number iv s' ≡ 0 = erasable iv s' n.that in
      blocks_same (erase_after iv s) (erase_after iv s')
      (kept (erase_after iv s) (gone_kept iv s e)).blocks_only
      (kept (erase_after iv s') (gone_kept iv s' e')).blocks_only
      (gone_blocks iv s e ∙ n.rest ∙ sym (gone_blocks iv s' e'))

  -- a test that the erasure does not change answers alike
  alike : (q : List ℕ → Bool) → ((b : List ℕ) → holds iv b ≡ true → q b ≡ q (erased_block iv)) → any q (blocks s) ≡ any q (blocks s')
  alike q h =
      sym (any_same (holds iv) (erased_block iv) q h (blocks s)) ∙ ap (any q) n.rest ∙ any_same (holds iv) (erased_block iv) q h (blocks s')

  store_alike : (key v k : List ℕ) → store_number key v k s ≡ store_number key v k s'
  unfolding store_number
  store_alike key v k =
      let l : length iv ≡ 16 = n.this.iv_long in
      rw (
        n.this.well,
        n.that.well,
        alike (present v) (erased_alike iv l v),
        alike is_empty (λ b e. present_full iv b (holds_present iv b e) ∙ sym (erased_full iv l)),
      )

  -- a change that leaves the number alone
  module _ (p : List ℕ → Bool) (c : List ℕ) (a : Apart iv p c) where
    not_there : (b : List ℕ) → present iv b ≡ true → p b ≡ false
    not_there b h = refuted (p b) (λ e. true≢false (sym h ∙ a.old b e))

    clear_put : (bs : List (List ℕ)) → cleared iv (put_first p c bs) ≡ put_first p c (cleared iv bs)
    clear_put =
        put_put p c (holds iv) (erased_block iv) (λ b e. unheld iv b (a.old b e)) (unheld iv c a.new)
        (not_there (erased_block iv) (erased_present iv n.this.iv_long))

    near_put : (t t' : List ℕ) → blocks t ≡ put_first p c (blocks s) → blocks t' ≡ put_first p c (blocks s') → well_kept t ≡ true → well_kept t' ≡ true
        → Near iv t t'
    near_put t t' e e' w w' =
        record {
          this = record {
            iv_long = n.this.iv_long;
            well = w;
            there = (leaves iv p c s t a e (w ∙ sym n.this.well)).held ∙ n.this.there;
          };
          that = record {
            iv_long = n.that.iv_long;
            well = w';
            there = (leaves iv p c s' t' a e' (w' ∙ sym n.that.well)).held ∙ n.that.there;
          };
          rest = ap (cleared iv) e ∙ clear_put (blocks s) ∙ ap (put_first p c) n.rest ∙ sym (clear_put (blocks s')) ∙ ap (cleared iv) (sym e');
        }

  -- ---- a call on both

  store_near : (key v k : List ℕ) → Twins iv (store_after key v k s) (store_after key v k s')
  store_near key v k =
      store_both key v k k s s' (Twins iv) (store_alike key v k)
      (λ e e'.
      let r = storing key v k s e in
      let q : same v iv ≡ false = other v iv (λ x. any (present x) (blocks s)) false r.absent (λ t. held_present iv (blocks s) n.this.there) in
      near
      (near_put is_empty (held_block key v k) (store_apart v iv r.iv_long q key k r.stay_key_long) (store_after key v k s) (store_after key v k s')
      (stored_blocks key v k s e) (stored_blocks key v k s' e') (stored_kept key v k s e) (stored_kept key v k s' e')))
      (near n)

  erase_alike : (v : List ℕ) → same v iv ≡ false → erase_number v s ≡ erase_number v s'
  unfolding erase_number
  erase_alike v q =
      let none : (b : List ℕ) → holds iv b ≡ true → holds v b ≡ false =
      λ b e. refuted (holds v b) (λ h. true≢false (sym (holds_present iv b e) ∙ not_both v iv q b h)) in
      rw (n.this.well, n.that.well, alike (holds v) (λ b e. none b e ∙ sym (erased_unheld iv n.this.iv_long v)))

  erase_near : (v : List ℕ) → Twins iv (erase_after v s) (erase_after v s')
  erase_near v = go (same v iv) refl
    where
      go : (t : Bool) → same v iv ≡ t → Twins iv (erase_after v s) (erase_after v s')
      go true q = equal (rw (same_eq v iv q) erased_same)
      go false q =
          erase_both v s s' (Twins iv) (erase_alike v q)
          (λ e e'.
          near
          (near_put (holds v) (erased_block v) (erase_apart v iv (erasing v s e).iv_long q) (erase_after v s) (erase_after v s')
          (gone_blocks v s e) (gone_blocks v s' e') (gone_kept v s e) (gone_kept v s' e')))
          (near n)

  call_near : (c : Call) → Twins iv (left c s) (left c s')
  call_near (store key v k) = store_near key v k
  call_near (fetch key v) = near n
  call_near (erase v) = erase_near v

-- a key for the number is not accepted where it is held
refused : (key iv k s : List ℕ) → Erasable iv s → store_number key iv k s ≡ 0 → ⊥
refused key iv k s r e = true≢false (sym (held_present iv (blocks s) r.there) ∙ (storing key iv k s e).absent)

-- two keys for the number
keys_equal : (key iv k k' s : List ℕ) → length k ≡ length k' → Twins iv (store_after key iv k s) (store_after key iv k' s)
unfolding store_number
keys_equal key iv k k' s l =
    store_both key iv k k' s s (Twins iv) (rw l)
    (λ e e'.
    let t : List ℕ = store_after key iv k s in
    let t' : List ℕ = store_after key iv k' s in
    let z = nothing_left iv t t' (first is_empty (blocks s)) (stored_kept key iv k s e) (stored_kept key iv k' s e') (one_key_apart key iv k k' s e e') in
    near
    (record {
      this = erasing iv t z.0;
      that = erasing iv t' z.1.0;
      rest = sym (gone_blocks iv t z.0) ∙ ap blocks z.1.1 ∙ gone_blocks iv t' z.1.0;
    }))
    (equal refl)

keys_near : (key iv k k' s s' : List ℕ) → Near iv s s' → Twins iv (store_after key iv k s) (store_after key iv k' s')
keys_near key iv k k' s s' n =
    store_cases key iv k s (λ t. Twins iv t (store_after key iv k' s')) (λ e. absurd (refused key iv k s n.this e))
    (store_cases key iv k' s' (Twins iv s) (λ e. absurd (refused key iv k' s' n.that e)) (near n))

step : (iv : List ℕ) {c c' : Call} → Alike iv c c' → (s s' : List ℕ) → Twins iv s s' → Twins iv (left c s) (left c' s')
step iv (one c) s s' (equal q) = equal (ap (left c) q)
step iv (one c) s s' (near n) = call_near iv s s' n c
step iv (other_key key k k' l) s s' (equal q) = rw q (keys_equal key iv k k' s' l)
step iv (other_key key k k' l) s s' (near n) = keys_near key iv k k' s s' n

-- ---- all calls

steps : (iv : List ℕ) {cs cs' : List Call} → AllAlike iv cs cs' → (s s' : List ℕ) → Twins iv s s' → Twins iv (after cs s) (after cs' s')
unfolding after
steps iv none s s' t = t
steps iv (more c c' cs cs' a r) s s' t = steps iv r (left c s) (left c' s') (step iv a s s' t)

pub same_after_erase : (iv : List ℕ) (cs cs' : List Call) → AllAlike iv cs cs' → (s : List ℕ)
    → (erase_number iv (after cs s) ≡ erase_number iv (after cs' s)) × (erase_after iv (after cs s) ≡ erase_after iv (after cs' s))
same_after_erase iv cs cs' a s = go (steps iv a s s (equal refl))
  where
    go : Twins iv (after cs s) (after cs' s)
        → (erase_number iv (after cs s) ≡ erase_number iv (after cs' s)) × (erase_after iv (after cs s) ≡ erase_after iv (after cs' s))
    go (equal q) = (ap (erase_number iv) q, ap (erase_after iv) q)
    go (near n) =
        (erasable iv (after cs s) n.this ∙ sym (erasable iv (after cs' s) n.that), erased_same iv (after cs s) (after cs' s) n)
