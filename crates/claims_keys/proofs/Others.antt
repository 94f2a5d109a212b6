-- A call that is accepted for another number changes no block with this one, neither the old block nor the new one being of it, so that whatever is looked up
-- by this number stays. A call for this number changes nothing if it is refused: a store where the number is present, an erasure where it is not held.
use mathlib.Core.Path.{◌≡◌, refl, sym, ap, ◌∙◌}
use mathlib.Core.Bool.{Bool, true, false, not, ◌||◌, true≢false}
use mathlib.Core.List.{List, [], ◌∷◌}
use Prim.Native.Nat.{ℕ}
use borrow.Author.Tests.{not-true}
use lib.ListN.{length}
use Rattle.words.specs.Bytes.{same}
use Rattle.words.proofs.Tests.{and_left, and_right, neither, same_eq, refuted}
use Rattle.fields.specs.Blocks.{blocks}
use Rattle.key_store.specs.Layout.{held_block, erased_block}
use Rattle.key_store.specs.Store.{is_empty, present, holds, any, found, well_kept}
use Rattle.key_store.specs.Calls.{fetch_number, fetch_key, erase_after}
use Rattle.claims_keys.specs.Lists.{Call, Call.store, Call.fetch, Call.erase, left, after, stores, erases, never_names, never_erases}
use Rattle.claims_keys.specs.Claims.{SameFetch}
use Rattle.claims_keys.proofs.First.{any_same, found_same, put_first}
use Rattle.claims_keys.proofs.Blocks.{present_iv, holds_present, unheld, empty_lacks, other_lacks, held_present, held_iv, erased_iv}
use Rattle.claims_keys.proofs.Accepting.{storing, store_cases, stored_blocks, erasing, erase_cases, gone_blocks}
use Rattle.claims_keys.proofs.Staying.{well_left}

-- ---- a change that leaves a number alone

pub record Apart (iv : List ℕ) (p : List ℕ → Bool) (c : List ℕ) : Type 0 where
  pub old : (b : List ℕ) → p b ≡ true → present iv b ≡ false
  pub new : present iv c ≡ false

-- a block that holds another number lacks this one
pub not_both : (v iv : List ℕ) → same v iv ≡ false → (b : List ℕ) → holds v b ≡ true → present iv b ≡ false
not_both v iv n b e = other_lacks iv b (rw (present_iv v b (holds_present v b e)) n)

module _ (v iv : List ℕ) (l : length v ≡ 16) (n : same v iv ≡ false) where
  pub store_apart : (key k : List ℕ) → length k ≡ 32 → Apart iv is_empty (held_block key v k)
  store_apart key k m =
      record { old = empty_lacks iv; new = other_lacks iv (held_block key v k) (rw (held_iv key v k l m) n) }

  pub erase_apart : Apart iv (holds v) (erased_block v)
  erase_apart = record { old = not_both v iv n; new = other_lacks iv (erased_block v) (rw (erased_iv v l) n) }

-- ---- what is looked up by a number

pub record Unchanged (iv s t : List ℕ) : Type 0 where
  pub well : well_kept t ≡ well_kept s
  pub present : any (present iv) (blocks t) ≡ any (present iv) (blocks s)
  pub held : any (holds iv) (blocks t) ≡ any (holds iv) (blocks s)
  pub block : found (holds iv) (blocks t) ≡ found (holds iv) (blocks s)

still : (iv s : List ℕ) → Unchanged iv s s
still iv s = record { well = refl; present = refl; held = refl; block = refl }

module _ {iv r s t : List ℕ} (u : Unchanged iv r s) (v : Unchanged iv s t) where
  along : Unchanged iv r t
  along = record { well = v.well ∙ u.well; present = v.present ∙ u.present; held = v.held ∙ u.held; block = v.block ∙ u.block }

module _ (iv : List ℕ) (p : List ℕ → Bool) (c s t : List ℕ) (a : Apart iv p c) (e : blocks t ≡ put_first p c (blocks s)) where
  pub leaves : well_kept t ≡ well_kept s → Unchanged iv s t
  leaves w =
      let n : (b : List ℕ) → p b ≡ true → holds iv b ≡ false = λ b f. unheld iv b (a.old b f) in
      let m : holds iv c ≡ false = unheld iv c a.new in
      record {
        well = w;
        present = ap (any (present iv)) e ∙ any_same p c (present iv) (λ b f. a.old b f ∙ sym a.new) (blocks s);
        held = ap (any (holds iv)) e ∙ any_same p c (holds iv) (λ b f. n b f ∙ sym m) (blocks s);
        block = ap (found (holds iv)) e ∙ found_same p c (holds iv) n m (blocks s);
      }

-- another number, from what is accepted of one and not of the other
pub other : (v iv : List ℕ) (f : List ℕ → Bool) (b : Bool) → f v ≡ b → (same v iv ≡ true → f iv ≡ not b) → same v iv ≡ false
other v iv f b e h = refuted (same v iv) (λ s. never b (sym e ∙ ap f (same_eq v iv s) ∙ h s))
  where
    never : (b : Bool) → b ≡ not b → ⊥
    never true q = true≢false q
    never false q = true≢false (sym q)

module _ (iv : List ℕ) where
  unchanged : (c : Call) (s : List ℕ) → (stores iv c ≡ true → any (present iv) (blocks s) ≡ true)
      → (erases iv c ≡ true → any (holds iv) (blocks s) ≡ false) → Unchanged iv s (left c s)
  unchanged (store key v k) s f g =
      store_cases key v k s (Unchanged iv s)
      (λ e.
      let r = storing key v k s e in
      let n : same v iv ≡ false = other v iv (λ x. any (present x) (blocks s)) false r.absent f in
      leaves iv is_empty (held_block key v k) s (left (store key v k) s) (store_apart v iv r.iv_long n key k r.stay_key_long) (stored_blocks key v k s e)
      (well_left (store key v k) s))
      (still iv s)
  unchanged (fetch key v) s f g = still iv s
  unchanged (erase v) s f g =
      erase_cases v s (Unchanged iv s)
      (λ e.
      let r = erasing v s e in
      let n : same v iv ≡ false = other v iv (λ x. any (holds x) (blocks s)) true r.there g in
      leaves iv (holds v) (erased_block v) s (left (erase v) s) (erase_apart v iv r.iv_long n) (gone_blocks v s e) (well_left (erase v) s))
      (still iv s)

  -- ---- lists of calls

  -- calls for other numbers
  not_named : (cs : List Call) (s : List ℕ) → never_names iv cs ≡ true → Unchanged iv s (after cs s)
  unfolding after never_names
  not_named [] s n = still iv s
  not_named (c ∷ cs) s n =
      let m = neither (stores iv c) (erases iv c) (not-true (stores iv c || erases iv c) (and_left (not (stores iv c || erases iv c)) (never_names iv cs) n)) in
      along (unchanged c s (λ e. absurd (true≢false (sym e ∙ m.0))) (λ e. absurd (true≢false (sym e ∙ m.1))))
      (not_named cs (left c s) (and_right (not (stores iv c || erases iv c)) (never_names iv cs) n))

  -- calls that do not erase a key that is held
  pub not_erased : (cs : List Call) (s : List ℕ) → any (holds iv) (blocks s) ≡ true → never_erases iv cs ≡ true → Unchanged iv s (after cs s)
  unfolding after never_erases
  not_erased [] s h n = still iv s
  not_erased (c ∷ cs) s h n =
      let m : erases iv c ≡ false = not-true (erases iv c) (and_left (not (erases iv c)) (never_erases iv cs) n) in
      let u = unchanged c s (λ e. held_present iv (blocks s) h) (λ e. absurd (true≢false (sym e ∙ m))) in
      along u (not_erased cs (left c s) (u.held ∙ h) (and_right (not (erases iv c)) (never_erases iv cs) n))

  -- all calls, where the number is present and its key erased
  pub not_held : (cs : List Call) (s : List ℕ) → any (present iv) (blocks s) ≡ true → any (holds iv) (blocks s) ≡ false → Unchanged iv s (after cs s)
  unfolding after
  not_held [] s p h = still iv s
  not_held (c ∷ cs) s p h =
      let u = unchanged c s (λ e. p) (λ e. h) in
      along u (not_held cs (left c s) (u.present ∙ p) (u.held ∙ h))

-- ---- fetches

pub same_fetch : (iv s t : List ℕ) → Unchanged iv s t → SameFetch iv t s
unfolding fetch_number fetch_key
same_fetch iv s t u = record { answer = λ key. rw (u.well, u.held, u.block); fetched = λ key. rw (u.well, u.held, u.block) }

pub others_stay : (iv : List ℕ) (cs : List Call) (s : List ℕ) → never_names iv cs ≡ true → SameFetch iv (after cs s) s
others_stay iv cs s n = same_fetch iv s (after cs s) (not_named iv cs s n)

pub erase_others : (iv v s : List ℕ) → ¬ (v ≡ iv) → SameFetch v (erase_after iv s) s
erase_others iv v s h =
    same_fetch v s (erase_after iv s)
    (unchanged v (erase iv) s (λ e. absurd (true≢false (sym e))) (λ e. absurd (h (sym (same_eq iv v e)))))
