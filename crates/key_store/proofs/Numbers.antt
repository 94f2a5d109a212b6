-- The number of each call by what it finds, in the order of its refusals, and what a refused one leaves. What the survey says of places is what the definitions
-- ask of blocks.
use Rattle.std.proofs.Common.{◌≡◌, ℕ, ◌+◌, ◌*◌, ◌/◌, ◌≤◌, ◌<◌, Bool, true, false, eqb, List, [], ◌++◌, map, length, get_or, take, drop, Option, Some, None, is_some, Result, Ok, Err, refl, sym, ap, ap₂, ◌∙◌, append_assoc, arith, eq-eqb, ne_eqb, drop-drop}
use Rattle.std.specs.Bool.{then_some}
use borrow.Rule.Slice.PartMut.{put_mid}
use Rattle.scope.specs.declared.Refusal.{Refusal}
use Rattle.scope.specs.declared.Refusal.TheVariants.{KeyLength, IvLength, BadBlock, NoKey}
use Rattle.scope.specs.Machine.{refusal_number, answer_number}
use Rattle.scope.proofs.Refused.{refused}
use Rattle.words.specs.Bytes.{same, part}
use Rattle.words.proofs.Tests.{and_left, and_right, same_eq}
use Rattle.fields.specs.Fields.{every}
use Rattle.fields.proofs.Every.{every_in}
use Rattle.fields.specs.Blocks.{blocks, whole, replaced}
use Rattle.fields.proofs.Blocks.{cut_long, cut_at}
use Rattle.page.specs.Page.{cipher_of}
use Rattle.key_store.specs.Layout.{mark_of, iv_of, sealed_in, well_laid, held_block, erased_block}
use Rattle.key_store.specs.Store.{is_empty, present, holds, any, first, well_kept}
use Rattle.key_store.specs.Calls.{store_number, store_after, block_for, fetch_number, fetch_key, erase_number, erase_after}
use Rattle.key_store.specs.Machine.{key_of}
use Rattle.key_store.specs.Inner.{place, Surveyed, open_number, Opens}
use Rattle.key_store.specs.declared.Seen.{Seen}
use Rattle.key_store.proofs.Surveying.{first_inside, found_holds}

-- ---- what the survey says

blocks_long : (s : List ℕ) → length (blocks s) ≡ length s / 512
unfolding blocks
blocks_long s = cut_long (length s / 512) s

module _ (p : List ℕ → Bool) (s : List ℕ) (o : Option ℕ) (e : o ≡ place p (blocks s)) where
  any_is : is_some o ≡ any p (blocks s)
  any_is = ap is_some e ∙ go (any p (blocks s))
    where
      go : (c : Bool) → is_some (then_some c (first p (blocks s))) ≡ c
      go true = refl
      go false = refl

  absent : o ≡ None → any p (blocks s) ≡ false
  absent h = sym any_is ∙ ap is_some h

  module _ (n : ℕ) (h : o ≡ Some n) where
    there : any p (blocks s) ≡ true
    there = sym any_is ∙ ap is_some h

    first_is : n ≡ first p (blocks s)
    first_is = go (any p (blocks s)) (sym h ∙ e)
      where
        go : (c : Bool) → Some n ≡ then_some c (first p (blocks s)) → n ≡ first p (blocks s)
        go true q = cc
        go false q = cc

    inside : n < length s / 512
    inside = omega (arith, first_inside p (blocks s) there, first_is, blocks_long s)

    -- the block at that place
    block_at : part (512 * n) 512 s ≡ get_or (blocks s) (first p (blocks s)) []
    unfolding blocks
    block_at = sym (cut_at (length s / 512) n s inside) ∙ ap (λ (k : ℕ). get_or (blocks s) k []) first_is

module _ (iv s : List ℕ) (r : Seen) (g : Surveyed iv (whole s) (blocks s) r) where
  kept_is : r.sound ≡ well_kept s
  unfolding well_kept
  kept_is = g.sound

  broken : r.sound ≡ false → well_kept s ≡ false
  broken e = sym kept_is ∙ e

  sound : r.sound ≡ true → well_kept s ≡ true
  sound e = sym kept_is ∙ e

  -- every block obeys the rules
  pub laid_there : r.sound ≡ true → (n : ℕ) → n < length s / 512 → well_laid (part (512 * n) 512 s) ≡ true
  unfolding well_kept blocks
  laid_there e n h =
      let k = and_left (every (map well_laid (blocks s))) _ (and_right (whole s) _ (sound e)) in
      ap well_laid (sym (cut_at (length s / 512) n s h)) ∙ every_in well_laid (blocks s) k n (omega (arith, blocks_long s))

  -- and the block that holds the key lies inside
  pub held_inside : (n : ℕ) → r.holding ≡ Some n → 512 * n + 512 ≤ length s
  held_inside n f = let h = inside (holds iv) s r.holding g.holding n f in omega arith

  pub held_laid : r.sound ≡ true → (n : ℕ) → r.holding ≡ Some n → well_laid (part (512 * n) 512 s) ≡ true
  held_laid e n f = laid_there e n (inside (holds iv) s r.holding g.holding n f)

  pub empty_inside : (n : ℕ) → r.empty ≡ Some n → 512 * n + 512 ≤ length s
  empty_inside n f = let h = inside is_empty s r.empty g.empty n f in omega arith

-- ---- store

module _ (key iv k s : List ℕ) where
  abbrev Stored : ℕ → List ℕ → Type 0
  Stored m t = (m ≡ store_number key iv k s) × (t ≡ store_after key iv k s)

  store_kept : {m : ℕ} → m ≡ store_number key iv k s → ¬ (m ≡ 0) → Stored m s
  unfolding store_after
  store_kept e h = (e, rw (ne_eqb (store_number key iv k s) 0 (λ z. h (e ∙ z))))

  pub store_key : ¬ (length key ≡ 32) → Stored 1 s
  unfolding store_number
  store_key h = store_kept (rw (ne_eqb (length key) 32 h)) (λ z. omega arith)

  module _ (a : length key ≡ 32) where
    pub store_stay_key : ¬ (length k ≡ 32) → Stored 1 s
    unfolding store_number
    store_stay_key h = store_kept (rw (eq-eqb (length key) 32 a, ne_eqb (length k) 32 h)) (λ z. omega arith)

    module _ (b : length k ≡ 32) where
      pub store_iv : ¬ (length iv ≡ 16) → Stored 2 s
      unfolding store_number
      store_iv h = store_kept (rw (eq-eqb (length key) 32 a, eq-eqb (length k) 32 b, ne_eqb (length iv) 16 h)) (λ z. omega arith)

      module _ (c : length iv ≡ 16) (r : Seen) (g : Surveyed iv (whole s) (blocks s) r) where
        pub store_broken : r.sound ≡ false → Stored 8 s
        unfolding store_number
        store_broken h =
            store_kept (rw (eq-eqb (length key) 32 a, eq-eqb (length k) 32 b, eq-eqb (length iv) 16 c, broken iv s r g h)) (λ z. omega arith)

        module _ (d : r.sound ≡ true) where
          pub store_there : is_some r.present ≡ true → Stored 16 s
          unfolding store_number
          store_there h =
              store_kept
              (rw (
                eq-eqb (length key) 32 a,
                eq-eqb (length k) 32 b,
                eq-eqb (length iv) 16 c,
                sound iv s r g d,
                sym (any_is (present iv) s r.present g.present) ∙ h,
              ))
              (λ z. omega arith)

          module _ (e : is_some r.present ≡ false) where
            pub store_full : r.empty ≡ None → Stored 4 s
            unfolding store_number
            store_full h =
                store_kept
                (rw (
                  eq-eqb (length key) 32 a,
                  eq-eqb (length k) 32 b,
                  eq-eqb (length iv) 16 c,
                  sound iv s r g d,
                  sym (any_is (present iv) s r.present g.present) ∙ e,
                  absent is_empty s r.empty g.empty h,
                ))
                (λ z. omega arith)

            module _ (n : ℕ) (f : r.empty ≡ Some n) where
              stored : store_number key iv k s ≡ 0
              unfolding store_number
              stored =
                  rw (
                    eq-eqb (length key) 32 a,
                    eq-eqb (length k) 32 b,
                    eq-eqb (length iv) 16 c,
                    sound iv s r g d,
                    sym (any_is (present iv) s r.present g.present) ∙ e,
                    there is_empty s r.empty g.empty n f,
                  )

              pub store_placed : {t : List ℕ} → t ≡ replaced n (held_block key iv k) s → Stored 0 t
              unfolding store_after
              store_placed h =
                  (sym stored, h ∙ ap (λ (i : ℕ). replaced i (held_block key iv k) s) (first_is is_empty s r.empty g.empty n f) ∙ rw stored)

-- ---- erase

module _ (iv s : List ℕ) where
  abbrev Erased : ℕ → List ℕ → Type 0
  Erased m t = (m ≡ erase_number iv s) × (t ≡ erase_after iv s)

  erase_kept : {m : ℕ} → m ≡ erase_number iv s → ¬ (m ≡ 0) → Erased m s
  unfolding erase_after
  erase_kept e h = (e, rw (ne_eqb (erase_number iv s) 0 (λ z. h (e ∙ z))))

  pub erase_iv : ¬ (length iv ≡ 16) → Erased 2 s
  unfolding erase_number
  erase_iv h = erase_kept (rw (ne_eqb (length iv) 16 h)) (λ z. omega arith)

  module _ (c : length iv ≡ 16) (r : Seen) (g : Surveyed iv (whole s) (blocks s) r) where
    pub erase_broken : r.sound ≡ false → Erased 8 s
    unfolding erase_number
    erase_broken h = erase_kept (rw (eq-eqb (length iv) 16 c, broken iv s r g h)) (λ z. omega arith)

    module _ (d : r.sound ≡ true) where
      pub erase_none : r.holding ≡ None → Erased 17 s
      unfolding erase_number
      erase_none h =
          erase_kept (rw (eq-eqb (length iv) 16 c, sound iv s r g d, absent (holds iv) s r.holding g.holding h)) (λ z. omega arith)

      module _ (n : ℕ) (f : r.holding ≡ Some n) where
        erased : erase_number iv s ≡ 0
        unfolding erase_number
        erased = rw (eq-eqb (length iv) 16 c, sound iv s r g d, there (holds iv) s r.holding g.holding n f)

        -- the block found there, erased where it stands
        pub erase_placed : {b : List ℕ} {k : ℕ} → k ≡ 512 → b ≡ erased_block (iv_of (take k (drop (512 * n) s)))
            → Erased 0 (put_mid (512 * n) k s b)
        unfolding erase_after replaced
        erase_placed {b} {k} ek e =
            let o = there (holds iv) s r.holding g.holding n f in
            let v : iv_of (take k (drop (512 * n) s)) ≡ iv =
            ap (λ (m : ℕ). iv_of (take m (drop (512 * n) s))) ek
            ∙ ap iv_of (block_at (holds iv) s r.holding g.holding n f)
            ∙ same_eq (iv_of (block_for iv s)) iv
            (and_right (eqb (mark_of (block_for iv s)) 1) (same (iv_of (block_for iv s)) iv) (found_holds (holds iv) (blocks s) o)) in
            let p : put_mid (512 * n) k s b ≡ take (512 * n) s ++ erased_block iv ++ drop (512 * n + 512) s =
            ap₂ (λ (m : ℕ) (l : List ℕ). put_mid (512 * n) m s l) ek (e ∙ ap erased_block v) ∙ middle (512 * n) 512 s (erased_block iv) in (
              sym erased,
              p
                  ∙ ap (λ (i : ℕ). take (512 * i) s ++ erased_block iv ++ drop (512 * i + 512) s) (first_is (holds iv) s r.holding g.holding n f)
                  ∙ rw erased,
            )
          where
            middle : (a k : ℕ) (s b : List ℕ) → put_mid a k s b ≡ take a s ++ b ++ drop (a + k) s
            middle a k s b = ap (λ (l : List ℕ). take a s ++ (b ++ l)) (drop-drop k a s) ∙ sym (append_assoc (take a s) b (drop (a + k) s))

-- ---- fetch

module _ (key iv s : List ℕ) where
  abbrev Fetched : Result (List ℕ) Refusal → Type 0
  Fetched o = (answer_number o ≡ fetch_number key iv s) × (key_of o ≡ fetch_key key iv s)

  fetch_none : (e : Refusal) → refusal_number e ≡ fetch_number key iv s → Fetched (Err e)
  unfolding fetch_key
  fetch_none e h = (h, rw (ne_eqb (fetch_number key iv s) 0 (λ z. refused e (h ∙ z))))

  pub fetch_key_length : ¬ (length key ≡ 32) → Fetched (Err KeyLength)
  unfolding fetch_number
  fetch_key_length h = fetch_none KeyLength (rw (ne_eqb (length key) 32 h))

  module _ (a : length key ≡ 32) where
    pub fetch_iv : ¬ (length iv ≡ 16) → Fetched (Err IvLength)
    unfolding fetch_number
    fetch_iv h = fetch_none IvLength (rw (eq-eqb (length key) 32 a, ne_eqb (length iv) 16 h))

    module _ (c : length iv ≡ 16) (r : Seen) (g : Surveyed iv (whole s) (blocks s) r) where
      pub fetch_broken : r.sound ≡ false → Fetched (Err BadBlock)
      unfolding fetch_number
      fetch_broken h = fetch_none BadBlock (rw (eq-eqb (length key) 32 a, eq-eqb (length iv) 16 c, broken iv s r g h))

      module _ (d : r.sound ≡ true) where
        pub fetch_absent : r.holding ≡ None → Fetched (Err NoKey)
        unfolding fetch_number
        fetch_absent h =
            fetch_none NoKey
            (rw (eq-eqb (length key) 32 a, eq-eqb (length iv) 16 c, sound iv s r g d, absent (holds iv) s r.holding g.holding h))

        module _ (n : ℕ) (f : r.holding ≡ Some n) where
          by_tag : open_number key iv (block_for iv s) ≡ fetch_number key iv s
          unfolding fetch_number
          by_tag = rw (eq-eqb (length key) 32 a, eq-eqb (length iv) 16 c, sound iv s r g d, there (holds iv) s r.holding g.holding n f)

          pub fetch_opened : {b : List ℕ} → b ≡ part (512 * n) 512 s → (o : Result (List ℕ) Refusal) → Opens key iv b o → Fetched o
          unfolding fetch_key
          fetch_opened e (Err x) h =
              fetch_none x (h ∙ ap (open_number key iv) (e ∙ block_at (holds iv) s r.holding g.holding n f) ∙ by_tag)
          fetch_opened e (Ok k) h =
              let w = e ∙ block_at (holds iv) s r.holding g.holding n f in
              let z = h.0 ∙ ap (open_number key iv) w ∙ by_tag in
              (z, h.1 ∙ ap (λ (l : List ℕ). cipher_of key iv (sealed_in l)) w ∙ rw (sym z))
