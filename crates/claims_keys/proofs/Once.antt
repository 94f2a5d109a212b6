-- No number twice: a block with a number that none has, in the place of an empty one, leaves it so, and so does a block with the number of the one in whose
-- place it is put. And where no number is there twice, the block that holds one is the only one with it.
use mathlib.Core.Path.{◌≡◌, refl, sym, ap, ◌∙◌}
use mathlib.Core.Bool.{Bool, true, false, not, ◌&&◌, ◌||◌, true≢false}
use mathlib.Core.List.{List, [], ◌∷◌, ◌++◌}
use Prim.Native.Nat.{ℕ, suc}
use borrow.Author.Tests.{not-true}
use lib.ListN.{length}
use Rattle.scope.specs.Refusals.{pick}
use Rattle.words.specs.Bytes.{same}
use Rattle.words.proofs.Tests.{and_left, and_right, neither, same_refl, refuted}
use Rattle.key_store.specs.Layout.{iv_of}
use Rattle.key_store.specs.Store.{is_empty, present, holds, any, first, once}
use Rattle.claims_keys.proofs.First.{any_within, put_first, any_same}
use Rattle.claims_keys.proofs.Blocks.{present_iv, present_full, holds_present, empty_lacks, absent_unheld}

module _ (b : List ℕ) (bs : List (List ℕ)) (o : once (b ∷ bs) ≡ true) where
  -- those behind a block
  later : once bs ≡ true
  unfolding once
  later = and_right (is_empty b || not (any (present (iv_of b)) bs)) (once bs) o

  -- and they lack its number
  behind : is_empty b ≡ false → any (present (iv_of b)) bs ≡ false
  unfolding once
  behind f = not-true (any (present (iv_of b)) bs) (rw f at (and_left (is_empty b || not (any (present (iv_of b)) bs)) (once bs) o))

-- ---- blocks put in

module _ (c : List ℕ) (full : is_empty c ≡ false) where
  -- a new number
  pub once_new : (bs : List (List ℕ)) → any (present (iv_of c)) bs ≡ false → once bs ≡ true → once (put_first is_empty c bs) ≡ true
  unfolding any once put_first
  once_new [] n o = o
  once_new (b ∷ bs) n o =
      let m = neither (present (iv_of c) b) (any (present (iv_of c)) bs) n in
      go (is_empty b) refl m.0 m.1 (once_new bs m.1 (later b bs o))
    where
      go : (t : Bool) → is_empty b ≡ t → present (iv_of c) b ≡ false → any (present (iv_of c)) bs ≡ false → once (put_first is_empty c bs) ≡ true
          → once (pick t (c ∷ bs) (b ∷ put_first is_empty c bs)) ≡ true
      go true e m l ih = rw (full, l) (later b bs o)
      go false e m l ih =
          let two : present (iv_of b) c ≡ false =
          refuted (present (iv_of b) c)
          (λ h. let s : same (iv_of b) (iv_of c) ≡ true = rw (present_iv (iv_of b) c h) (same_refl (iv_of b)) in true≢false (sym s ∙ rw e at m)) in
          let none : any (present (iv_of b)) (put_first is_empty c bs) ≡ false =
          any_same is_empty c (present (iv_of b)) (λ x f. empty_lacks (iv_of b) x f ∙ sym two) bs ∙ behind b bs o e in
          rw (e, none) ih

  -- the number of the block that stood there
  pub once_again : (p : List ℕ → Bool) → ((b : List ℕ) → p b ≡ true → (is_empty b ≡ false) × (iv_of b ≡ iv_of c)) → (bs : List (List ℕ))
      → once (put_first p c bs) ≡ once bs
  unfolding once put_first
  once_again p h [] = refl
  once_again p h (b ∷ bs) = go (p b) refl (once_again p h bs)
    where
      alike : (v x : List ℕ) → p x ≡ true → present v x ≡ present v c
      alike v x e = rw ((h x e).0, (h x e).1, full)

      go : (t : Bool) → p b ≡ t → once (put_first p c bs) ≡ once bs
          → once (pick t (c ∷ bs) (b ∷ put_first p c bs)) ≡ ((is_empty b || not (any (present (iv_of b)) bs)) && once bs)
      go true e ih = rw ((h b e).0, (h b e).1, full)
      go false e ih = rw (any_same p c (present (iv_of b)) (alike (iv_of b)) bs, ih)

-- ---- the block that holds a number

module _ (iv : List ℕ) where
  -- no other one has it
  only : (b : List ℕ) (bs : List (List ℕ)) → once (b ∷ bs) ≡ true → holds iv b ≡ true → any (present iv) bs ≡ false
  only b bs o e =
      let t : present iv b ≡ true = holds_present iv b e in
      rw (present_iv iv b t) at (behind b bs o (present_full iv b t))

  -- so that with another block in its place none holds it,
  pub none_holds : (c : List ℕ) → holds iv c ≡ false → (bs : List (List ℕ)) → once bs ≡ true → any (holds iv) (put_first (holds iv) c bs) ≡ false
  unfolding any put_first
  none_holds c n [] o = refl
  none_holds c n (b ∷ bs) o = go (holds iv b) refl (none_holds c n bs (later b bs o))
    where
      go : (t : Bool) → holds iv b ≡ t → any (holds iv) (put_first (holds iv) c bs) ≡ false
          → any (holds iv) (pick t (c ∷ bs) (b ∷ put_first (holds iv) c bs)) ≡ false
      go true e ih = rw (n, absent_unheld iv bs (only b bs o e))
      go false e ih = rw (e, ih)

  -- and it is the first that does
  pub first_at : (us : List (List ℕ)) (b : List ℕ) (vs : List (List ℕ)) → once (us ++ b ∷ vs) ≡ true → holds iv b ≡ true
      → first (holds iv) (us ++ b ∷ vs) ≡ length us
  unfolding first
  first_at [] b vs o e = rw e
  first_at (u ∷ us) b vs o e =
      let n : holds iv u ≡ false =
      refuted (holds iv u) (λ h. true≢false (sym (any_within (present iv) us b vs (holds_present iv b e)) ∙ only u (us ++ b ∷ vs) o h)) in
      rw n (ap suc (first_at us b vs (later u (us ++ b ∷ vs) o) e))
