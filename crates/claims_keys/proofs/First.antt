-- Blocks with another one in the place of the first of which a test holds: what tests of blocks, the first block of which another test holds, and a second
-- such change come to afterwards. Each law goes block by block, and by whether the test holds of it.
use mathlib.Core.Path.{◌≡◌, refl, sym, ap, ◌∙◌}
use mathlib.Core.Bool.{Bool, true, false, ◌||◌, true≢false, or-true}
use mathlib.Core.List.{List, [], ◌∷◌, ◌++◌, map}
use Prim.Native.Nat.{ℕ, zero, suc, ◌+◌, ◌<◌}
use native.Mathlib.Omega.{arith}
use lib.ListN.{length, get_or, take, drop}
use Rattle.scope.specs.Refusals.{pick}
use Rattle.words.proofs.Tests.{and_left, and_right, refuted}
use Rattle.fields.specs.Fields.{every}
use Rattle.key_store.specs.Store.{any, first, found}

-- ---- one test and another

module _ (q r : List ℕ → Bool) (h : (b : List ℕ) → q b ≡ true → r b ≡ true) where
  pub any_more : (bs : List (List ℕ)) → any q bs ≡ true → any r bs ≡ true
  unfolding any
  any_more [] e = e
  any_more (b ∷ bs) e = go (q b) refl e (any_more bs)
    where
      go : (t : Bool) → q b ≡ t → (t || any q bs) ≡ true → (any q bs ≡ true → any r bs ≡ true) → (r b || any r bs) ≡ true
      go true f e ih = rw (h b f)
      go false f e ih = rw (ih e) (or-true (r b))

  pub any_less : (bs : List (List ℕ)) → any r bs ≡ false → any q bs ≡ false
  any_less bs e = refuted (any q bs) (λ f. true≢false (sym (any_more bs f) ∙ e))

pub any_within : (q : List ℕ → Bool) (us : List (List ℕ)) (b : List ℕ) (vs : List (List ℕ)) → q b ≡ true → any q (us ++ b ∷ vs) ≡ true
unfolding any
any_within q [] b vs e = rw e
any_within q (u ∷ us) b vs e = rw (any_within q us b vs e) (or-true (q u))

-- ---- the first of which a test holds, and another in its place

unfoldable pub put_first : (List ℕ → Bool) → List ℕ → List (List ℕ) → List (List ℕ)
put_first p c [] = []
put_first p c (b ∷ bs) = pick (p b) (c ∷ bs) (b ∷ put_first p c bs)

module _ (p : List ℕ → Bool) where
  pub first_within : (bs : List (List ℕ)) → any p bs ≡ true → first p bs < length bs
  unfolding any first
  first_within [] e = absurd (true≢false (sym e))
  first_within (b ∷ bs) e = go (p b) e (first_within bs)
    where
      go : (t : Bool) → (t || any p bs) ≡ true → (any p bs ≡ true → first p bs < length bs) → pick t zero (suc (first p bs)) < suc (length bs)
      go true e ih = omega arith
      go false e ih = let h : first p bs < length bs = ih e in omega arith

  module _ (c : List ℕ) where
    pub put_first_is : (bs : List (List ℕ)) → any p bs ≡ true → take (first p bs) bs ++ c ∷ drop (first p bs + 1) bs ≡ put_first p c bs
    unfolding any first put_first
    put_first_is [] e = absurd (true≢false (sym e))
    put_first_is (b ∷ bs) e = go (p b) e (put_first_is bs)
      where
        go : (t : Bool) → (t || any p bs) ≡ true → (any p bs ≡ true → take (first p bs) bs ++ c ∷ drop (first p bs + 1) bs ≡ put_first p c bs)
            → take (pick t zero (suc (first p bs))) (b ∷ bs) ++ c ∷ drop (pick t zero (suc (first p bs)) + 1) (b ∷ bs) ≡ pick t (c ∷ bs) (b ∷ put_first p c bs)
        go true e ih = refl
        go false e ih =
            let f : suc (first p bs) + 1 ≡ suc (first p bs + 1) = omega arith in
            ap (λ (n : ℕ). b ∷ (take (first p bs) bs ++ c ∷ drop n (b ∷ bs))) f ∙ ap (λ (l : List (List ℕ)). b ∷ l) (ih e)

    module _ (q : List ℕ → Bool) where
      pub any_same : ((b : List ℕ) → p b ≡ true → q b ≡ q c) → (bs : List (List ℕ)) → any q (put_first p c bs) ≡ any q bs
      unfolding any put_first
      any_same h [] = refl
      any_same h (b ∷ bs) = go (p b) refl (any_same h bs)
        where
          go : (t : Bool) → p b ≡ t → any q (put_first p c bs) ≡ any q bs → any q (pick t (c ∷ bs) (b ∷ put_first p c bs)) ≡ (q b || any q bs)
          go true e ih = ap (λ (x : Bool). x || any q bs) (sym (h b e))
          go false e ih = ap (λ (x : Bool). q b || x) ih

      pub any_kept : ((b : List ℕ) → p b ≡ true → q b ≡ false) → (bs : List (List ℕ)) → any q bs ≡ true → any q (put_first p c bs) ≡ true
      unfolding any put_first
      any_kept h [] e = e
      any_kept h (b ∷ bs) e = go (p b) refl (q b) refl e (any_kept h bs)
        where
          go : (t : Bool) → p b ≡ t → (u : Bool) → q b ≡ u → (u || any q bs) ≡ true → (any q bs ≡ true → any q (put_first p c bs) ≡ true)
              → any q (pick t (c ∷ bs) (b ∷ put_first p c bs)) ≡ true
          go true f true g e ih = absurd (true≢false (sym g ∙ h b f))
          go true f false g e ih = rw e (or-true (q c))
          go false f true g e ih = rw g
          go false f false g e ih = rw (ih e) (or-true (q b))

      pub any_new : q c ≡ true → (bs : List (List ℕ)) → any p bs ≡ true → any q (put_first p c bs) ≡ true
      unfolding any put_first
      any_new h [] e = absurd (true≢false (sym e))
      any_new h (b ∷ bs) e = go (p b) e (any_new h bs)
        where
          go : (t : Bool) → (t || any p bs) ≡ true → (any p bs ≡ true → any q (put_first p c bs) ≡ true)
              → any q (pick t (c ∷ bs) (b ∷ put_first p c bs)) ≡ true
          go true e ih = rw h
          go false e ih = rw (ih e) (or-true (q b))

      -- the first of which another test holds, where it holds of neither the old block nor the new one
      pub found_same : ((b : List ℕ) → p b ≡ true → q b ≡ false) → q c ≡ false → (bs : List (List ℕ)) → found q (put_first p c bs) ≡ found q bs
      unfolding first put_first
      found_same h k [] = refl
      found_same h k (b ∷ bs) = go (p b) refl (q b) refl (found_same h k bs)
        where
          go : (t : Bool) → p b ≡ t → (u : Bool) → q b ≡ u → found q (put_first p c bs) ≡ found q bs
              → found q (pick t (c ∷ bs) (b ∷ put_first p c bs)) ≡ get_or (b ∷ bs) (pick u zero (suc (first q bs))) []
          go true f true g ih = absurd (true≢false (sym g ∙ h b f))
          go true f false g ih = rw k
          go false f true g ih = rw g
          go false f false g ih = rw g ih

      -- and where it held of none, and holds of the new one
      pub found_new : q c ≡ true → (bs : List (List ℕ)) → any p bs ≡ true → any q bs ≡ false → found q (put_first p c bs) ≡ c
      unfolding any first put_first
      found_new k [] e n = absurd (true≢false (sym e))
      found_new k (b ∷ bs) e n = go (p b) e (q b) refl n (found_new k bs)
        where
          go : (t : Bool) → (t || any p bs) ≡ true → (u : Bool) → q b ≡ u → (u || any q bs) ≡ false
              → (any p bs ≡ true → any q bs ≡ false → found q (put_first p c bs) ≡ c) → found q (pick t (c ∷ bs) (b ∷ put_first p c bs)) ≡ c
          go true e u g n ih = rw k
          go false e true g n ih = absurd (true≢false n)
          go false e false g n ih = rw g (ih e n)

      pub every_kept : q c ≡ true → (bs : List (List ℕ)) → every (map q bs) ≡ true → every (map q (put_first p c bs)) ≡ true
      unfolding every put_first
      every_kept k [] e = e
      every_kept k (b ∷ bs) e =
          go (p b) (and_left (q b) (every (map q bs)) e) (and_right (q b) (every (map q bs)) e) (every_kept k bs)
        where
          go : (t : Bool) → q b ≡ true → every (map q bs) ≡ true → (every (map q bs) ≡ true → every (map q (put_first p c bs)) ≡ true)
              → every (map q (pick t (c ∷ bs) (b ∷ put_first p c bs))) ≡ true
          go true f e ih = rw k e
          go false f e ih = rw f (ih e)

      -- two changes, of which neither is at the other's block, in either order
      pub put_put : (d : List ℕ) → ((b : List ℕ) → p b ≡ true → q b ≡ false) → q c ≡ false → p d ≡ false → (bs : List (List ℕ))
          → put_first q d (put_first p c bs) ≡ put_first p c (put_first q d bs)
      unfolding put_first
      put_put d h k l [] = refl
      put_put d h k l (b ∷ bs) = go (p b) refl (q b) refl (put_put d h k l bs)
        where
          go : (t : Bool) → p b ≡ t → (u : Bool) → q b ≡ u → put_first q d (put_first p c bs) ≡ put_first p c (put_first q d bs)
              → put_first q d (pick t (c ∷ bs) (b ∷ put_first p c bs)) ≡ put_first p c (pick u (d ∷ bs) (b ∷ put_first q d bs))
          go true f true g ih = absurd (true≢false (sym g ∙ h b f))
          go true f false g ih = rw (k, f)
          go false f true g ih = rw (g, l)
          go false f false g ih = rw (f, g) (ap (λ (x : List (List ℕ)). b ∷ x) ih)
