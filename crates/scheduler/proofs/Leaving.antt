-- What the calls write is the scheduler that they give, over what stood there: behind the head stand the places of its stays, and behind these what stood behind the stays before, with
-- zeros where a place was left.
use mathlib.Core.Path.{◌≡◌, sym, ap, ap₂, ◌∙◌}
use mathlib.Core.List.{List, [], ◌∷◌, ◌++◌, append_assoc, append-nil}
use mathlib.Core.Bool.{true}
use Prim.Native.Nat.{ℕ, suc, ◌+◌, ◌-◌, ◌*◌, ◌≤◌, ◌<◌}
use native.Mathlib.Omega.{arith}
use lib.ListN.{length, take, drop, replicate, length-append, length-drop, length-replicate, replicate-append-replicate, take-append-drop}
use lib.Seq.{sets, sets-eq, drop_at, take-add, drop-drop, length-take-le}
use Rattle.words.specs.Bytes.{part}
use Rattle.words.proofs.Rows.{Below, below_drop}
use Rattle.words.proofs.Parts.{part_long}
use Rattle.words.proofs.Writing.{put_front, put_next}
use Rattle.scheduler.specs.Scheduler.{Stay}
use Rattle.scheduler.specs.Calls.{put}
use Rattle.scheduler.specs.Bytes.{stay_bytes, places, head, in_use, stays_in, how_many, scheduler_in, zeroed, cleared, over, Leaves}
use Rattle.scheduler.specs.Inner.{removed}
use Rattle.scheduler.proofs.Places.{FitStay, stay_long, AllFit, all_append, all_take, all_drop, places_append, stays_long, stays_take, stays_drop, all_fit, places_again}
use Rattle.scheduler.proofs.Listing.{FitScheduler, head_long, lists, in_use_long}

-- ---- what is written behind the head, as places

-- from byte 16 on, with v written
behind_head : (b v : List ℕ) (k : ℕ) → 16 + k + length v ≤ length b → drop 16 (sets b (16 + k) v) ≡ take k (drop 16 b) ++ (v ++ drop (k + length v) (drop 16 b))
behind_head b v k h =
    let e : take (16 + k) b ≡ take 16 b ++ take k (drop 16 b) = take-add 16 k b in
    let q = sym (drop-drop (k + length v) 16 b) in
    let n : 16 + k + length v ≡ 16 + (k + length v) = omega arith in
    ap (drop 16) (sets-eq v b (16 + k) h ∙ append_assoc (take (16 + k) b) v (drop (16 + k + length v) b))
    ∙ ap₂ (λ (x : List ℕ) (m : ℕ). drop 16 (x ++ (v ++ drop m b))) e n
    ∙ ap (λ (x : List ℕ). drop 16 ((take 16 b ++ take k (drop 16 b)) ++ (v ++ x))) q
    ∙ ap (drop 16) (append_assoc (take 16 b) (take k (drop 16 b)) (v ++ drop (k + length v) (drop 16 b)))
    ∙ drop_at (take 16 b) (take k (drop 16 b) ++ (v ++ drop (k + length v) (drop 16 b))) 16 (length-take-le 16 b (omega arith))

-- what stood behind the head, the places in use zero
abbrev pub behind : List ℕ → List ℕ
behind b = replicate (256 * how_many b) 0 ++ drop (256 * how_many b) (drop 16 b)

module _ (b : List ℕ) (w : Below 256 b) (long : length b ≡ 8208) where
  pub few : how_many b ≤ 32
  unfolding how_many
  few = omega arith

  room : 256 * how_many b ≤ length (drop 16 b)
  room = let f = few in omega (arith, length-drop 16 b)

  cleared_behind : drop 16 (cleared b) ≡ behind b
  unfolding zeroed
  cleared_behind =
      let k = 256 * how_many b in
      ap (λ (r : List ℕ). drop 16 (r ++ drop (16 + k) b)) (sym (replicate-append-replicate {A = ℕ} 16 k 0))
      ∙ ap (drop 16) (append_assoc (replicate 16 0) (replicate k 0) (drop (16 + k) b))
      ∙ drop_at (replicate 16 0) (replicate k 0 ++ drop (16 + k) b) 16 (length-replicate {A = ℕ} 16 0)
      ∙ ap (λ (r : List ℕ). replicate k 0 ++ r) (sym (drop-drop k 16 b))

  -- b' with the head written, where behind it the places of l' stand, and then what was behind the stays before
  module _ (b' : List ℕ) (t : ℕ) (l' : List Stay) (long' : length b' ≡ 8208) (f : FitScheduler (record { turns = t; stays = l' }))
      (e : drop 16 b' ≡ places l' ++ drop (256 * length l') (behind b)) where
    with_head : sets b' 0 (head t (length l')) ≡ over (record { turns = t; stays = l' }) b
    unfolding over in_use
    with_head =
        let h = head t (length l') in
        let m = in_use_long (record { turns = t; stays = l' }) f in
        put_front b' h 16 (head_long t (length l')) (omega arith)
        ∙ ap (λ (r : List ℕ). h ++ r) e
        ∙ sym (append_assoc h (places l') (drop (256 * length l') (behind b)))
        ∙ ap (λ (r : List ℕ). (h ++ places l') ++ drop (256 * length l') r) (sym cleared_behind)
        ∙ ap (λ (r : List ℕ). (h ++ places l') ++ r) (drop-drop (256 * length l') 16 (cleared b) ∙ ap (λ (k : ℕ). drop k (cleared b)) (sym m))

    pub leaves : {c : List ℕ} → c ≡ sets b' 0 (head t (length l')) → Leaves true (record { turns = t; stays = l' }) b c
    unfolding over
    leaves {c} p =
        let q = p ∙ with_head in
        record { bytes = q; lists = ap scheduler_in q ∙ lists (record { turns = t; stays = l' }) f (drop (length (in_use (record { turns = t; stays = l' }))) (cleared b)) }

  all : AllFit (stays_in (how_many b) (drop 16 b))
  all = all_fit (how_many b) (drop 16 b) (below_drop 256 16 b w) room

  -- ---- a stay more

  module _ (x : Stay) (f : FitStay x) (h : how_many b < 32) where
    pub joined_fit : AllFit (stays_in (how_many b) (drop 16 b) ++ (x ∷ []))
    joined_fit = all_append (stays_in (how_many b) (drop 16 b)) (x ∷ []) all (f, tt)

    pub joined_long : length (stays_in (how_many b) (drop 16 b) ++ (x ∷ [])) ≡ how_many b + 1
    joined_long = length-append (stays_in (how_many b) (drop 16 b)) (x ∷ []) ∙ ap (λ (k : ℕ). k + 1) (stays_long (how_many b) (drop 16 b))

    pub joined : drop 16 (sets b (16 + 256 * how_many b) (stay_bytes x))
        ≡ places (stays_in (how_many b) (drop 16 b) ++ (x ∷ [])) ++ drop (256 * length (stays_in (how_many b) (drop 16 b) ++ (x ∷ []))) (behind b)
    unfolding places
    joined =
        let k = 256 * how_many b in
        let l = stays_in (how_many b) (drop 16 b) in
        let m : 256 * length (l ++ (x ∷ [])) ≡ k + 256 = omega (arith, joined_long) in
        let s = stay_long x f in
        let r : drop (k + 256) (replicate k 0 ++ drop k (drop 16 b)) ≡ drop (k + 256) (drop 16 b) =
        sym (drop-drop 256 k (replicate k 0 ++ drop k (drop 16 b)))
        ∙ ap (drop 256) (drop_at (replicate k 0) (drop k (drop 16 b)) k (length-replicate {A = ℕ} k 0)) ∙ drop-drop 256 k (drop 16 b) in
        behind_head b (stay_bytes x) k (omega (arith, s))
        ∙ ap₂ (λ (p : List ℕ) (j : ℕ). p ++ (stay_bytes x ++ drop (k + j) (drop 16 b))) (sym (places_again (how_many b) (drop 16 b) (below_drop 256 16 b w) room)) s
        ∙ ap (λ (q : List ℕ). places l ++ (stay_bytes x ++ q)) (sym r ∙ ap (λ (j : ℕ). drop j (replicate k 0 ++ drop k (drop 16 b))) (sym m))
        ∙ sym (append_assoc (places l) (stay_bytes x) (drop (256 * length (l ++ (x ∷ []))) (replicate k 0 ++ drop k (drop 16 b))))
        ∙ ap (λ (q : List ℕ). q ++ drop (256 * length (l ++ (x ∷ []))) (replicate k 0 ++ drop k (drop 16 b)))
        (ap (λ (q : List ℕ). places l ++ q) (sym (append-nil (stay_bytes x))) ∙ sym (places_append l (x ∷ [])))

  -- ---- others in the place of one

  module _ (i : ℕ) (h : i < how_many b) where
    put_places : (new : List Stay) → places (put (stays_in (how_many b) (drop 16 b)) i new)
        ≡ take (256 * i) (drop 16 b) ++ (places new ++ take (256 * (how_many b - suc i)) (drop (256 * suc i) (drop 16 b)))
    unfolding put
    put_places new =
        let l = stays_in (how_many b) (drop 16 b) in
        let j = how_many b - suc i in
        let s : suc i + j ≡ how_many b = omega arith in
        let f = few in
        let back : drop (suc i) l ≡ stays_in j (drop (256 * suc i) (drop 16 b)) =
        ap (λ (k : ℕ). drop (suc i) (stays_in k (drop 16 b))) (sym s) ∙ stays_drop (suc i) j (drop 16 b) in
        places_append (take i l) (new ++ drop (suc i) l)
        ∙ ap₂ (λ (p q : List ℕ). p ++ q)
        (ap places (stays_take i (how_many b) (drop 16 b) (omega arith)) ∙ places_again i (drop 16 b) (below_drop 256 16 b w) (omega (arith, room)))
        (places_append new (drop (suc i) l)
        ∙ ap (λ (q : List ℕ). places new ++ q)
        (ap places back
        ∙ places_again j (drop (256 * suc i) (drop 16 b)) (below_drop 256 (256 * suc i) (drop 16 b) (below_drop 256 16 b w)) (omega (arith, length-drop (256 * suc i) (drop 16 b), room))))

    pub put_fit : (new : List Stay) → AllFit new → AllFit (put (stays_in (how_many b) (drop 16 b)) i new)
    unfolding put
    put_fit new f =
        let l = stays_in (how_many b) (drop 16 b) in
        all_append (take i l) (new ++ drop (suc i) l) (all_take i l all) (all_append new (drop (suc i) l) f (all_drop (suc i) l all))

    pub put_long : (new : List Stay) → length (put (stays_in (how_many b) (drop 16 b)) i new) ≡ i + length new + (how_many b - suc i)
    unfolding put
    put_long new =
        let l = stays_in (how_many b) (drop 16 b) in
        let n = stays_long (how_many b) (drop 16 b) in
        omega (arith, length-append (take i l) (new ++ drop (suc i) l), length-append new (drop (suc i) l), length-take-le i l (omega (arith, n)), length-drop (suc i) l, n)

    -- what stands behind the place, up to the end of those in use
    rest_split : drop (256 * suc i) (drop 16 b) ≡ take (256 * (how_many b - suc i)) (drop (256 * suc i) (drop 16 b)) ++ drop (256 * how_many b) (drop 16 b)
    rest_split =
        let j = how_many b - suc i in
        let s : 256 * suc i + 256 * j ≡ 256 * how_many b = omega arith in
        sym (take-append-drop (256 * j) (drop (256 * suc i) (drop 16 b)))
        ∙ ap (λ (q : List ℕ). take (256 * j) (drop (256 * suc i) (drop 16 b)) ++ q) (drop-drop (256 * j) (256 * suc i) (drop 16 b) ∙ ap (λ (k : ℕ). drop k (drop 16 b)) s)

    -- a stay in its place
    pub stayed : (x : Stay) → FitStay x → drop 16 (sets b (16 + 256 * i) (stay_bytes x))
        ≡ places (put (stays_in (how_many b) (drop 16 b)) i (x ∷ [])) ++ drop (256 * length (put (stays_in (how_many b) (drop 16 b)) i (x ∷ []))) (behind b)
    unfolding places
    stayed x f =
        let k = 256 * how_many b in
        let s = stay_long x f in
        let m : 256 * length (put (stays_in (how_many b) (drop 16 b)) i (x ∷ [])) ≡ k = omega (arith, put_long (x ∷ [])) in
        let g = few in
        let u = take (256 * (how_many b - suc i)) (drop (256 * suc i) (drop 16 b)) in
        let v = drop k (drop 16 b) in
        let a = take (256 * i) (drop 16 b) in
        let e : 256 * i + 256 ≡ 256 * suc i = omega arith in
        behind_head b (stay_bytes x) (256 * i) (omega (arith, s))
        ∙ ap (λ (j : ℕ). a ++ (stay_bytes x ++ drop j (drop 16 b))) (ap (λ (j : ℕ). 256 * i + j) s ∙ e)
        ∙ ap (λ (q : List ℕ). a ++ (stay_bytes x ++ q)) rest_split
        ∙ ap (λ (q : List ℕ). a ++ q) (sym (append_assoc (stay_bytes x) u v))
        ∙ sym (append_assoc a (stay_bytes x ++ u) v)
        ∙ ap₂ (λ (p q : List ℕ). (a ++ (p ++ u)) ++ q) (sym (append-nil (stay_bytes x)))
        (sym (drop_at (replicate k 0) v k (length-replicate {A = ℕ} k 0)) ∙ ap (λ (j : ℕ). drop j (replicate k 0 ++ v)) (sym m))
        ∙ ap (λ (p : List ℕ). p ++ drop (256 * length (put (stays_in (how_many b) (drop 16 b)) i (x ∷ []))) (replicate k 0 ++ v)) (sym (put_places (x ∷ [])))

    pub removed_long : length (removed i (how_many b) b) ≡ 8208
    unfolding removed
    removed_long =
        let k = 256 * (how_many b - suc i) in
        let u = part (16 + 256 * suc i) k b in
        let zs : List ℕ = replicate 256 0 in
        let v = drop (16 + 256 * how_many b) b in
        let g = few in
        omega (
          arith,
          length-append (take (16 + 256 * i) b) (u ++ (zs ++ v)),
          length-append u (zs ++ v),
          length-append zs v,
          length-take-le (16 + 256 * i) b (omega arith),
          part_long b (16 + 256 * suc i) k (omega arith),
          length-replicate {A = ℕ} 256 0,
          length-drop (16 + 256 * how_many b) b,
        )

    -- a place taken out
    pub gone : drop 16 (removed i (how_many b) b)
        ≡ places (put (stays_in (how_many b) (drop 16 b)) i []) ++ drop (256 * length (put (stays_in (how_many b) (drop 16 b)) i [])) (behind b)
    unfolding places removed
    gone =
        let k = 256 * how_many b in
        let j = how_many b - suc i in
        let m : 256 * length (put (stays_in (how_many b) (drop 16 b)) i []) ≡ k - 256 = omega (arith, put_long []) in
        let c : k - 256 + 256 ≡ k = omega arith in
        let a = take (256 * i) (drop 16 b) in
        let u = take (256 * j) (drop (256 * suc i) (drop 16 b)) in
        let v = drop k (drop 16 b) in
        let zs : List ℕ = replicate 256 0 in
        let g = few in
        let left : drop (k - 256) (replicate k 0 ++ v) ≡ zs ++ v =
        ap (λ (q : List ℕ). drop (k - 256) (q ++ v)) (ap (λ (t : ℕ). replicate t 0) (sym c) ∙ sym (replicate-append-replicate {A = ℕ} (k - 256) 256 0))
        ∙ ap (drop (k - 256)) (append_assoc (replicate (k - 256) 0) zs v)
        ∙ drop_at (replicate (k - 256) 0) (zs ++ v) (k - 256) (length-replicate {A = ℕ} (k - 256) 0) in
        ap₂ (λ (p : List ℕ) (q : List ℕ). drop 16 (p ++ (take (256 * j) q ++ (zs ++ drop (16 + k) b)))) (take-add 16 (256 * i) b) (sym (drop-drop (256 * suc i) 16 b))
        ∙ ap (λ (q : List ℕ). drop 16 ((take 16 b ++ a) ++ (u ++ (zs ++ q)))) (sym (drop-drop k 16 b))
        ∙ ap (drop 16) (append_assoc (take 16 b) a (u ++ (zs ++ v)))
        ∙ drop_at (take 16 b) (a ++ (u ++ (zs ++ v))) 16 (length-take-le 16 b (omega arith))
        ∙ sym (append_assoc a u (zs ++ v))
        ∙ ap₂ (λ (p q : List ℕ). p ++ q) (sym (put_places [])) (sym left ∙ ap (λ (t : ℕ). drop t (replicate k 0 ++ v)) (sym m))

-- ---- how a place is taken out

pub taken_out : (s : List ℕ) (i n : ℕ) {s1 s2 : List ℕ} → i < n → 16 + 256 * n ≤ length s
    → s1 ≡ sets s (16 + 256 * i) (part (16 + 256 * i + 256) (16 + 256 * (n - 1) - (16 + 256 * i)) s) → s2 ≡ sets s1 (16 + 256 * (n - 1)) (replicate 256 0)
    → s2 ≡ removed i n s
unfolding removed
taken_out s i n h r p q =
    let at = 16 + 256 * i in
    let k : 16 + 256 * (n - 1) - at ≡ 256 * (n - suc i) = omega arith in
    let a : at + 256 ≡ 16 + 256 * suc i = omega arith in
    let u = part (16 + 256 * suc i) (256 * (n - suc i)) s in
    let zs : List ℕ = replicate 256 0 in
    let l : length u ≡ 256 * (n - suc i) = part_long s (16 + 256 * suc i) (256 * (n - suc i)) (omega arith) in
    let z : length zs ≡ 256 = length-replicate {A = ℕ} 256 0 in
    let b = length-append u zs in
    let e : at + length (u ++ zs) ≡ 16 + 256 * n = omega (arith, b, l, z) in
    put_next s u zs at (16 + 256 * (n - 1)) (omega (arith, l)) (p ∙ ap₂ (λ (x y : ℕ). sets s at (part x y s)) a k) q
    ∙ sets-eq (u ++ zs) s at (omega (arith, e))
    ∙ ap (λ (j : ℕ). take at s ++ (u ++ zs) ++ drop j s) e
    ∙ append_assoc (take at s) (u ++ zs) (drop (16 + 256 * n) s)
    ∙ ap (λ (x : List ℕ). take at s ++ x) (append_assoc u zs (drop (16 + 256 * n) s))
