-- A `&κ mut [u8]` is lent again for a lifetime of a call, and when that is over its front part is handed on under a new name, which the slice's own name follows. Assumes `Logic`.
--     lends_again      own_val (the `&κ mut [u8]` xs, named γ) ∗ [κ]_q ⊢ ⇛ ∃ δ. own_val (the `&α mut [u8]` xs, named δ) ∗ Kept α δ
--     comes_back       [†α] ∗ Kept α δ ∗ finally δ zs ⊢ ⇛ ⌜zs is as long as xs⌝ ∗ own_val (the `&κ mut [u8]` zs, named γ) ∗ [κ]_q
--     hands_front      for zs ≡ ys ++ rest:  [†α] ∗ Kept α δ ∗ finally δ zs ⊢ ⇛ ∃ ε. own_val (the `&κ mut [u8]` ys, named ε) ∗ [κ]_q ∗ γ follows ε as ys followed by rest
use mathlib.Core.Path.{◌≡◌, refl, sym, ap, subst, ◌∙◌}
use Prim.Native.Nat.{ℕ, ◌*◌, ◌≤◌}
use native.Mathlib.Nat.{mul-le-mul_right}
use native.Mathlib.Omega.{arith}
use mathlib.Core.List.{List, ◌∷◌, [], ◌++◌}
use lib.ListN.{length, length-append}
use seplogic.Ra.Ura.{Ura}
use base.Logic.{SProp, ent, sep, ex, guard}
use base.Fml.{Lft, GName, Share, Fml, fsep, flft, fdead, fobs, fauth, fbor, flent, fobor}
use base.Stored.{coded_list}
use mir.Syntax.{Lifetime}
use types.Logic.{Logic, sem}
use types.Kit.{‵, ◌⊛◌, some, later, ◌$◌, ◌∵◌, !, qed, move, drop, split, split3, fsplit, fsplit3, fjoin, feq_l, feq_i, check, use1, use2, use3, updating, await, pick, now, show, rewrite, group, done}
use types.SemTy.{cells, Arr, Body}
use types.Follow.{takes_part}
use types.Mut.{open_ref, close_ref}
use denote.Memory.{mem}
use denote.Builtin.{u8}
use denote.Ref.{MutBor}
use denote.Array.{Array}
use denote.Slice.{MutSlice, Room, slice_val, mut_slice_vals, mut_slice_at, finally}
use denote.Shadow.{pure_i}
use denote.Lend.{Held, lends_slice, slice_back}
use denote.Follow.{follows}
use denote.FollowSlice.{heres_id, slice_of}
use borrow.Table.Elements.{at, cut_app, join_app}

module _ {M : Type 1} {𝓤 : Ura M} (𝓛 : Logic 𝓤) (ℓ : Lifetime) (κ α : Lft) (q : Share) (b o : ℕ) (γ : GName) (xs : List ℕ) (rm : Room u8 (length xs)) where
  open 𝓛 use {H, A}

  abbrev pub named_at : GName → List ℕ → MutBor (List ℕ)
  named_at δ l = record { ref_ptr = (b, o); ghost_name = δ; now = l }

  -- what the holder keeps while the slice is lent again under the name δ
  abbrev pub Kept : GName → Fml
  Kept δ = fsep (flent α (Held u8 (length xs) b o δ)) (fsep (fobor κ q (Body (Arr (mem u8) (length xs)) b o γ)) (fsep (fobs γ ((coded_list u8.coded).code xs)) (fauth γ ((coded_list u8.coded).code xs))))

  abbrev Again : GName → SProp 𝓤
  Again δ = sep 𝓤 (sem 𝓛 ((MutSlice ℓ α u8).own_val (named_at δ xs) (slice_val (b, o) (length xs) ∷ []))) (sem 𝓛 (Kept δ))

  pub lends_again : ent 𝓤 (sep 𝓤 (sem 𝓛 ((MutSlice ℓ κ u8).own_val (named_at γ xs) (mut_slice_vals (named_at γ xs)))) (A.lft κ q)) (H.⇛ (ex 𝓤 Again))
  lends_again = qed 𝓛 (‵ ((MutSlice ℓ κ u8).own_val (named_at γ xs) (mut_slice_vals (named_at γ xs))) ∷ ‵ (flft κ q) ∷ []) ∵ updating ! $ fsplit3 ! $ drop ! $
      rewrite ! 0 (λ (l : List ℕ). ‵ (fobs γ ((coded_list u8.coded).code l))) (heres_id u8 xs) refl $ open_ref ! tt (Arr (mem u8) (length xs)) {b = b} {o = o} $ fsplit ! $ drop ! $
      use1 𝓛 (later (some (λ (δ : GName). ‵ ((MutSlice ℓ α u8).own_val (named_at δ xs) (slice_val (b, o) (length xs) ∷ [])) ⊛ ‵ (flent α (Held u8 (length xs) b o δ)))))
      (lends_slice 𝓛 u8 ℓ α xs b o rm) $ await ! tt $ pick ! (λ δ. split ! $
      -- [the new slice; the lender's part; the open borrow; obs; auth]
      now ! $ show ! Again δ $ move ! (3 ∷ 4 ∷ []) $ fjoin ! $ move ! (3 ∷ 0 ∷ []) $ fjoin ! $ move ! (2 ∷ 0 ∷ []) $ fjoin ! $ move ! (1 ∷ 0 ∷ []) $ done !)

  abbrev Returned : List ℕ → SProp 𝓤
  Returned zs = guard 𝓤 (length zs ≡ length xs) (sep 𝓤 (sem 𝓛 ((MutSlice ℓ κ u8).own_val (named_at γ zs) (slice_val (b, o) (length xs) ∷ []))) (A.lft κ q))

  pub comes_back : (δ : GName) (zs : List ℕ) → ent 𝓤 (sep 𝓤 (A.dead α) (sep 𝓤 (sem 𝓛 (Kept δ)) (sem 𝓛 (finally u8 δ zs)))) (H.⇛ (Returned zs))
  comes_back δ zs = qed 𝓛 (‵ (fdead α) ∷ ‵ (Kept δ) ∷ ‵ (finally u8 δ zs) ∷ []) ∵ updating ! $ move ! (1 ∷ []) $ fsplit ! $ move ! (2 ∷ 0 ∷ 3 ∷ []) $
      use3 𝓛 (later (‵ ((Arr (mem u8) (length xs)).own_at zs b o))) (slice_back 𝓛 u8 α δ zs (length xs) b o) $ await ! tt $ fsplit ! $ feq_l ! (λ e.
      feq_i ! ℕ (length zs) (length xs) e $ fjoin ! $ move ! (1 ∷ []) $ fsplit3 ! $ move ! (3 ∷ 0 ∷ 1 ∷ 2 ∷ []) $ close_ref ! tt (Arr (mem u8) (length xs)) zs {b = b} {o = o} $ now ! $ check ! e $
      rewrite ! 0 (λ (l : List ℕ). ‵ (fobs γ ((coded_list u8.coded).code l))) (sym (heres_id u8 zs)) refl $
      rewrite ! 1 (λ (j : ℕ). ‵ (fbor κ (Body (Arr (mem u8) j) b o γ))) (sym e) refl $ fjoin ! $
      pure_i ! (mut_slice_at u8 (named_at γ zs) (slice_val (b, o) (length xs) ∷ [])) (tt, (tt, tt)) (ap (λ (j : ℕ). slice_val (b, o) j ∷ []) (sym e), subst (Room u8) (sym e) rm) $ fjoin ! $ done !)

  module _ (ys rest : List ℕ) where
    abbrev over : List ℕ → List ℕ
    over ws = ws ++ rest

    abbrev behind : ℕ
    behind = at o (mem u8).size (length ys)

    abbrev Handed : GName → SProp 𝓤
    Handed ε = sep 𝓤 (sem 𝓛 ((MutSlice ℓ κ u8).own_val (named_at ε ys) (slice_val (b, o) (length ys) ∷ []))) (sep 𝓤 (A.lft κ q) (sem 𝓛 (follows (Array u8 0) (Array u8 0) γ ε over)))

    put_back : length xs ≡ length (ys ++ rest) → (ws : List ℕ)
        → ent 𝓤 (sep 𝓤 (sem 𝓛 ((Arr (mem u8) (length ys)).own_at ws b o)) (sem 𝓛 (cells (mem u8) rest b behind))) (sem 𝓛 ((Arr (mem u8) (length xs)).own_at (over ws) b o))
    put_back long ws =
        let old = length-append ys rest in
        let new = length-append ws rest in
        qed 𝓛 (‵ ((Arr (mem u8) (length ys)).own_at ws b o) ∷ ‵ (cells (mem u8) rest b behind) ∷ []) ∵ fsplit ! $ feq_l ! (λ e.
        rewrite ! 1 (λ (j : ℕ). ‵ (cells (mem u8) rest b (at o (mem u8).size j))) (sym e) refl $
        use2 𝓛 (‵ (cells (mem u8) (over ws) b o)) (join_app 𝓛 (mem u8) ws rest b o) $
        feq_i ! ℕ (length (over ws)) (length xs) (omega arith) $ fjoin ! $ done !)

    room_of : length xs ≡ length (ys ++ rest) → Room u8 (length ys)
    room_of long =
        let both = length-append ys rest in
        let fewer : length ys ≤ length xs = omega arith in
        let bytes : length ys * (mem u8).size ≤ length xs * (mem u8).size = mul-le-mul_right (mem u8).size fewer in
        let count = rm.0 in let size = rm.1 in
        (omega arith, omega arith)

    pub hands_front : (δ : GName) (zs : List ℕ) → zs ≡ ys ++ rest → ent 𝓤 (sep 𝓤 (A.dead α) (sep 𝓤 (sem 𝓛 (Kept δ)) (sem 𝓛 (finally u8 δ zs)))) (H.⇛ (ex 𝓤 Handed))
    hands_front δ zs cut = qed 𝓛 (‵ (fdead α) ∷ ‵ (Kept δ) ∷ ‵ (finally u8 δ zs) ∷ []) ∵ updating ! $ move ! (1 ∷ []) $ fsplit ! $ move ! (2 ∷ 0 ∷ 3 ∷ []) $
        use3 𝓛 (later (‵ ((Arr (mem u8) (length xs)).own_at zs b o))) (slice_back 𝓛 u8 α δ zs (length xs) b o) $ await ! tt $ fsplit ! $ feq_l ! (λ e.
        let long : length xs ≡ length (ys ++ rest) = sym e ∙ ap length cut in
        rewrite ! 0 (λ (l : List ℕ). ‵ (cells (mem u8) l b o)) cut refl $
        use1 𝓛 (‵ (cells (mem u8) ys b o) ⊛ ‵ (cells (mem u8) rest b behind)) (cut_app 𝓛 (mem u8) ys rest b o) $ split ! $
        feq_i ! ℕ (length ys) (length ys) refl $ fjoin ! $ move ! (2 ∷ []) $ fsplit3 ! $ move ! (0 ∷ 1 ∷ 2 ∷ 3 ∷ 4 ∷ []) $ group ! 5 $
        use1 𝓛 (later (some (λ (ε : GName). ‵ (fobs ε ((coded_list u8.coded).code ys)) ⊛ ‵ (fbor κ (Body (Arr (mem u8) (length ys)) b o ε)) ⊛ ‵ (flft κ q) ⊛ ‵ (follows (Array u8 0) (Array u8 0) γ ε over))))
        (takes_part 𝓛 (Arr (mem u8) (length xs)) (Arr (mem u8) (length ys)) over κ q b o b o γ (sem 𝓛 (cells (mem u8) rest b behind)) (put_back long) ((coded_list u8.coded).code xs) ((coded_list u8.coded).code xs) ys) $ await ! tt $ pick ! (λ ε. split3 ! $
        use2 𝓛 (‵ ((MutSlice ℓ κ u8).own_val (named_at ε ys) (slice_val (b, o) (length ys) ∷ []))) (slice_of 𝓛 u8 ℓ κ b o ε ys (room_of long)) $ now ! $ show ! Handed ε $ done !))
