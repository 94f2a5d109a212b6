-- `lent::measured` meets its contract: a walk of its MIR by hand, since the borrow checker does not follow a slice that is lent by a slice. The state and the answer go to `cipher::run` for good, at their own lifetimes; the output is lent again for a lifetime of the call. The part that comes back is measured and given up, so that the output comes back as the part with the rest behind it. Assumes `Logic`.
use mathlib.Core.Path.{◌≡◌, refl, sym, ap}
use Prim.Native.Nat.{ℕ, ◌^◌, ◌<◌}
use mathlib.Core.List.{List, [], ◌∷◌, ◌++◌}
use lib.ListN.{length, drop as drop_list}
use base.Fraction.{full_share}
use base.Logic.{emp, id⊢}
use base.Stored.{coded_list}
use base.Fml.{GName, ftrue, flft, fres}
use mir.Syntax.{named, w64}
use mir.Val.{vint, vbool}
use contract.Monad.{fact, fact_i}
use contract.Running.{tables}
use types.Kit.{‵, ◌⊛◌, raw, some, later, given, ◌$◌, ◌∵◌, !, qed, move, keep, split, split3, join, fsplit3, fjoin, use0, use1, use2, use3, await, pick, learn, rewrite, suffices, done}
use types.Part.{agg, whole, sub}
use types.Run.{stop, fld, hop, from, addr, of_opd, and_then, no_more, returns, enter}
use types.ByLocal.{alloc_all, pass_all, free_all, look_at, look_in_at, get, get_in, through, sets, lands_as}
use types.Tokens.{lft_new, lft_end}
use denote.Builtin.{u8, u64, usize, bool}
use denote.Exit.{yes}
use denote.Follow.{follows}
use denote.FollowSlice.{heres_id, slice_given_up}
use denote.Laws.{Is, shows}
use denote.Plain.{uint_vals, uint_Tells, uint_Makes, bool_vals, bool_Tells}
use denote.Ref.{MutBor, MutRef, mut_vals, mut_Tells}
use denote.Array.{Array}
use denote.Signature.{plain}
use denote.Slice.{MutSlice, Room, slice_val, mut_slice_vals, mut_slice_Tells, finally, res-finally}
use denote.Steps.{only, nothing, heard, owned, peeks}
use denote.Triple.Call.{calls_at}
use denote.Triple.Clauses.{Lasts, lasts}
use denote.Triple.Spec.{triple_of}
use denote.Triple.Table.{framed}
use denote.Triple.Walked.{Stays, stay_dropped, gave_ref, stay_slice, walk_of, ends_at, Goes-dropped, Goes-gave_ref, Goes-slice}
use Rattle.std.proofs.raw_atomic.Walks.{proved}
use Rattle.cipher.specs.State.{run_number, run_state, run_part}
use Rattle.cipher.specs.Machine.{state_of}
use Rattle.cipher.specs.contracts.State.{the_row as R}
use Rattle.cipher.specs.contracts.run as g
use Rattle.cipher.proofs.FrontPart.{Kept, lends_again, comes_back}
use Rattle.cipher.proofs.run.Met.{met}
use Rattle.vectors.specs.contracts.lent.measured as f
use Rattle.vectors.proofs.lent.measured.Statement.{statement}
use Rattle.vectors.proofs.lent.measured.Code as code

abbrev stayed : Stays f.ended.signature.params f.ended.kept
stayed = (gave_ref (0 ∷ []) tt (plain (λ _. R)), (gave_ref (1 ∷ []) tt (plain (λ _. u64)), (stay_slice (2 ∷ []) tt (plain (λ _. u8)), (stay_dropped (plain (λ _. usize)) yes, (stay_dropped (plain (λ _. bool)) yes, tt)))))

pub measured_spec : {M : Type 1} → statement M
measured_spec 𝓤 𝓛 𝓜 𝓡 wired =
    let c = f.clauses 𝓛 𝓜.mem 𝓡.returns in let W = walk_of 𝓛 f.ended stayed c in
    proved 𝓛 f.ended stayed c 𝓜 𝓡
    (Goes-gave_ref 𝓛 3 0 tt (plain (λ _. R)), (Goes-gave_ref 𝓛 3 1 tt (plain (λ _. u64)), (Goes-slice 𝓛 3 2 tt (plain (λ _. u8)), (Goes-dropped 𝓛 3 (plain (λ _. usize)) yes (λ κs x w. refl), (Goes-dropped 𝓛 3 (plain (λ _. bool)) yes (λ κs x w. refl), tt)))))
    f.Key.name code.function (code.unfolded 𝓤 𝓛.H 𝓜 𝓡 wired)
    (λ κs. (mut_vals, (mut_vals, (mut_slice_vals, (uint_vals w64, (bool_vals, tt))))))
    (λ κs. (mut_Tells (named 0) κs.0 R, (mut_Tells (named 1) κs.1.0 u64, (mut_slice_Tells (named 2) κs.1.1.0 u8, (uint_Tells w64, (bool_Tells, tt)))))) (λ κs qs bounds a _ are.
    let κ₀ = κs.0 in let κ₁ = κs.1.0 in let κ₂ = κs.1.1.0 in let q₀ = qs.0 in let q₁ = qs.1.0 in let q₂ = qs.1.1.0 in
    let s = a.0 in let answer = a.1.0 in let out = a.1.1.0 in let n = a.1.1.1.0 in let back = a.1.1.1.1.0 in
    let b = out.ref_ptr.0 in let o = out.ref_ptr.1 in let xs = out.now in
    let rm : Room u8 (length xs) = are.1.1.0.0.1 in let fn : n < 2 ^ 64 = are.1.1.1.0.1 in
    let ys = run_part back (state_of s.now) (length xs) n in
    let ns = vint w64 n ∷ [] in let bs = vbool back ∷ [] in
    let y : W.Ghost = ((κs, qs, bounds, a, (mut_vals s, (mut_vals answer, (mut_slice_vals out, (ns, (bs, tt)))))), tt) in
    let at : GName → List ℕ → MutBor (List ℕ) = λ δ l. record { ref_ptr = (b, o); ghost_name = δ; now = l } in
    let ends : MutBor (List ℕ) → List ℕ → List ℕ = λ r w. w ++ drop_list (length r.now) xs in
    qed 𝓛 (((‵ (flft κ₀ q₀) ⊛ ‵ (flft κ₁ q₁) ⊛ ‵ (flft κ₂ q₂) ⊛ ‵ ftrue) ⊛ ‵ ((MutRef (named 0) κ₀ R).own_val s (mut_vals s)) ⊛ ‵ ((MutRef (named 1) κ₁ u64).own_val answer (mut_vals answer)) ⊛
    ‵ ((MutSlice (named 2) κ₂ u8).own_val out (mut_slice_vals out)) ⊛ ‵ (usize.own_val n ns) ⊛ ‵ (bool.own_val back bs) ⊛ ‵ ftrue) ∷ ‵ ftrue ∷ []) ∵
    split ! $ split3 ! $ move ! (2 ∷ []) $ split ! $ move ! (4 ∷ []) $ split3 ! $ move ! (2 ∷ []) $ split3 ! $ move ! (2 ∷ []) $ split ! $
    keep ! (4 ∷ 5 ∷ 8 ∷ 9 ∷ 3 ∷ 0 ∷ 2 ∷ 6 ∷ []) $
    -- [s; answer; the tokens of both; n; back; out; its token; the locals]
    enter ! _ _ _ _ _ $ alloc_all ! (λ l. pass_all ! refl ((tt, tt), ((tt, tt), ((tt, (tt, (record { fits = rm.0 }, tt))), ((tt, record { fits = fn }), ((tt, tt), tt))))) $
    sets ! (addr ! (through ! refl (stop !))) refl (tt, tt) $
    sets ! (addr ! (through ! refl (stop !))) refl (tt, tt) $
    sets ! (addr ! (from ! (fld ! refl (hop ! (look_in_at ! 3 (sub ! 0 refl (whole !))) (stop !))))) refl (tt, tt) $
    sets ! (agg ! (and_then ! (get ! refl) (and_then ! (get_in ! (fld ! refl (stop !)) (sub ! 1 refl (whole !))) (no_more !)))) refl (tt, (tt, (record { fits = rm.0 }, tt))) $
    lft_new ! tt (λ α. move ! (7 ∷ 8 ∷ []) $
    use2 𝓛 (later (some (λ (δ : GName). ‵ ((MutSlice (named 2) (α ∷ []) u8).own_val (at δ xs) (slice_val (b, o) (length xs) ∷ [])) ⊛ ‵ (Kept 𝓛 (named 2) κ₂ (α ∷ []) q₂ b o out.ghost_name xs rm δ))))
    (lends_again 𝓛 (named 2) κ₂ (α ∷ []) q₂ b o out.ghost_name xs rm) $ await ! tt $ pick ! (λ δ. split ! $
    -- [the new slice; what is kept; the token of α; s; answer; their tokens; n; back; the locals]
    let G = triple_of 𝓛 g.signature (g.spec 𝓛 𝓜.mem 𝓡.returns) in
    let z : G.Ghost = (((κ₀, (κ₁, (α ∷ [], tt))), (q₀, (q₁, (full_share, tt))), tt, (s, (answer, (at δ xs, (n, (back, tt))))), (mut_vals s, (mut_vals answer, (mut_slice_vals (at δ xs), (ns, (bs, tt)))))), tt) in
    nothing ! $ move ! (9 ∷ 0 ∷ []) $ join ! $ move ! (8 ∷ 0 ∷ []) $ join ! $ move ! (1 ∷ 0 ∷ []) $ join ! $ move ! (4 ∷ 0 ∷ []) $ join ! $ move ! (3 ∷ 0 ∷ []) $ join ! $
    nothing ! $ move ! (3 ∷ 0 ∷ []) $ join ! $ move ! (4 ∷ 0 ∷ []) $ join ! $ move ! (3 ∷ 0 ∷ []) $ join ! $ join ! $
    nothing ! $ move ! (1 ∷ 0 ∷ []) $ use2 𝓛 (raw (G.pre z)) (id⊢ 𝓤 _) $
    calls_at ! (framed 𝓤 𝓛.H 𝓜 (tables 𝓤 𝓛.H 𝓜 𝓡 𝓡.env)) G (met 𝓤 𝓛 𝓜 𝓡 (code.calls-cipher::run 𝓡.env wired)) z
    (and_then ! (get ! refl) (and_then ! (get ! refl) (and_then ! (get ! refl) (and_then ! (get ! refl) (and_then ! (get ! refl) (no_more !)))))) (λ v.
    let Part = MutSlice (named 2) (α ∷ []) u8 in
    use1 𝓛 (later (some (λ (r : MutBor (List ℕ)). ((‵ (flft κ₀ q₀) ⊛ ‵ (flft κ₁ q₁) ⊛ ‵ (flft (α ∷ []) full_share) ⊛ ‵ ftrue) ⊛ ‵ (Part.own_val r (v ∷ []))) ⊛
    some (λ (ws : Lasts g.ended z.0.0 z.0.3). ‵ (lasts g.ended z.0.0 z.0.3 ws) ⊛ raw (fact 𝓤 (state_of ws.0 ≡ run_state back (state_of s.now) (length xs) n)) ⊛
    raw (fact 𝓤 (ws.1.0 ≡ run_number back s.now.count (length xs) n)) ⊛ raw (fact 𝓤 ((r.ref_ptr ≡ out.ref_ptr) × (r.now ≡ ys))) ⊛
    ‵ (follows (Array u8 0) (Array u8 0) δ r.ghost_name (ends r)))))) (id⊢ 𝓤 _) $ await ! tt $ pick ! (λ r. split ! $ split ! $
    -- [the tokens; the part; the last values with the facts; what is kept; the locals]
    move ! (2 ∷ []) $ pick ! (λ ws. split ! $ move ! (1 ∷ []) $ split ! $ heard ! _ (λ state_is. split ! $ heard ! _ (λ answer_is. split ! $ heard ! _ (λ part_is.
    -- [what the output follows; the last values; the tokens; the part; what is kept; the locals]
    move ! (3 ∷ []) $ peeks ! Part (Is Part) (shows 𝓛 Part) r (v ∷ []) (λ is.
    let zs = ends r r.now in let fits : length r.now < 2 ^ 64 = is.0.1.0 in let ks = vint w64 (length r.now) ∷ [] in
    use2 𝓛 (later (given (v ∷ [] ≡ mut_slice_vals r) (‵ (fres δ ((coded_list u8.coded).code zs))))) (slice_given_up 𝓛 (Array u8 0) u8 (ends r) (named 2) (α ∷ []) δ r (v ∷ [])) $ await ! tt $ learn ! (λ v_is.
    -- [the loan's last value; the last values; the tokens; what is kept; the locals]
    lands_as ! (ap only v_is) refl (tt, (tt, (record { fits = fits }, tt))) $
    sets ! (of_opd ! (get_in ! (fld ! refl (stop !)) (sub ! 1 refl (whole !)))) refl (tt, record { fits = fits }) $
    move ! (2 ∷ []) $ split3 ! $ move ! (2 ∷ []) $ split ! $ lft_end ! tt $ move ! (4 ∷ []) $
    rewrite ! 0 (λ (l : List ℕ). ‵ (fres δ ((coded_list u8.coded).code l))) (sym (heres_id u8 zs)) refl $ use1 𝓛 (‵ (finally u8 δ zs)) (res-finally 𝓛 (named 2) (α ∷ []) u8 δ zs) $
    -- [the loan's last list; α is over; nothing; the tokens of the state and the answer; the last values; what is kept; the locals]
    move ! (1 ∷ 6 ∷ 0 ∷ []) $ use3 𝓛 (later (given (length zs ≡ length xs) (‵ ((MutSlice (named 2) κ₂ u8).own_val (at out.ghost_name zs) (slice_val (b, o) (length xs) ∷ [])) ⊛ ‵ (flft κ₂ q₂))))
    (comes_back 𝓛 (named 2) κ₂ (α ∷ []) q₂ b o out.ghost_name xs rm δ zs) $ await ! tt $ learn ! (λ long. split ! $
    -- [out; its token; nothing; the tokens of the state and the answer; the last values; the locals]
    move ! (5 ∷ []) $ fsplit3 ! $
    returns ! (look_at ! 0 refl) $ free_all ! refl $ keep ! (0 ∷ 1 ∷ 3 ∷ 4 ∷ 6 ∷ 7 ∷ []) $
    -- [the state's last value; the answer's; out; its token; the tokens of the state and the answer]
    suffices ! _ (ends_at 𝓛 f.ended stayed c y (vint w64 (length r.now)) (length r.now) (ws.0, (ws.1.0, (zs, (tt, (tt, tt))))) (tt, (tt, (long, (tt, (tt, tt)))))) $
    nothing ! $ nothing ! $ fjoin ! $ nothing ! $ fjoin ! $ move ! (3 ∷ 0 ∷ []) $ fjoin ! $ move ! (2 ∷ 0 ∷ []) $ fjoin ! $ move ! (1 ∷ 0 ∷ []) $ fjoin ! $
    owned ! usize (Is usize) (uint_Makes 𝓛 w64) (length r.now) ks (refl, fits) $ move ! (1 ∷ 0 ∷ []) $ join ! $
    nothing ! $ move ! (2 ∷ 0 ∷ []) $ join ! $ move ! (3 ∷ 0 ∷ []) $ join ! $ move ! (2 ∷ 0 ∷ []) $ join ! $ join ! $
    use0 𝓛 (raw (fact 𝓤 (zs ≡ ys ++ drop_list (length r.now) xs))) (fact_i 𝓤 _ (emp 𝓤) (ap (λ (front : List ℕ). front ++ drop_list (length r.now) xs) part_is.1)) $
    use0 𝓛 (raw (fact 𝓤 (length r.now ≡ length ys))) (fact_i 𝓤 _ (emp 𝓤) (ap length part_is.1)) $ join ! $
    use0 𝓛 (raw (fact 𝓤 (ws.1.0 ≡ run_number back s.now.count (length xs) n))) (fact_i 𝓤 _ (emp 𝓤) answer_is) $ join ! $
    use0 𝓛 (raw (fact 𝓤 (state_of ws.0 ≡ run_state back (state_of s.now) (length xs) n))) (fact_i 𝓤 _ (emp 𝓤) state_is) $ join ! $ move ! (1 ∷ []) $ done !)))))))))))))
