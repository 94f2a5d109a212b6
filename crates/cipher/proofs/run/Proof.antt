-- `run` meets its contract: a walk of its MIR by hand. The state and the answer go to `run_lent` for good, at their own lifetimes; the output is lent again for a lifetime of the call, and then its front part is handed on (`FrontPart`). Assumes `Logic`.
use mathlib.Core.Path.{◌≡◌, refl, sym, ap}
use Prim.Native.Nat.{ℕ, ◌^◌, ◌<◌}
use mathlib.Core.List.{List, [], ◌∷◌, ◌++◌}
use lib.ListN.{length, drop as drop_list}
use base.Fraction.{full_share}
use base.Logic.{emp, id⊢}
use base.Fml.{GName, ftrue, flft}
use mir.Syntax.{named, w64}
use mir.Val.{vint, vbool}
use contract.Monad.{fact, fact_i}
use contract.Running.{tables}
use types.Kit.{‵, ◌⊛◌, raw, some, later, ◌$◌, ◌∵◌, !, qed, move, keep, drop, split, split3, join, fsplit, fsplit3, fjoin, use0, use1, use2, use3, await, pick, rewrite, suffices, done}
use types.Part.{agg, whole, sub}
use types.Run.{stop, fld, hop, from, addr, and_then, no_more, returns, enter}
use types.ByLocal.{alloc_all, pass_all, free_all, look_at, look_in_at, get, get_in, through, sets, lands_as}
use types.Tokens.{lft_new, lft_end}
use denote.Builtin.{u8, u64, usize, bool}
use denote.Exit.{yes, no}
use denote.Laws.{shows}
use denote.Plain.{uint_vals, uint_Tells, bool_vals, bool_Tells}
use denote.Ref.{MutBor, MutRef, mut_vals, mut_Tells}
use denote.Array.{Array}
use denote.Signature.{plain, mut_slice_of}
use denote.Slice.{MutSlice, Room, slice_val, mut_slice_vals, mut_slice_Tells}
use denote.Steps.{only, nothing, heard, peeks}
use denote.Follow.{follows}
use denote.Triple.Call.{calls_at}
use denote.Triple.Clauses.{Lasts, lasts}
use denote.Triple.Spec.{triple_of}
use denote.Triple.Table.{framed}
use denote.Triple.Walked.{Stays, stay_dropped, gave_ref, walk_of, ends_at, Goes-dropped, Goes-gave_ref, Goes-spent_slice}
use Rattle.std.proofs.raw_atomic.Walks.{proved}
use Rattle.cipher.specs.State.{run_number, run_state, run_part}
use Rattle.cipher.specs.Machine.{state_of}
use Rattle.cipher.specs.contracts.State.{the_row as R}
use Rattle.cipher.specs.contracts.run as f
use Rattle.cipher.specs.contracts.run_lent as g
use Rattle.cipher.proofs.FrontPart.{Kept, lends_again, hands_front}
use Rattle.cipher.proofs.run_lent.Met.{met}
use Rattle.cipher.proofs.run.Statement.{statement}
use Rattle.cipher.proofs.run.Code as code

abbrev stayed : Stays f.ended.signature.params f.ended.kept
stayed = (gave_ref (0 ∷ []) tt (plain (λ _. R)), (gave_ref (1 ∷ []) tt (plain (λ _. u64)), (stay_dropped (mut_slice_of (2 ∷ []) tt (plain (λ _. u8))) no, (stay_dropped (plain (λ _. usize)) yes, (stay_dropped (plain (λ _. bool)) yes, tt)))))

pub run_spec : {M : Type 1} → statement M
run_spec 𝓤 𝓛 𝓜 𝓡 wired =
    let c = f.clauses 𝓛 𝓜.mem 𝓡.returns in let W = walk_of 𝓛 f.ended stayed c in
    proved 𝓛 f.ended stayed c 𝓜 𝓡
    (Goes-gave_ref 𝓛 3 0 tt (plain (λ _. R)), (Goes-gave_ref 𝓛 3 1 tt (plain (λ _. u64)), (Goes-spent_slice 𝓛 3 (2 ∷ []) tt (plain (λ _. u8)), (Goes-dropped 𝓛 3 (plain (λ _. usize)) yes (λ κs x w. refl), (Goes-dropped 𝓛 3 (plain (λ _. bool)) yes (λ κs x w. refl), tt)))))
    f.Key.name code.function (code.unfolded 𝓤 𝓛.H 𝓜 𝓡 wired)
    (λ κs. (mut_vals, (mut_vals, (mut_slice_vals, (uint_vals w64, (bool_vals, tt))))))
    (λ κs. (mut_Tells (named 0) κs.0 R, (mut_Tells (named 1) κs.1.0 u64, (mut_slice_Tells (named 2) κs.1.1.0 u8, (uint_Tells w64, (bool_Tells, tt)))))) (λ κs qs bounds a _ are.
    let κ₀ = κs.0 in let κ₁ = κs.1.0 in let κ₂ = κs.1.1.0 in let q₀ = qs.0 in let q₁ = qs.1.0 in let q₂ = qs.1.1.0 in
    let s = a.0 in let answer = a.1.0 in let out = a.1.1.0 in let n = a.1.1.1.0 in let back = a.1.1.1.1.0 in
    let b = out.ref_ptr.0 in let o = out.ref_ptr.1 in let xs = out.now in
    let rm : Room u8 (length xs) = are.1.1.0.0.1 in let fn : n < 2 ^ 64 = are.1.1.1.0.1 in
    let ys = run_part back (state_of s.now) (length xs) n in let rest = drop_list (length ys) xs in
    let ns = vint w64 n ∷ [] in let bs = vbool back ∷ [] in
    let y : W.Ghost = ((κs, qs, bounds, a, (mut_vals s, (mut_vals answer, (mut_slice_vals out, (ns, (bs, tt)))))), tt) in
    let at : GName → List ℕ → MutBor (List ℕ) = λ δ l. record { ref_ptr = (b, o); ghost_name = δ; now = l } in
    let Part = λ (ε : GName) (j : ℕ). ‵ ((MutSlice (named 2) κ₂ u8).own_val (at ε ys) (slice_val (b, o) j ∷ [])) in
    qed 𝓛 (((‵ (flft κ₀ q₀) ⊛ ‵ (flft κ₁ q₁) ⊛ ‵ (flft κ₂ q₂) ⊛ ‵ ftrue) ⊛ ‵ ((MutRef (named 0) κ₀ R).own_val s (mut_vals s)) ⊛ ‵ ((MutRef (named 1) κ₁ u64).own_val answer (mut_vals answer)) ⊛
    ‵ ((MutSlice (named 2) κ₂ u8).own_val out (mut_slice_vals out)) ⊛ ‵ (usize.own_val n ns) ⊛ ‵ (bool.own_val back bs) ⊛ ‵ ftrue) ∷ ‵ ftrue ∷ []) ∵
    split ! $ split3 ! $ move ! (2 ∷ []) $ split ! $ move ! (4 ∷ []) $ split3 ! $ move ! (2 ∷ []) $ split3 ! $ move ! (2 ∷ []) $ split ! $
    keep ! (4 ∷ 5 ∷ 8 ∷ 9 ∷ 3 ∷ 0 ∷ 2 ∷ 6 ∷ []) $
    -- [s; answer; the tokens of both; n; back; out; its token; the locals]
    enter ! _ _ _ _ _ $ alloc_all ! (λ l. pass_all ! refl ((tt, tt), ((tt, tt), ((tt, (tt, (record { fits = rm.0 }, tt))), ((tt, record { fits = fn }), ((tt, tt), tt))))) $
    sets ! (addr ! (through ! refl (stop !))) refl (tt, tt) $
    sets ! (addr ! (through ! refl (stop !))) refl (tt, tt) $
    sets ! (addr ! (from ! (fld ! refl (hop ! (look_in_at ! 3 (sub ! 0 refl (whole !))) (stop !))))) refl (tt, tt) $
    sets ! (agg ! (and_then ! (get ! refl) (and_then ! (get_in ! (fld ! refl (stop !)) (sub ! 1 refl (whole !))) (no_more !)))) refl (tt, (tt, (record { fits = rm.0 }, tt))) $
    lft_new ! tt (λ α. move ! (7 ∷ 8 ∷ []) $
    use2 𝓛 (later (some (λ (δ : GName). ‵ ((MutSlice (named 2) (α ∷ []) u8).own_val (at δ xs) (slice_val (b, o) (length xs) ∷ [])) ⊛ ‵ (Kept 𝓛 (named 2) κ₂ (α ∷ []) q₂ b o out.ghost_name xs rm δ))))
    (lends_again 𝓛 (named 2) κ₂ (α ∷ []) q₂ b o out.ghost_name xs rm) $ await ! tt $ pick ! (λ δ. split ! $
    -- [the new slice; what is kept; the token of α; s; answer; their tokens; n; back; the locals]
    let G = triple_of 𝓛 g.signature (g.spec 𝓛 𝓜.mem 𝓡.returns) in
    let z : G.Ghost = (((κ₀, (κ₁, (α ∷ [], tt))), (q₀, (q₁, (full_share, tt))), tt, (s, (answer, (at δ xs, (n, (back, tt))))), (mut_vals s, (mut_vals answer, (mut_slice_vals (at δ xs), (ns, (bs, tt)))))), tt) in
    nothing ! $ move ! (9 ∷ 0 ∷ []) $ join ! $ move ! (8 ∷ 0 ∷ []) $ join ! $ move ! (1 ∷ 0 ∷ []) $ join ! $ move ! (4 ∷ 0 ∷ []) $ join ! $ move ! (3 ∷ 0 ∷ []) $ join ! $
    nothing ! $ move ! (3 ∷ 0 ∷ []) $ join ! $ move ! (4 ∷ 0 ∷ []) $ join ! $ move ! (3 ∷ 0 ∷ []) $ join ! $ join ! $
    nothing ! $ move ! (1 ∷ 0 ∷ []) $ use2 𝓛 (raw (G.pre z)) (id⊢ 𝓤 _) $
    calls_at ! (framed 𝓤 𝓛.H 𝓜 (tables 𝓤 𝓛.H 𝓜 𝓡 𝓡.env)) G (met 𝓤 𝓛 𝓜 𝓡 (code.calls-cipher::run_lent 𝓡.env wired)) z
    (and_then ! (get ! refl) (and_then ! (get ! refl) (and_then ! (get ! refl) (and_then ! (get ! refl) (and_then ! (get ! refl) (no_more !)))))) (λ v.
    use1 𝓛 (later (some (λ (k : ℕ). ((‵ (flft κ₀ q₀) ⊛ ‵ (flft κ₁ q₁) ⊛ ‵ (flft (α ∷ []) full_share) ⊛ ‵ ftrue) ⊛ ‵ (usize.own_val k (v ∷ []))) ⊛
    some (λ (ws : Lasts g.ended z.0.0 z.0.3). ‵ (lasts g.ended z.0.0 z.0.3 ws) ⊛ raw (fact 𝓤 (state_of ws.0 ≡ run_state back (state_of s.now) (length xs) n)) ⊛ raw (fact 𝓤 (k ≡ length ys)) ⊛
    raw (fact 𝓤 (ws.1.0 ≡ run_number back s.now.count (length xs) n)) ⊛ raw (fact 𝓤 (ws.1.1.0 ≡ ys ++ rest)))))) (id⊢ 𝓤 _) $ await ! tt $ pick ! (λ k. split ! $ split ! $ move ! (1 ∷ []) $
    peeks ! usize _ (shows 𝓛 usize) k (v ∷ []) (λ is. drop ! $
    -- [the tokens; the last values; what is kept; the locals]
    lands_as ! (ap only is.0) refl (tt, record { fits = is.1 }) $ move ! (1 ∷ []) $ pick ! (λ ws. split ! $ move ! (1 ∷ []) $
    split ! $ heard ! _ (λ state_is. split ! $ heard ! _ (λ k_is. split ! $ heard ! _ (λ answer_is. heard ! _ (λ out_is.
    fsplit3 ! $ move ! (2 ∷ []) $ fsplit ! $ fsplit ! $ fsplit ! $ move ! (6 ∷ []) $ split3 ! $ move ! (2 ∷ []) $ split ! $ lft_end ! tt $
    -- [α is over; nothing; the tokens; out's last list; its length; its borrow; the rest; the state's last value; the answer's; what is kept; the locals]
    move ! (0 ∷ 10 ∷ 4 ∷ []) $
    use3 𝓛 (later (some (λ (ε : GName). Part ε (length ys) ⊛ ‵ (flft κ₂ q₂) ⊛ ‵ (follows (Array u8 0) (Array u8 0) out.ghost_name ε (λ w. w ++ rest)))))
    (hands_front 𝓛 (named 2) κ₂ (α ∷ []) q₂ b o out.ghost_name xs rm ys rest δ ws.1.1.0 out_is) $ await ! tt $ pick ! (λ ε. split3 ! $
    rewrite ! 0 (Part ε) (sym k_is) refl $
    sets ! (addr ! (from ! (fld ! refl (hop ! (look_in_at ! 3 (sub ! 0 refl (whole !))) (stop !))))) refl (tt, tt) $
    sets ! (agg ! (and_then ! (get ! refl) (and_then ! (get ! refl) (no_more !)))) refl (tt, (tt, (record { fits = is.1 }, tt))) $
    returns ! (look_at ! 0 refl) $ free_all ! refl $ keep ! (0 ∷ 1 ∷ 2 ∷ 4 ∷ 5 ∷ 9 ∷ 10 ∷ []) $
    -- [the front part; out's token; what out ends as; the two tokens; the state's last value; the answer's]
    suffices ! _ (ends_at 𝓛 f.ended stayed c y (slice_val (b, o) k) (at ε ys) (ws.0, (ws.1.0, (tt, (tt, (tt, tt))))) (tt, (tt, (tt, (tt, (tt, tt)))))) $
    nothing ! $ nothing ! $ fjoin ! $ nothing ! $ fjoin ! $ nothing ! $ fjoin ! $ move ! (7 ∷ 0 ∷ []) $ fjoin ! $ move ! (6 ∷ 0 ∷ []) $ fjoin ! $ join ! $
    nothing ! $ move ! (2 ∷ 0 ∷ []) $ join ! $ move ! (4 ∷ 0 ∷ []) $ join ! $ move ! (3 ∷ 0 ∷ []) $ join ! $ join ! $ move ! (1 ∷ []) $
    use0 𝓛 (raw (fact 𝓤 ((out.ref_ptr ≡ out.ref_ptr) × (ys ≡ ys)))) (fact_i 𝓤 _ (emp 𝓤) (refl, refl)) $ join ! $
    use0 𝓛 (raw (fact 𝓤 (ws.1.0 ≡ run_number back s.now.count (length xs) n))) (fact_i 𝓤 _ (emp 𝓤) answer_is) $ join ! $
    use0 𝓛 (raw (fact 𝓤 (state_of ws.0 ≡ run_state back (state_of s.now) (length xs) n))) (fact_i 𝓤 _ (emp 𝓤) state_is) $ join ! $ move ! (1 ∷ []) $ done !)))))))))))))
