-- n steps one way and n the other return the state, for every n and either way first, and the second run gives the same blocks again in the
-- opposite order. Both ways are one law over the direction.
use mathlib.Core.Path.{◌≡◌, refl, sym, ap, ap₂, ◌∙◌}
use mathlib.Core.Bool.{Bool, true, false, not}
use mathlib.Core.List.{List, [], ◌∷◌, ◌++◌, append_assoc, append-nil}
use Prim.Native.Nat.{ℕ, zero, suc, ◌+◌, ◌-◌, ◌*◌, ◌≤◌}
use native.Mathlib.Omega.{arith}
use native.Mathlib.Nat.{add-zero, add-suc}
use lib.ListN.{length, take, length-append}
use lib.Seq.{take_at, drop_at}
use Rattle.words.specs.Bytes.{IsBlock, part, joined}
use Rattle.cipher.specs.Registers.{Registers, IsRegisters}
use Rattle.cipher.specs.Step.{z}
use Rattle.cipher.specs.Back.{back}
use Rattle.cipher.specs.Run.{move, made, moves, zs, blocks}
use Rattle.cipher.specs.Laws.{reversed}
use Rattle.cipher.proofs.Inverse.{step_good, back_good, back_step, step_back, z_block}

-- ---- one step

pub move_good : (d : Bool) (s : Registers) → IsRegisters s → IsRegisters (move d s)
unfolding move
move_good true s g = back_good s g
move_good false s g = step_good s g

pub move_undone : (d : Bool) (s : Registers) → IsRegisters s → move (not d) (move d s) ≡ s
unfolding move
move_undone true s g = step_back s g
move_undone false s g = back_step s g

pub made_block : (d : Bool) (s : Registers) → IsRegisters s → IsBlock (made d s)
unfolding made
made_block true s g = z_block (back s) (back_good s g)
made_block false s g = z_block s g

-- the z of undoing a step is the step's
pub made_again : (d : Bool) (s : Registers) → IsRegisters s → made (not d) (move d s) ≡ made d s
unfolding made move
made_again true s g = refl
made_again false s g = ap z (back_step s g)

-- ---- n steps

pub moves_good : (d : Bool) (n : ℕ) (s : Registers) → IsRegisters s → IsRegisters (moves d n s)
unfolding moves
moves_good d zero s g = g
moves_good d (suc n) s g = move_good d (moves d n s) (moves_good d n s g)

pub moves_add : (d : Bool) (m n : ℕ) (s : Registers) → moves d n (moves d m s) ≡ moves d (m + n) s
unfolding moves
moves_add d m zero s = rw add-zero
moves_add d m (suc n) s = rw add-suc (ap (move d) (moves_add d m n s))

-- the first of n + 1 steps may be taken for the one by itself
pub moves_first : (d : Bool) (n : ℕ) (s : Registers) → moves d (suc n) s ≡ moves d n (move d s)
unfolding moves
moves_first d zero s = refl
moves_first d (suc n) s = ap (move d) (moves_first d n s)

pub moves_undone : (d : Bool) (n : ℕ) (s : Registers) → IsRegisters s → moves (not d) n (moves d n s) ≡ s
unfolding moves
moves_undone d zero s g = refl
moves_undone d (suc n) s g =
    moves_first (not d) n (move d (moves d n s))
    ∙ ap (moves (not d) n) (move_undone d (moves d n s) (moves_good d n s g))
    ∙ moves_undone d n s g

-- ---- their blocks

zs_first : (d : Bool) (n : ℕ) (s : Registers) → zs d (suc n) s ≡ made d s ∷ zs d n (move d s)
unfolding zs moves
zs_first d zero s = refl
zs_first d (suc n) s =
    ap₂ (λ (l : List (List ℕ)) (t : Registers). l ++ (made d t ∷ [])) (zs_first d n s) (moves_first d n s)

reversed_last : (xs : List (List ℕ)) (x : List ℕ) → reversed (xs ++ (x ∷ [])) ≡ x ∷ reversed xs
reversed_last [] x = refl
reversed_last (y ∷ xs) x = ap (λ (l : List (List ℕ)). l ++ (y ∷ [])) (reversed_last xs x)

pub zs_undone : (d : Bool) (n : ℕ) (s : Registers) → IsRegisters s → zs (not d) n (moves d n s) ≡ reversed (zs d n s)
unfolding zs moves
zs_undone d zero s g = refl
zs_undone d (suc n) s g =
    let t = moves d n s in
    let h = moves_good d n s g in
    zs_first (not d) n (move d (moves d n s))
    ∙ ap₂ (λ (x : List ℕ) (l : List (List ℕ)). x ∷ l) (made_again d (moves d n s) h)
    (ap (zs (not d) n) (move_undone d (moves d n s) h) ∙ zs_undone d n s g)
    ∙ sym (reversed_last (zs d n s) (made d (moves d n s)))

joined_append : (xs ys : List (List ℕ)) → joined (xs ++ ys) ≡ joined xs ++ joined ys
joined_append [] ys = refl
joined_append (x ∷ xs) ys = ap (λ (l : List ℕ). x ++ l) (joined_append xs ys) ∙ sym (append_assoc x (joined xs) (joined ys))

pub blocks_more : (d : Bool) (n : ℕ) (s : Registers) → blocks d (suc n) s ≡ blocks d n s ++ made d (moves d n s)
unfolding blocks zs
blocks_more d n s = joined_append (zs d n s) (made d (moves d n s) ∷ []) ∙ ap (λ (l : List ℕ). joined (zs d n s) ++ l) (append-nil (made d (moves d n s)))

pub blocks_one : (d : Bool) (s : Registers) → blocks d 1 s ≡ made d s
unfolding blocks zs moves
blocks_one d s = append-nil (made d s)

pub blocks_add : (d : Bool) (m n : ℕ) (s : Registers) → blocks d (m + n) s ≡ blocks d m s ++ blocks d n (moves d m s)
unfolding blocks zs
blocks_add d m zero s = rw add-zero (sym (append-nil (blocks d m s)))
blocks_add d m (suc n) s =
    rw (add-suc, blocks_more, blocks_more)
    (ap₂ (λ (l : List ℕ) (t : Registers). l ++ made d t) (blocks_add d m n s) (sym (moves_add d m n s))
    ∙ append_assoc (blocks d m s) (blocks d n (moves d m s)) (made d (moves d n (moves d m s))))

pub blocks_length : (d : Bool) (n : ℕ) (s : Registers) → IsRegisters s → length (blocks d n s) ≡ 16 * n
unfolding blocks zs
blocks_length d zero s g = refl
blocks_length d (suc n) s g =
    let e = blocks_more d n s in
    let f = length-append (blocks d n s) (made d (moves d n s)) in
    let h : length (made d (moves d n s)) ≡ 16 = (made_block d (moves d n s) (moves_good d n s g)).long in
    let ih = blocks_length d n s g in
    ap length e ∙ f ∙ omega (arith, h, ih)

-- k of n blocks, from block i on
pub blocks_part : (d : Bool) (i k n : ℕ) (s : Registers) → IsRegisters s → i + k ≤ n → part (16 * i) (16 * k) (blocks d n s) ≡ blocks d k (moves d i s)
blocks_part d i k n s g h =
    let m = n - (i + k) in
    let e : n ≡ i + (k + m) = omega arith in
    let t = moves d i s in
    ap (λ (j : ℕ). part (16 * i) (16 * k) (blocks d j s)) e
    ∙ ap (part (16 * i) (16 * k)) (blocks_add d i (k + m) s)
    ∙ ap (take (16 * k)) (drop_at (blocks d i s) (blocks d (k + m) t) (16 * i) (blocks_length d i s g))
    ∙ ap (take (16 * k)) (blocks_add d k m t)
    ∙ take_at (blocks d k t) (blocks d m (moves d k t)) (16 * k) (blocks_length d k t (moves_good d i s g))
