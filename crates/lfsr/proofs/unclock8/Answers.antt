-- `lfsr::unclock8` meets its contract: at each turn the cells from i on are those that eight clocks take to s.
use Prim.Native.Nat.{ℕ, ◌-◌, ◌+◌}
use mathlib.Core.Path.{◌≡◌, sym, ap, ap₂, subst, ◌∙◌}
use mathlib.Core.List.{List}
use native.Mathlib.Omega.{arith}
use Rattle.words.specs.Xor.{◌⊕◌}
use Rattle.lfsr.specs.Cells.{alpha, beta}
use Rattle.lfsr.specs.Clock.{IsLfsr, snow_v, cell}
use Rattle.lfsr.specs.Unclock.{old_a, old_b, solved_v}
use Rattle.lfsr.specs.Machine.{lfsr_of}
use Rattle.lfsr.proofs.Typed.{every_lfsr}
use Rattle.lfsr.proofs.SnowV.{lawful_v}
use Rattle.lfsr.proofs.Unwind.{Undone, raised, undone_none, undone_more, undone_all}
use Rattle.lfsr.proofs.unclock8.Goals as goal
use Rattle.lfsr.proofs.unclock8.Goals.{Start}

good : (c : Start) → IsLfsr (lfsr_of c.args.s)
good c = every_lfsr c.args.s _ c.well_formed.0

pub loop-i-init : goal.loop-i-init
loop-i-init c =
    subst (λ (l : List ℕ). Undone snow_v c.args.s.a c.args.s.b 8 l c.raised-b.result) (sym c.raised-a.ensures)
    (subst (λ (l : List ℕ). Undone snow_v c.args.s.a c.args.s.b 8 (raised c.args.s.a) l) (sym c.raised-b.ensures)
    (undone_none lawful_v (lfsr_of c.args.s) (good (goal.at.loop-i-init c).Start)))

pub loop-i-preserved : goal.loop-i-preserved
unfolding old_a old_b ◌⊕◌
loop-i-preserved c =
    let l = c.loop-i in
    let s = c.args.s in
    let i = l.i - 1 in
    let e : l.i ≡ i + 1 = omega arith in
    let p = ap (λ (z : ℕ). cell s.a (i + 8) ⊕ (cell l.a (i + 1) ⊕ z)) c.over.ensures in
    let q = ap (λ (z : ℕ). cell s.b (i + 8) ⊕ (cell l.b (i + 3) ⊕ z)) c.over-in-loop-i.ensures in
    let x = c.solve-x.ensures ∙ ap₂ (λ (z y : ℕ). solved_v (z ⊕ y)) q (c.times.ensures ∙ ap beta p) in
    let y : ◌≡◌ {A = ℕ} c.times-in-loop-i.result (alpha c.solve-x.result) = c.times-in-loop-i.ensures in
    undone_more lawful_v (lfsr_of s) (good (goal.at.loop-i-preserved c).Start) i l.a l.b (omega arith)
    (subst (λ (k : ℕ). Undone snow_v s.a s.b k l.a l.b) e l.invariant)
    _ _ x (ap₂ ◌⊕◌ p (y ∙ ap alpha x))

pub returns : goal.returns
returns c =
    let l = c.loop-i in
    let e : l.i ≡ 0 = omega arith in
    undone_all lawful_v (lfsr_of c.args.s) (good (goal.at.returns c).Start) l.a l.b (rw e at l.invariant)
