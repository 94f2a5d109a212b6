-- `search::upward` meets its contract: at each turn the registers lie as many steps back as the count says, as many steps are counted as were walked, and what is
-- found from this count on is what the whole range has.
use Prim.Native.Nat.{ℕ, suc, ◌+◌, ◌-◌, ◌≤◌, ◌<◌}
use mathlib.Core.Path.{◌≡◌, refl, sym, ap, subst, ◌∙◌}
use mathlib.Core.List.{List}
use native.Mathlib.Omega.{arith}
use native.Mathlib.Numerals.{add-one}
use lib.ListN.{length, length-append}
use Rattle.scope.specs.Limits.{most_blocks}
use Rattle.words.specs.declared.Block.{Block}
use Rattle.words.proofs.Blocks.{bytes_of_block}
use Rattle.cipher.specs.Registers.{Registers}
use Rattle.cipher.specs.Run.{backward, move, moves}
use Rattle.cipher.specs.Machine.{registers_of}
use Rattle.start.specs.Trace.{loaded, unload}
use Rattle.search.specs.Search.{Searched, Searched.refused}
use Rattle.search.specs.Counts.{told, at_count, upward}
use Rattle.search.specs.Machine.{searched_of}
use Rattle.search.proofs.Turns.{told_steps, tried_walks, upward_last, upward_found, upward_on}
use Rattle.search.proofs.upward.Invariants.{key_of, Stands}
use Rattle.search.proofs.upward.Goals as goal

key_long : (low high : Block) → length (key_of low high) ≡ 32
key_long low high = simp length-append (omega (arith, (bytes_of_block low).long, (bytes_of_block high).long))

-- what is found at a count, by the walk
module _ {low high : Block} {s t : Registers} {lowest highest c n : ℕ} (w : Stands low high s lowest highest c t n) where
  abbrev key : List ℕ
  key = key_of low high

  here : c ≤ most_blocks → {r : Searched} → r ≡ told (unload key (loaded key t)) c (n + 16) → r ≡ at_count key s lowest c
  here h e = e ∙ tried_walks key s lowest c (key_long low high) h t w.back n w.counted

  -- from a count at which nothing is found to the next
  next : c < highest → {u : Registers} {k j m : ℕ} → at_count key s lowest c ≡ refused k j → u ≡ moves backward 1 t → m ≡ n + 16 + 1 → lowest ≤ c
      → Stands low high s lowest highest (c + 1) u m
  unfolding moves
  next h e eu em lo =
      let k = highest - (c + 1) in
      let q : highest - c ≡ suc k = omega arith in
      record {
        back = eu ∙ ap (move backward) w.back ∙ ap (λ (k : ℕ). moves backward k s) (sym (add-one c));
        counted = omega (arith, w.counted, em);
        rest =
            ap (λ (i : ℕ). upward key s lowest i k) (add-one c)
            ∙ sym (upward_on key s lowest c e k)
            ∙ ap (upward key s lowest c) (sym q)
            ∙ w.rest;
      }

pub loop-c-init : goal.loop-c-init
loop-c-init c =
    let w = c.walked_back-w.ensures in record { back = w.registers; counted = omega (arith, w.steps); rest = refl }

pub tried-requires : goal.tried-requires
tried-requires c = (omega (arith, c.loop-c.invariant.counted), c.requires.2)

pub tried-requires-2 : goal.tried-requires-2
tried-requires-2 c = (omega (arith, c.loop-c.invariant.counted), c.requires.2)

pub walked_back-w-requires : goal.walked_back-w-requires
walked_back-w-requires c = (omega arith, c.requires.2)

pub walked_back-w-requires-in-Err : goal.walked_back-w-requires-in-Err
walked_back-w-requires-in-Err c =
    let m = told_steps _ c.loop-c.c (c.loop-c.w.steps + 16) (sym c.tried.ensures ∙ ap searched_of c.in-Err.is) in
    (omega (arith, c.loop-c.invariant.counted, m), c.requires.2)

pub returns-in-Ok : goal.returns-in-Ok
returns-in-Ok c =
    let w = c.loop-c.invariant in
    let e = ap searched_of c.in-Ok.is in
    upward_found _ (registers_of c.args.s) c.args.lowest c.loop-c.c (sym (here w (omega arith) c.tried.ensures) ∙ e) (c.args.highest - c.loop-c.c) ∙ w.rest

pub loop-c-preserved : goal.loop-c-preserved
loop-c-preserved c =
    let w = c.loop-c.invariant in
    let e = ap searched_of c.in-Err.is in
    let m = told_steps _ c.loop-c.c (c.loop-c.w.steps + 16) (sym c.tried.ensures ∙ e) in
    let v = c.walked_back-w-in-Err.ensures in
    next w (omega arith) (sym (here w (omega arith) c.tried.ensures) ∙ e) v.registers (omega (arith, v.steps, m)) (omega arith)

pub returns : goal.returns
returns c =
    let a = c.args in
    let l = c.loop-c in
    let e : l.c ≡ a.highest = omega arith in
    let w = subst (λ (k : ℕ). Stands a.low a.high (registers_of a.s) a.lowest a.highest k (registers_of l.w.registers) l.w.steps) e l.invariant in
    here w (omega arith) c.tried-2.ensures ∙ upward_last _ (registers_of a.s) a.lowest a.highest (omega arith) ∙ w.rest
