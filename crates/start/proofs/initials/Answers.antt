-- `start::initials` meets its contract: after i turns the lanes stand at step i of the start, and the registers A and B are its.
use Prim.Native.Nat.{ℕ, ◌+◌, ◌*◌, ◌<◌}
use mathlib.Core.Path.{◌≡◌, refl, sym, ap, subst, ◌∙◌}
use mathlib.Core.List.{List}
use native.Mathlib.Omega.{arith}
use lib.ListN.{length}
use lib.Seq.{length-sets}
use Rattle.words.specs.Xor.{xors}
use Rattle.words.specs.Bytes.{littles, part}
use Rattle.words.specs.Sums.{◌⊞◌}
use Rattle.words.specs.Machine.{bytes_of}
use Rattle.lfsr.specs.Machine.{lfsr_of}
use Rattle.cipher.specs.Registers.{IsRegisters}
use Rattle.cipher.specs.Step.{sigma}
use Rattle.cipher.specs.Machine.{registers_of}
use Rattle.cipher.proofs.Typed.{every_registers}
use Rattle.cipher.proofs.Standing.{Turned, standing_first, standing_read}
use Rattle.start.specs.Start.{initials}
use Rattle.start.proofs.Feeding.{Fed, fed_more}
use Rattle.start.proofs.initials.Goals as goal
use Rattle.start.proofs.initials.Goals.{After-fed-k, After-store-in-loop-i, After-store-in-loop-i-2, In-loop-i, Start}

good : (c : Start) → IsRegisters (registers_of c.args.s)
good c = every_registers c.args.s _ c.well_formed.0

-- a turn stays inside the lanes
few : (c : In-loop-i) → c.loop-i.i < 16
few c = let h = c.requires.0 in omega arith

-- the lanes keep their length
kept1 : (c : After-store-in-loop-i) → length c.store-in-loop-i.new.out ≡ 272
kept1 c =
    let l = c.loop-i in
    ap length c.store-in-loop-i.ensures ∙ length-sets l.l1 (16 * l.i + 16) (bytes_of c.next_r1-n1.result) ∙ l.invariant.0.stands.long1

kept2 : (c : After-store-in-loop-i-2) → length c.store-in-loop-i-2.new.out ≡ 272
kept2 c =
    let l = c.loop-i in
    ap length c.store-in-loop-i-2.ensures ∙ length-sets l.l2 (16 * l.i + 16) (bytes_of c.round_at-n2.result) ∙ l.invariant.0.stands.long2

pub loop-i-init : goal.loop-i-init
unfolding initials
loop-i-init c =
    let S = registers_of c.args.s in (
      record { stands = standing_first S (good (goal.at.loop-i-init c).Start) _ _ _ _ refl refl c.store.ensures c.store-2.ensures; lfsr = refl },
      refl,
      refl,
    )

pub taps-m-requires : goal.taps-m-requires
taps-m-requires c = let l = c.loop-i in (omega arith, l.invariant.1, l.invariant.2)

pub tap-requires : goal.tap-requires
tap-requires c = (c.taps-m.ensures.taps.long2, omega arith)

pub next_r1-n1-requires : goal.next_r1-n1-requires
next_r1-n1-requires c = omega (arith, few (goal.at.next_r1-n1-requires c).In-loop-i, c.loop-i.invariant.0.stands.long2)

pub slice_bounds-next_r1-end : goal.slice_bounds-next_r1-end
slice_bounds-next_r1-end c = sym c.loop-i.invariant.0.stands.long2

pub slice_bounds-round_at-end : goal.slice_bounds-round_at-end
slice_bounds-round_at-end c = sym (kept1 (goal.at.slice_bounds-round_at-end c).After-store-in-loop-i)

pub round_at-n2-requires : goal.round_at-n2-requires
round_at-n2-requires c =
    (omega (arith, few (goal.at.round_at-n2-requires c).In-loop-i, kept1 (goal.at.round_at-n2-requires c).After-store-in-loop-i), c.requires.1)

pub slice_bounds-round_at-end-in-loop-i : goal.slice_bounds-round_at-end-in-loop-i
slice_bounds-round_at-end-in-loop-i c = sym c.loop-i.invariant.0.stands.long2

pub round_at-n3-requires : goal.round_at-n3-requires
round_at-n3-requires c =
    (omega (arith, few (goal.at.round_at-n3-requires c).In-loop-i, c.loop-i.invariant.0.stands.long2), c.requires.1)

pub slice_bounds-store-end-in-loop-i : goal.slice_bounds-store-end-in-loop-i
slice_bounds-store-end-in-loop-i c = sym c.loop-i.invariant.0.stands.long1

pub store-requires-in-loop-i : goal.store-requires-in-loop-i
store-requires-in-loop-i c = omega (arith, few (goal.at.store-requires-in-loop-i c).In-loop-i, c.loop-i.invariant.0.stands.long1)

pub slice_bounds-store-end-in-loop-i-2 : goal.slice_bounds-store-end-in-loop-i-2
slice_bounds-store-end-in-loop-i-2 c = sym c.loop-i.invariant.0.stands.long2

pub store-requires-in-loop-i-2 : goal.store-requires-in-loop-i-2
store-requires-in-loop-i-2 c = omega (arith, few (goal.at.store-requires-in-loop-i-2 c).In-loop-i, c.loop-i.invariant.0.stands.long2)

pub slice_bounds-output-end : goal.slice_bounds-output-end
slice_bounds-output-end c = sym (kept1 (goal.at.slice_bounds-output-end c).After-store-in-loop-i)

pub slice_bounds-output-end-in-loop-i : goal.slice_bounds-output-end-in-loop-i
slice_bounds-output-end-in-loop-i c = sym (kept2 (goal.at.slice_bounds-output-end-in-loop-i c).After-store-in-loop-i-2)

pub tap-requires-in-loop-i : goal.tap-requires-in-loop-i
tap-requires-in-loop-i c = (c.taps-m.ensures.taps.long1, omega arith)

pub output-requires : goal.output-requires
output-requires c =
    let h = few (goal.at.output-requires c).In-loop-i in
    let k1 = kept1 (goal.at.output-requires c).After-store-in-loop-i in
    let k2 = kept2 (goal.at.output-requires c).After-store-in-loop-i-2 in
    (omega arith, omega arith)

turned : (c : After-fed-k) → let l = c.loop-i in let t = c.taps-m.new in
    Turned (16 * l.i) l.l1 l.l2 (bytes_of l.r3) (littles 2 (part 0 8 t.t1)) (littles 2 (part 0 8 t.t2))
    c.store-in-loop-i.new.out c.store-in-loop-i-2.new.out (bytes_of c.round_at-n3.result) (bytes_of c.output.result)
turned c =
    let l = c.loop-i in
    record {
      n1 = bytes_of c.next_r1-n1.result;
      n2 = bytes_of c.round_at-n2.result;
      makes1 = c.next_r1-n1.ensures ∙ ap (λ (x : List ℕ). sigma (part (16 * l.i) 16 l.l2 ⊞ xors (bytes_of l.r3) x)) c.tap.ensures;
      makes2 = c.round_at-n2.ensures;
      makes3 = c.round_at-n3.ensures;
      writes1 = c.store-in-loop-i.ensures;
      writes2 = c.store-in-loop-i-2.ensures;
      gives = c.output.ensures
          ∙ ap (λ (x : List ℕ). xors (part (16 * l.i) 16 c.store-in-loop-i.new.out ⊞ x) (part (16 * l.i) 16 c.store-in-loop-i-2.new.out)) c.tap-in-loop-i.ensures;
    }

pub loop-i-preserved : goal.loop-i-preserved
loop-i-preserved c =
    let l = c.loop-i in
    let p = c.taps-m.ensures in (
      fed_more (registers_of c.args.s) (good (goal.at.loop-i-preserved c).Start) l.i (few (goal.at.loop-i-preserved c).In-loop-i) l.invariant.0 p.taps (turned (goal.at.loop-i-preserved c).After-fed-k) p.lfsr c.fed-k.ensures,
      p.taps.long1,
      p.taps.long2,
    )

pub returns : goal.returns
returns c =
    let S = registers_of c.args.s in
    let e : c.loop-i.i ≡ c.args.n = omega arith in
    let f = subst (λ (k : ℕ). Fed S k c.loop-i.l1 c.loop-i.l2 (bytes_of c.loop-i.r3) (lfsr_of c.loop-i.l)) e c.loop-i.invariant.0 in
    c.moved_to.ensures ∙ standing_read _ f.stands f.lfsr
