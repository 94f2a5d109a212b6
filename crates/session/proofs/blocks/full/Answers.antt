-- `session::blocks::full` meets its contract: the bytes that fill a block are held, and the block is sent on.
use Prim.Native.Nat.{◌+◌, ◌-◌, ◌%◌, ◌<◌}
use mathlib.Core.Path.{◌≡◌, sym, ap, ◌∙◌}
use native.Mathlib.Omega.{arith}
use borrow.Author.Rules.{rules}
use lib.ListN.{length}
use lib.Seq.{slice, length-slice, take_all}
use Rattle.words.specs.Machine.{bytes_of}
use Rattle.ghash.specs.Hash.{eat}
use Rattle.digest.specs.Sum.{Sum}
use Rattle.session.specs.Machine.{session_of}
use Rattle.session.specs.Inner.{counted}
use Rattle.session.proofs.Going.{none, all_session, all_output}
use Rattle.session.proofs.Made.{held_long, full_session, part_out}
use Rattle.session.proofs.blocks.full.Goals as goal
use Rattle.session.proofs.blocks.full.Goals.{After-hold-r, Else-from-to, Start}

pub returns-then-from-to : goal.returns-then-from-to
returns-then-from-to c =
    let a = c.args in
    let g = none (session_of a.s) a.piece.now a.out.now a.from a.to c.requires.0.ordered in
    record { session = all_session g c.if-from-to.true; out = all_output g c.if-from-to.true }

some : (c : Else-from-to) → let a = c.args in (0 < a.to - a.from) × (a.s.text % 16 + (a.to - a.from) ≡ 16)
some c = (omega arith, omega (arith, c.requires.1))

start-long : (c : Start) → length c.args.s.held.pending ≡ 16
start-long c = search rules

pending-long : (c : After-hold-r) → length c.hold-r.result.held.pending ≡ 16
pending-long c =
    let start-long : length c.args.s.held.pending ≡ 16 = search rules in
    held_long (session_of c.args.s) c.hold-r.result _ c.hold-r.ensures.session ∙ start-long

pub hold-r-requires : goal.hold-r-requires
hold-r-requires c =
    let q = c.requires in
    let e = (some (goal.at.hold-r-requires c).Else-from-to).1 in
    (q.0, omega arith, q.2.of_rounds, omega (arith, q.3))

pub slice_bounds-load-end : goal.slice_bounds-load-end
slice_bounds-load-end c = sym (pending-long (goal.at.slice_bounds-load-end c).After-hold-r)

pub load-requires : goal.load-requires
load-requires c = let n = pending-long (goal.at.load-requires c).After-hold-r in omega arith

pub absorb-v-requires : goal.absorb-v-requires
absorb-v-requires c = c.requires.2.of_h

pub returns : goal.returns
returns c =
    let a = c.args in
    let S = session_of a.s in
    let r = c.hold-r.result in
    let part = slice a.from a.to a.piece.now in
    let n : length part ≡ a.to - a.from = length-slice a.from a.to a.piece.now c.requires.0.read in
    let z : 0 < length part = rw n (some (goal.at.returns c).Else-from-to).0 in
    let full : a.s.text % 16 + length part ≡ 16 = rw n (some (goal.at.returns c).Else-from-to).1 in
    let k = pending-long (goal.at.returns c).After-hold-r in
    let x : bytes_of c.load.result ≡ r.held.pending = c.load.ensures ∙ take_all 16 r.held.pending (omega arith) in record {
      session = ap (λ (y : Sum). counted (session_of r) r.text y) c.fresh-e.ensures
          ∙ full_session S r part c.hold-r.ensures.session z full _ (c.absorb-v.ensures ∙ ap (eat S.h (session_of r).sum.hash) x);
      out = part_out S r part c.hold-r.ensures.session z (omega arith) a.out.now _ a.from c.hold-r.ensures.out;
    }
