-- `session::blocks::blocks` meets its contract: whole blocks are a pass of their own, and what it makes is what the definition makes of the session and the output.
use Prim.Native.Nat.{ℕ, ◌+◌, ◌-◌, ◌*◌, ◌/◌, ◌%◌, ◌<◌, ◌≤◌}
use mathlib.Core.Path.{◌≡◌, sym, ap, ap₂, ◌∙◌}
use mathlib.Core.List.{List}
use native.Mathlib.Omega.{arith}
use borrow.Author.Rules.{rules}
use lib.ListN.{length, take, drop}
use lib.Seq.{sets, slice, length-slice}
use Rattle.words.specs.Xor.{xors}
use Rattle.words.specs.Bytes.{part}
use Rattle.ghash.specs.Hash.{hash_from}
use Rattle.ghash.specs.Machine.{bytes_of_element}
use Rattle.cipher.specs.Registers.{IsRegisters}
use Rattle.cipher.specs.Machine.{registers_of}
use Rattle.cipher.proofs.Typed.{every_state}
use Rattle.digest.specs.Sum.{fresh}
use Rattle.digest.proofs.Slices.{slice_take}
use Rattle.pass.specs.Inner.{under_blocks}
use Rattle.pass.proofs.Sealing.{sealed_own, last_drawn}
use Rattle.session.specs.Machine.{session_of}
use Rattle.session.proofs.Going.{none, all_session, all_output}
use Rattle.session.proofs.Whole.{drawn_blocks, whole_taken}
use Rattle.session.proofs.blocks.blocks.Goals as goal
use Rattle.session.proofs.blocks.blocks.Goals.{Else-from-to, Start}

pub returns-then-from-to : goal.returns-then-from-to
returns-then-from-to c =
    let a = c.args in
    let g = none (session_of a.s) a.piece.now a.out.now a.from a.to c.requires.0.part.ordered in
    record { session = all_session g c.if-from-to.true; out = all_output g c.if-from-to.true }

-- the part is n blocks
whole : (from to : ℕ) → from ≤ to → (to - from) % 16 ≡ 0 → to ≡ from + 16 * ((to - from) / 16)
whole from to h e = omega arith

held-long : (c : Start) → length c.args.s.held.pending ≡ 16
held-long c = search rules

pub sealed_blocks-u-requires : goal.sealed_blocks-u-requires
sealed_blocks-u-requires c =
    let q = c.requires.0 in
    let e = whole c.args.from c.args.to q.part.ordered q.whole in
    (omega (arith, e, q.part.read), omega (arith, e, q.part.room), c.requires.1)

-- there is a last one
last : (c : Else-from-to) → let a = c.args in 16 ≤ a.to
last c = let q = c.requires.0 in omega (arith, q.part.ordered, q.whole, c.if-from-to.false)

pub overflow_add-r : goal.overflow_add-r
overflow_add-r c = record { fits = omega (arith, c.requires.2) }

pub overflow_sub-r : goal.overflow_sub-r
overflow_sub-r c = c.requires.0.part.ordered

pub returns : goal.returns
returns c =
    let w = c.sealed_blocks-u in
    let a = c.args in
    let q = c.requires.0 in
    let s = session_of a.s in
    let r = registers_of a.s.state.registers in
    let h = bytes_of_element a.s.h in
    let y = bytes_of_element a.s.held.acc in
    let g : IsRegisters r = every_state a.s.state _ c.well_formed.0.1.1.1.1.1.1.1.1.1.0 in
    let n = (a.to - a.from) / 16 in
    let p = slice a.from a.to a.piece.now in
    let e = whole a.from a.to q.part.ordered q.whole in
    let some : 0 < n = omega (arith, e, q.part.ordered, c.if-from-to.false) in
    let f : take (16 * n) (drop a.from a.piece.now) ≡ p = sym (ap (λ (m : ℕ). slice a.from m a.piece.now) e ∙ slice_take a.from (16 * n) a.piece.now) in
    let long : length p ≡ 16 * n = length-slice a.from a.to a.piece.now q.part.read ∙ omega (arith, e) in
    let done = sealed_own h r g a.piece.now a.from n a.out.now y (omega (arith, e, q.part.read)) w.ensures.pass in
    let at : a.to - 16 ≡ a.from + 16 * (n - 1) = omega (arith, e, some) in
    let z =
    c.xor-z.ensures ∙ ap₂ xors c.load-x.ensures c.load-c.ensures
    ∙ ap (λ (k : ℕ). xors (part k 16 a.piece.now) (part k 16 w.new.out)) at
    ∙ last_drawn h r g a.piece.now a.from n a.out.now y (omega (arith, e, q.part.read)) (n - 1) (omega (arith, some)) (omega (arith, e, q.part.room)) done.0 in
    let m : a.s.text + (a.to - a.from) ≡ a.s.text + 16 * n = omega (arith, e) in record {
      session = (λ i. record {
        phase = s.phase;
        ad = s.ad;
        text = m i;
        state = record { registers = w.ensures.registers i; count = s.state.count + n };
        h = s.h;
        pad = s.pad;
        current = z i;
        sum = (c.fresh-e.ensures ∙ ap fresh (done.1 ∙ ap (λ (v : List ℕ). hash_from s.h s.sum.hash (under_blocks r n v)) f)) i;
        iv = s.iv;
      })
          ∙ sym (whole_taken s g q.start n p long some (held-long (goal.at.returns c).Start));
      out = done.0 ∙ ap (λ (v : List ℕ). sets a.out.now a.from (under_blocks r n v)) f ∙ ap (sets a.out.now a.from) (sym (drawn_blocks s g q.start n p long).output);
    }

pub shape_of-out : goal.shape_of-out
shape_of-out c = c.sealed_blocks-u.auto.out
