-- `session::blocks::long_text` meets its contract: head, whole blocks and tail are done one after the other, each from where the one before ended.
use Prim.Native.Nat.{◌≤◌}
use mathlib.Core.Path.{refl}
use native.Mathlib.Nat.{le_trans, le_refl}
use native.Mathlib.Omega.{arith}
use lib.ListN.{length}
use Rattle.digest.proofs.Slices.{head_of, tail_of}
use Rattle.session.specs.Machine.{session_of}
use Rattle.session.proofs.Going.{Going, none, more, whole, Parts, parts, begins, ends, counted, drawing}
use Rattle.session.proofs.blocks.long_text.Goals as goal
use Rattle.session.proofs.blocks.long_text.Goals.{After-blocks-v, After-few, After-full-u, Start}

cuts : (c : Start) → Parts c.args.s.text (length c.args.piece.now)
cuts c = parts c.args.s.text (length c.args.piece.now) (omega (arith, c.requires.1))

-- the head is done, then the blocks, then the tail
headed : (c : After-full-u) → let a = c.args in Going (session_of a.s) a.piece.now a.out.now 0 (length a.piece.now) c.full-u.new.out (session_of c.full-u.result) (head_of a.s.text)
headed c =
    let cuts : Parts c.args.s.text (length c.args.piece.now) = parts c.args.s.text (length c.args.piece.now) (omega (arith, c.requires.1)) in
    let a = c.args in
    let q = cuts in
    let g = none (session_of a.s) a.piece.now a.out.now 0 (length a.piece.now) (omega arith) in
    more g _ (session_of c.full-u.result) (head_of a.s.text) (omega arith) (le_trans q.head_tail q.tail_end) (le_refl _) c.full-u.ensures.session c.full-u.ensures.out

blocked : (c : After-blocks-v) → let a = c.args in Going (session_of a.s) a.piece.now a.out.now 0 (length a.piece.now) c.blocks-v.new.out (session_of c.blocks-v.result) (tail_of a.s.text (length a.piece.now))
blocked c =
    let cuts : Parts c.args.s.text (length c.args.piece.now) = parts c.args.s.text (length c.args.piece.now) (omega (arith, c.requires.1)) in
    let headed : let a = c.args in Going (session_of a.s) a.piece.now a.out.now 0 (length a.piece.now) c.full-u.new.out (session_of c.full-u.result) (head_of a.s.text) = let cuts : Parts c.args.s.text (length c.args.piece.now) = parts c.args.s.text (length c.args.piece.now) (omega (arith, c.requires.1)) in
    let a = c.args in
    let q = cuts in
    let g = none (session_of a.s) a.piece.now a.out.now 0 (length a.piece.now) (omega arith) in
    more g _ (session_of c.full-u.result) (head_of a.s.text) (omega arith) (le_trans q.head_tail q.tail_end) (le_refl _) c.full-u.ensures.session c.full-u.ensures.out in
    let a = c.args in
    let q = cuts in
    more headed _ (session_of c.blocks-v.result) (tail_of a.s.text (length a.piece.now)) q.head_tail q.tail_end (le_refl _) c.blocks-v.ensures.session c.blocks-v.ensures.out

ended : (c : After-few) → let a = c.args in Going (session_of a.s) a.piece.now a.out.now 0 (length a.piece.now) c.few.new.out (session_of c.few.result) (length a.piece.now)
ended c =
    let cuts : Parts c.args.s.text (length c.args.piece.now) = parts c.args.s.text (length c.args.piece.now) (omega (arith, c.requires.1)) in
    let blocked : let a = c.args in Going (session_of a.s) a.piece.now a.out.now 0 (length a.piece.now) c.blocks-v.new.out (session_of c.blocks-v.result) (tail_of a.s.text (length a.piece.now)) = let cuts : Parts c.args.s.text (length c.args.piece.now) = parts c.args.s.text (length c.args.piece.now) (omega (arith, c.requires.1)) in
    let headed : let a = c.args in Going (session_of a.s) a.piece.now a.out.now 0 (length a.piece.now) c.full-u.new.out (session_of c.full-u.result) (head_of a.s.text) = let cuts : Parts c.args.s.text (length c.args.piece.now) = parts c.args.s.text (length c.args.piece.now) (omega (arith, c.requires.1)) in
    let a = c.args in
    let q = cuts in
    let g = none (session_of a.s) a.piece.now a.out.now 0 (length a.piece.now) (omega arith) in
    more g _ (session_of c.full-u.result) (head_of a.s.text) (omega arith) (le_trans q.head_tail q.tail_end) (le_refl _) c.full-u.ensures.session c.full-u.ensures.out in
    let a = c.args in
    let q = cuts in
    more headed _ (session_of c.blocks-v.result) (tail_of a.s.text (length a.piece.now)) q.head_tail q.tail_end (le_refl _) c.blocks-v.ensures.session c.blocks-v.ensures.out in
    let a = c.args in
    let q = cuts in
    more blocked _ (session_of c.few.result) (length a.piece.now) q.tail_end (le_refl _) (le_refl _) c.few.ensures.session c.few.ensures.out

pub full-u-requires : goal.full-u-requires
full-u-requires c =
    let a = c.args in
    let q = cuts (goal.at.full-u-requires c).Start in
    let n = length a.piece.now in
    let h : head_of a.s.text ≤ n = le_trans q.head_tail q.tail_end in (
      record {
        ordered = omega arith;
        read = h;
        room = le_trans h c.requires.0.room;
        counts = counted a.s.text a.s.text 0 (head_of a.s.text) n _ (omega arith) h refl c.requires.0.counts;
      },
      omega arith,
      c.requires.2,
      drawing a.s.state.count a.s.state.count 0 (head_of a.s.text) n _ (omega arith) h (le_refl _) c.requires.3,
    )

pub blocks-v-requires : goal.blocks-v-requires
blocks-v-requires c =
    let a = c.args in
    let q = cuts (goal.at.blocks-v-requires c).Start in
    let g = headed (goal.at.blocks-v-requires c).After-full-u in
    let n = length a.piece.now in (
      record {
        part = record {
          ordered = q.head_tail;
          read = q.tail_end;
          room = rw g.size (le_trans q.tail_end c.requires.0.room);
          counts = counted c.full-u.result.text a.s.text (head_of a.s.text) (tail_of a.s.text n) n _ q.head_tail q.tail_end g.counts c.requires.0.counts;
        };
        start = begins a.s.text c.full-u.result.text n q g.counts;
        whole = q.blocks;
      },
      rw g.key c.requires.2,
      drawing c.full-u.result.state.count a.s.state.count (head_of a.s.text) (tail_of a.s.text n) n _ q.head_tail q.tail_end g.draws c.requires.3,
    )

pub few-requires : goal.few-requires
few-requires c =
    let a = c.args in
    let q = cuts (goal.at.few-requires c).Start in
    let g = blocked (goal.at.few-requires c).After-blocks-v in
    let n = length a.piece.now in (
      record {
        ordered = q.tail_end;
        read = le_refl n;
        room = rw g.size c.requires.0.room;
        counts = counted c.blocks-v.result.text a.s.text (tail_of a.s.text n) n n _ q.tail_end (le_refl n) g.counts c.requires.0.counts;
      },
      ends a.s.text c.blocks-v.result.text n q g.counts,
      c.requires.2.of_rounds,
      drawing c.blocks-v.result.state.count a.s.state.count (tail_of a.s.text n) n n _ q.tail_end (le_refl n) g.draws c.requires.3,
    )

pub returns : goal.returns
returns c = let p = (whole (ended (goal.at.returns c).After-few) refl c.requires.0.room) in record { session = p.0; out = p.1 }

pub overflow_sub-tail : goal.overflow_sub-tail
overflow_sub-tail c = omega (arith, c.requires.1)

pub overflow_mul-tail : goal.overflow_mul-tail
overflow_mul-tail c = omega (arith, c.requires.1)

pub overflow_add-tail : goal.overflow_add-tail
overflow_add-tail c = omega (arith, c.requires.1)
