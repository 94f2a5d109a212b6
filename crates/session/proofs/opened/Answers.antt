-- `session::opened` meets its contract: H and the end pad are the blocks of two steps.
use mathlib.Core.Path.{◌≡◌, ap, ◌∙◌}
use mathlib.Core.List.{List, ◌++◌}
use Prim.Native.Nat.{ℕ}
use native.Mathlib.Omega.{arith}
use lib.ListN.{length, take, replicate}
use lib.Seq.{take_at, drop_at, take_all}
use Rattle.words.specs.Bytes.{part}
use Rattle.words.proofs.Writing.{put_whole}
use Rattle.cipher.specs.Step.{z}
use Rattle.cipher.specs.Run.{forward, move, made, moves, blocks}
use Rattle.cipher.specs.Machine.{registers_of}
use Rattle.cipher.proofs.Typed.{every_registers}
use Rattle.cipher.proofs.Inverse.{z_block}
use Rattle.cipher.proofs.Moves.{move_good, blocks_one, blocks_more, blocks_length}
use Rattle.digest.specs.Sum.{fresh}
use Rattle.session.proofs.opened.Goals as goal

pub returns : goal.returns
unfolding made moves
returns c =
    let S = registers_of c.args.s in
    let g = every_registers c.args.s _ c.well_formed.0 in
    let w = c.batch-registers in
    let two : w.new.out ≡ z S ++ z (move forward S) =
    w.ensures.out ∙ put_whole (replicate 32 0) (blocks forward 2 S) (blocks_length forward 2 S g)
    ∙ blocks_more forward 1 S ∙ ap (λ (x : List ℕ). x ++ z (move forward S)) (blocks_one forward S) in
    let first : length (z S) ≡ 16 = (z_block S g).long in
    let second : length (z (move forward S)) ≡ 16 = (z_block (move forward S) (move_good forward S g)).long in
    let h = c.load.ensures ∙ ap (part 0 16) two ∙ take_at (z S) (z (move forward S)) 16 first in
    let pad = c.load-pad.ensures ∙ ap (part 16 16) two ∙ ap (take 16) (drop_at (z S) (z (move forward S)) 16 first) ∙ take_all 16 (z (move forward S)) (omega arith) in
    λ i. record {
      phase = 0;
      ad = 0;
      text = 0;
      state = record { registers = w.ensures.registers i; count = 2 };
      h = (c.from_block.ensures ∙ h) i;
      pad = pad i;
      current = pad i;
      sum = (c.fresh.ensures ∙ ap fresh c.zero.ensures) i;
      iv = c.args.iv;
    }
