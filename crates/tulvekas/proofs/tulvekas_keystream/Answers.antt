-- `tulvekas::tulvekas_keystream` meets its contract, by the lengths, the count and the answer of the start: as many whole blocks as fit have room.
use Prim.Native.Nat.{◌*◌}
use mathlib.Core.Path.{refl, ap, ◌∙◌}
use mathlib.Core.List.{◌++◌}
use lib.ListN.{drop}
use Rattle.std.proofs.lemmas.Result.{err_from_is_err_and}
use Rattle.scope.proofs.Refused.{refused}
use Rattle.cipher.specs.Registers.{Registers}
use Rattle.cipher.specs.Run.{forward, blocks}
use Rattle.cipher.specs.State.{State}
use Rattle.start.specs.Start.{start}
use Rattle.bytes_c.specs.Modes.{mode_named}
use Rattle.bytes_c.proofs.Answering.{never, unwritten, accepted}
use Rattle.tulvekas.specs.Cipher.{fitting}
use Rattle.tulvekas.proofs.CipherAnswers.{keystream_refused, keystream_far, keystream_right}
use Rattle.tulvekas.proofs.tulvekas_keystream.Goals as goal

pub returns-in_err-lengths : goal.returns-in_err-lengths
returns-in_err-lengths c =
    let a = c.args in
    let out = a.out.now in
    let p = err_from_is_err_and c.from_residual.result c.from_residual.ensures.1 in
    let h = refused c.in_err-lengths.field-0.0 in
    let e = keystream_refused a.key.now a.iv.now out c.in_err-lengths.ensures h in
    record {
      answer = rw (p.1, p.2) e;
      out = unwritten e (16 * fitting out) (blocks forward (fitting out) (start a.key.now a.iv.now (mode_named a.sealed))) out h;
    }

pub returns-in_err-s : goal.returns-in_err-s
returns-in_err-s c =
    let a = c.args in
    let out = a.out.now in
    let p = err_from_is_err_and c.from_residual-in_err-s.result c.from_residual-in_err-s.ensures.1 in
    let h = refused c.in_err-s.field-0.0 in
    let e = keystream_refused a.key.now a.iv.now out c.in_err-s.ensures h in
    record {
      answer = rw (p.1, p.2) e;
      out = unwritten e (16 * fitting out) (blocks forward (fitting out) (start a.key.now a.iv.now (mode_named a.sealed))) out h;
    }

pub returns-then-blocks-gt-MOST_BLOCKS : goal.returns-then-blocks-gt-MOST_BLOCKS
returns-then-blocks-gt-MOST_BLOCKS c =
    let a = c.args in
    let out = a.out.now in
    let e = keystream_far a.key.now a.iv.now out c.in_ok-lengths.ensures refl c.if-blocks-gt-MOST_BLOCKS.true in
    record { answer = e; out = unwritten e (16 * fitting out) (blocks forward (fitting out) (start a.key.now a.iv.now (mode_named a.sealed))) out (never 8) }

pub returns : goal.returns
returns c =
    let a = c.args in
    let out = a.out.now in
    let h = c.in_ok-s.ensures in
    let e = keystream_right a.key.now a.iv.now out h.0 refl c.if-blocks-gt-MOST_BLOCKS.false in
    let s = ap (λ (t : State). t.registers) h.1 ∙ ap (start a.key.now a.iv.now) c.mode_named.ensures in
    record {
      answer = e;
      out = c.fill.ensures
          ∙ ap (λ (t : Registers). blocks forward (fitting out) t ++ drop (16 * fitting out) out) s
          ∙ accepted e (blocks forward (fitting out) (start a.key.now a.iv.now (mode_named a.sealed)) ++ drop (16 * fitting out) out) out;
    }
