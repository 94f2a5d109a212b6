-- `command::four` meets its contract: line by line, each starting behind the end of the one before.
use Prim.Native.Nat.{◌+◌, ◌<◌}
use native.Mathlib.Omega.{arith}
use lib.ListN.{length}
use Rattle.command.proofs.Taken.{inside, no_key, no_iv, no_ad, no_text, more, whole}
use Rattle.command.proofs.four.Goals as goal
use Rattle.command.proofs.four.Goals.{In_ok-key, In_ok-iv, In_ok-ad, In_ok-text}

-- each line ends inside the input, behind the one before

key_in : (c : In_ok-key) → c.in_ok-key.key < length c.args.input.now
key_in c = (inside _ 0 _ c.in_ok-key.ensures).1

iv_in : (c : In_ok-iv) → (c.in_ok-key.key < c.in_ok-iv.iv) × (c.in_ok-iv.iv < length c.args.input.now)
iv_in c = omega (arith, inside _ (c.in_ok-key.key + 1) _ c.in_ok-iv.ensures)

ad_in : (c : In_ok-ad) → (c.in_ok-iv.iv < c.in_ok-ad.ad) × (c.in_ok-ad.ad < length c.args.input.now)
ad_in c = omega (arith, inside _ (c.in_ok-iv.iv + 1) _ c.in_ok-ad.ensures)

text_in : (c : In_ok-text) → (c.in_ok-ad.ad < c.in_ok-text.text) × (c.in_ok-text.text < length c.args.input.now)
text_in c = omega (arith, inside _ (c.in_ok-ad.ad + 1) _ c.in_ok-text.ensures)

pub returns-in_err-key-clause-lines : goal.returns-in_err-key-clause-lines
returns-in_err-key-clause-lines c = rw c.from_residual.ensures (no_key _ c.in_err-key.ensures)

pub returns-in_err-iv-clause-lines : goal.returns-in_err-iv-clause-lines
returns-in_err-iv-clause-lines c = rw c.from_residual-in_err-iv.ensures (no_iv _ _ c.in_ok-key.ensures c.in_err-iv.ensures)

pub returns-in_err-ad-clause-lines : goal.returns-in_err-ad-clause-lines
returns-in_err-ad-clause-lines c = rw c.from_residual-in_err-ad.ensures (no_ad _ _ c.in_ok-key.ensures _ c.in_ok-iv.ensures c.in_err-ad.ensures)

pub returns-in_err-text-clause-lines : goal.returns-in_err-text-clause-lines
returns-in_err-text-clause-lines c =
    rw c.from_residual-in_err-text.ensures (no_text _ _ c.in_ok-key.ensures _ c.in_ok-iv.ensures _ c.in_ok-ad.ensures c.in_err-text.ensures)

pub returns-then-text-input-clause-lines : goal.returns-then-text-input-clause-lines
returns-then-text-input-clause-lines c =
    more _ _ c.in_ok-key.ensures _ c.in_ok-iv.ensures _ c.in_ok-ad.ensures _ c.in_ok-text.ensures (omega (arith, text_in (goal.at.returns-then-text-input-clause-lines c).In_ok-text))

pub returns : goal.returns
returns c =
    let at = goal.at.returns c in
    let iv = iv_in at.In_ok-iv in
    let ad = ad_in at.In_ok-ad in
    let text = text_in at.In_ok-text in
    record {
      lines = whole _ _ c.in_ok-key.ensures _ c.in_ok-iv.ensures _ c.in_ok-ad.ensures _ c.in_ok-text.ensures c.if-text-input.false;
      order = (iv.0, ad.0, text.0, text.1);
    }

pub overflow_add-key : goal.overflow_add-key
overflow_add-key c = omega (arith, key_in (goal.at.overflow_add-key c).In_ok-key)

pub line_from-requires-2 : goal.line_from-requires-2
line_from-requires-2 c = omega (arith, key_in (goal.at.line_from-requires-2 c).In_ok-key)

pub overflow_add-iv : goal.overflow_add-iv
overflow_add-iv c = omega (arith, iv_in (goal.at.overflow_add-iv c).In_ok-iv)

pub line_from-requires-3 : goal.line_from-requires-3
line_from-requires-3 c = omega (arith, iv_in (goal.at.line_from-requires-3 c).In_ok-iv)

pub overflow_add-ad : goal.overflow_add-ad
overflow_add-ad c = omega (arith, ad_in (goal.at.overflow_add-ad c).In_ok-ad)

pub line_from-requires-4 : goal.line_from-requires-4
line_from-requires-4 c = omega (arith, ad_in (goal.at.line_from-requires-4 c).In_ok-ad)

pub overflow_add-text : goal.overflow_add-text
overflow_add-text c = omega (arith, text_in (goal.at.overflow_add-text c).In_ok-text)
