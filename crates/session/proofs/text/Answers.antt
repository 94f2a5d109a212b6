-- `session::text` meets its contract: each refusal by its test, in the call's order, and else the piece is taken.
use mathlib.Core.Path.{◌≡◌, sym, ap, ap₂, ◌∙◌}
use Prim.Native.Nat.{ℕ, ◌+◌, ◌-◌, ◌≤◌}
use native.Mathlib.Omega.{arith}
use lib.ListN.{length}
use Rattle.std.proofs.lemmas.Result.{err_from_is_err_and}
use Rattle.scope.specs.Limits.{most_text}
use Rattle.scope.proofs.Refused.{refused}
use Rattle.scope.specs.declared.Refusal.TheVariants.{OutOfPhase, TooLong, ShortOutput}
use Rattle.cipher.specs.Run.{forward}
use Rattle.cipher.specs.State.{steps_number}
use Rattle.cipher.proofs.Counting.{not_far, far_forward, count_fits}
use Rattle.session.specs.Session.{drawn_by}
use Rattle.session.specs.Machine.{session_of}
use Rattle.session.proofs.Numbers.{text_late, text_over, text_far, text_short, text_fits, text_refused, text_accepted}
use Rattle.session.proofs.text.Goals as goal
use Rattle.session.proofs.text.Goals.{After-steps_allowed, In_ok-steps_allowed, Else-s-n}

pub returns-then-s-ge2 : goal.returns-then-s-ge2
returns-then-s-ge2 c = let p = (let a = c.args in
    let s = session_of a.s.now in
    text_refused a.s.now a.piece.now a.out.now OutOfPhase (text_late s a.piece.now a.out.now c.if-s-ge2.true)) in record { says = p.0; out = p.1 }

pub returns-then-n-gt-MOST_TEXT : goal.returns-then-n-gt-MOST_TEXT
returns-then-n-gt-MOST_TEXT c = let p = (let a = c.args in
    let s = session_of a.s.now in
    text_refused a.s.now a.piece.now a.out.now TooLong (text_over s a.piece.now a.out.now c.if-s-ge2.false (omega arith))) in record { says = p.0; out = p.1 }

pub returns-then-s-n : goal.returns-then-s-n
returns-then-s-n c = let p = (let a = c.args in
    let s = session_of a.s.now in
    text_refused a.s.now a.piece.now a.out.now TooLong (text_over s a.piece.now a.out.now c.if-s-ge2.false (omega arith))) in record { says = p.0; out = p.1 }

within : (c : Else-s-n) → let a = c.args in a.s.now.text + length a.piece.now ≤ most_text
within c = omega arith

-- the blocks that the piece draws
drawn : (c : After-steps_allowed) → let a = c.args in
    c.ceil16.result - c.ceil16-2.result ≡ drawn_by a.s.now.text (length a.piece.now)
drawn c = ap₂ (λ (i j : ℕ). i - j) c.ceil16.ensures c.ceil16-2.ensures

pub returns-in_err-steps_allowed : goal.returns-in_err-steps_allowed
returns-in_err-steps_allowed c =
    let a = c.args in
    let s = session_of a.s.now in
    let p = err_from_is_err_and c.from_residual.result c.from_residual.ensures.1 in
    let e = c.in_err-steps_allowed.field-0.0 in
    let q = c.in_err-steps_allowed.ensures
    ∙ ap (λ (k : ℕ). steps_number forward k s.state.count) (drawn (goal.at.returns-in_err-steps_allowed c).After-steps_allowed) in
    let f = far_forward (drawn_by s.text (length a.piece.now)) s.state.count (λ z. refused e (q ∙ z)) in
    let r = text_refused a.s.now a.piece.now a.out.now e
    (text_far s a.piece.now a.out.now c.if-s-ge2.false (within (goal.at.returns-in_err-steps_allowed c).Else-s-n) f.0 ∙ sym (q ∙ f.1)) in
    record { says = rw (p.1, p.2) r.0; out = r.1 }

-- the count lets them
near : (c : In_ok-steps_allowed) → let a = c.args in
    steps_number forward (drawn_by a.s.now.text (length a.piece.now)) a.s.now.state.count ≡ 0
near c =
    let d = ap₂ (λ (i j : ℕ). i - j) c.ceil16.ensures c.ceil16-2.ensures in
    sym (c.in_ok-steps_allowed.ensures ∙ ap (λ (k : ℕ). steps_number forward k c.args.s.now.state.count) d)

pub returns-then-out-piece : goal.returns-then-out-piece
returns-then-out-piece c = let p = (let a = c.args in
    let s = session_of a.s.now in
    let k = drawn_by s.text (length a.piece.now) in
    text_refused a.s.now a.piece.now a.out.now ShortOutput
    (text_short s a.piece.now a.out.now c.if-s-ge2.false (within (goal.at.returns-then-out-piece c).Else-s-n)
    (not_far forward k s.state.count (near (goal.at.returns-then-out-piece c).In_ok-steps_allowed)) (omega arith))) in record { says = p.0; out = p.1 }

pub take_text-requires : goal.take_text-requires
take_text-requires c =
    let a = c.args in
    let h = count_fits forward _ a.s.now.state.count (near (goal.at.take_text-requires c).In_ok-steps_allowed) in
    (record { ordered = omega arith; read = omega arith; room = omega arith; counts = omega arith }, omega (arith, h))

pub returns : goal.returns
returns c = let p = (let t = c.take_text in
    let a = c.args in
    let s = session_of a.s.now in
    let k = drawn_by s.text (length a.piece.now) in
    text_accepted a.s.now a.piece.now a.out.now t.result _
    (text_fits s a.piece.now a.out.now c.if-s-ge2.false (within (goal.at.returns c).Else-s-n)
    (not_far forward k s.state.count (near (goal.at.returns c).In_ok-steps_allowed)) c.if-out-piece.false)
    t.ensures.session t.ensures.out) in record { says = p.0; out = p.1 }
