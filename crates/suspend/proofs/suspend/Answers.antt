-- `suspend::suspend` meets its contract, by the phase and the output's length.
use mathlib.Core.Path.{◌≡◌, refl, sym, ap, ◌∙◌}
use mathlib.Core.List.{List, ◌++◌}
use Prim.Native.Nat.{ℕ}
use native.Mathlib.Omega.{arith}
use borrow.Author.Rules.{rules}
use lib.ListN.{length, drop}
use lib.Seq.{take_all}
use Rattle.session.specs.Machine.{session_of}
use Rattle.suspend.specs.Calls.{suspend_call}
use Rattle.suspend.proofs.Suspending.{finished_number, short_number, accepted_number, finished_out, short_out, accepted_out}
use Rattle.suspend.proofs.suspend.Goals as goal

pub returns-then-s-ge2 : goal.returns-then-s-ge2
unfolding suspend_call
returns-then-s-ge2 c =
    let a = c.args in
    let s = session_of a.s.now in
    let out = a.out.now in
    let h = c.if-s-ge2.true in
    record { says = record { number = sym (finished_number s out h); session = refl }; out_after = finished_out s out h }

pub returns-then-out-lt512 : goal.returns-then-out-lt512
unfolding suspend_call
returns-then-out-lt512 c =
    let a = c.args in
    let s = session_of a.s.now in
    let out = a.out.now in
    let h = c.if-s-ge2.false in
    let k = c.if-out-lt512.true in
    record { says = record { number = sym (short_number s out h k); session = refl }; out_after = short_out s out h k }

pub returns : goal.returns
unfolding suspend_call
returns c =
    let a = c.args in
    let s = session_of a.s.now in
    let out = a.out.now in
    let h = c.if-s-ge2.false in
    let k = c.if-out-lt512.false in record { says = record { number = sym (accepted_number s out h k); session = refl }; out_after = c.copy.ensures ∙ ap (λ (l : List ℕ). l ++ drop 512 out) (take_all 512 c.block_of-block.result (let n : length c.block_of-block.result ≡ 512 = search rules in omega arith) ∙ c.block_of-block.ensures) ∙ accepted_out s out h k }
