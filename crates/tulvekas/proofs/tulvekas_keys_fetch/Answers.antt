-- `tulvekas::tulvekas_keys_fetch` meets its contract, by the answer of the call below and the length of the key's buffer.
use Prim.Native.Nat.{ℕ}
use mathlib.Core.Path.{◌≡◌, refl, ap, ◌∙◌}
use mathlib.Core.List.{List, ◌++◌}
use native.Mathlib.Omega.{arith}
use borrow.Author.Rules.{rules}
use lib.ListN.{length, drop}
use lib.Seq.{take_all}
use Rattle.std.proofs.lemmas.Result.{err_from_is_err_and}
use Rattle.scope.proofs.Refused.{refused}
use Rattle.key_store.specs.Calls.{fetch_key}
use Rattle.bytes_c.proofs.Answering.{never, unwritten, accepted}
use Rattle.tulvekas.specs.Keys.{keys_fetch_answer}
use Rattle.tulvekas.proofs.Answering.{then_refused, then_short, then_fits}
use Rattle.tulvekas.proofs.tulvekas_keys_fetch.Goals as goal
use Rattle.tulvekas.proofs.tulvekas_keys_fetch.Goals.{In_ok-k}

key_long : (c : In_ok-k) → length c.in_ok-k.k ≡ 32
key_long c = search rules

pub returns-in_err-k : goal.returns-in_err-k
unfolding keys_fetch_answer
returns-in_err-k c =
    let a = c.args in
    let out = a.out.now in
    let p = err_from_is_err_and c.from_residual.result c.from_residual.ensures.1 in
    let h = refused c.in_err-k.field-0.0 in
    let e = then_refused 32 out c.in_err-k.ensures.answer h in
    record { answer = rw (p.1, p.2) e; out = unwritten e 32 (fetch_key a.key.now a.iv.now a.store.now) out h }

pub returns-then-out-lt-KEY_BYTES : goal.returns-then-out-lt-KEY_BYTES
unfolding keys_fetch_answer
returns-then-out-lt-KEY_BYTES c =
    let a = c.args in
    let out = a.out.now in
    let e = then_short 32 out c.in_ok-k.ensures.answer refl (omega (arith, c.if-out-lt-KEY_BYTES.true)) in
    record { answer = e; out = unwritten e 32 (fetch_key a.key.now a.iv.now a.store.now) out (never 3) }

pub copy-requires : goal.copy-requires
copy-requires c = (omega (arith, key_long (goal.at.copy-requires c).In_ok-k), omega (arith, c.if-out-lt-KEY_BYTES.false))

pub returns : goal.returns
unfolding keys_fetch_answer
returns c =
    let a = c.args in
    let out = a.out.now in
    let k = fetch_key a.key.now a.iv.now a.store.now in
    let e = then_fits 32 out c.in_ok-k.ensures.answer refl c.if-out-lt-KEY_BYTES.false in
    let w = take_all 32 c.in_ok-k.k (omega (arith, key_long (goal.at.returns c).In_ok-k)) ∙ c.in_ok-k.ensures.key in
    record { answer = e; out = c.copy.ensures ∙ ap (λ (l : List ℕ). l ++ drop 32 out) w ∙ accepted e (k ++ drop 32 out) out }
