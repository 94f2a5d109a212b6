-- `tulvekas::tulvekas_search` meets its contract, by the answer of the search and the lengths of the buffers.
use mathlib.Core.Path.{sym, ap, ◌∙◌}
use mathlib.Core.List.{List, ◌++◌}
use Prim.Native.Nat.{ℕ}
use lib.ListN.{set, drop}
use denote.Enum.Bare.{same_true, same_false}
use Rattle.scope.specs.declared.Refusal.TheVariants.{NoOrigin}
use Rattle.scope.specs.contracts.Refusal.{the_type}
use Rattle.scope.specs.Machine.{refusal_number}
use Rattle.scope.proofs.Refused.{no_origin}
use Rattle.words.specs.Bytes.{little}
use Rattle.words.proofs.Bytes.{little_long}
use Rattle.words.proofs.Writing.{put_front}
use Rattle.start.specs.Machine.{mode_of}
use Rattle.search.specs.Machine.{searched_of}
use Rattle.bytes_c.specs.Modes.{mode_byte}
use Rattle.tulvekas.proofs.Answering.{set_first}
use Rattle.tulvekas.proofs.SearchAnswers.{told_refused, told_none, short_count, short_iv, short_sealed, short_steps, told_found}
use Rattle.tulvekas.proofs.tulvekas_search.Goals as goal

pub returns-then-count-lt-COUNT_BYTES : goal.returns-then-count-lt-COUNT_BYTES
returns-then-count-lt-COUNT_BYTES c = let p = (let a = c.args in
    short_count a.count.now a.iv.now a.sealed.now a.steps.now (sym c.search.ensures.counts ∙ ap searched_of c.in-Ok.is) c.if-count-lt-COUNT_BYTES.true) in record { answer = p.0; count = p.1.0; iv = p.1.1.0; sealed = p.1.1.1.0; steps = p.1.1.1.1 }

pub returns-then-iv-lt-IV_BYTES : goal.returns-then-iv-lt-IV_BYTES
returns-then-iv-lt-IV_BYTES c = let p = (let a = c.args in
    short_iv a.count.now a.iv.now a.sealed.now a.steps.now (sym c.search.ensures.counts ∙ ap searched_of c.in-Ok.is) c.if-count-lt-COUNT_BYTES.false c.if-iv-lt-IV_BYTES.true) in record { answer = p.0; count = p.1.0; iv = p.1.1.0; sealed = p.1.1.1.0; steps = p.1.1.1.1 }

pub returns-then-sealed-lt1 : goal.returns-then-sealed-lt1
returns-then-sealed-lt1 c = let p = (let a = c.args in
    short_sealed a.count.now a.iv.now a.sealed.now a.steps.now (sym c.search.ensures.counts ∙ ap searched_of c.in-Ok.is) c.if-count-lt-COUNT_BYTES.false
    c.if-iv-lt-IV_BYTES.false c.if-sealed-lt1.true) in record { answer = p.0; count = p.1.0; iv = p.1.1.0; sealed = p.1.1.1.0; steps = p.1.1.1.1 }

pub returns-then-steps-lt-STEPS_BYTES : goal.returns-then-steps-lt-STEPS_BYTES
returns-then-steps-lt-STEPS_BYTES c = let p = (let a = c.args in
    short_steps a.count.now a.iv.now a.sealed.now a.steps.now (sym c.search.ensures.counts ∙ ap searched_of c.in-Ok.is) c.if-count-lt-COUNT_BYTES.false
    c.if-iv-lt-IV_BYTES.false c.if-sealed-lt1.false c.if-steps-lt-STEPS_BYTES.true) in record { answer = p.0; count = p.1.0; iv = p.1.1.0; sealed = p.1.1.1.0; steps = p.1.1.1.1 }

pub returns-then-eq : goal.returns-then-eq
returns-then-eq c =
    let a = c.args in
    let e = ap refusal_number (same_true the_type (record {}) c.in-Err.r.refusal NoOrigin (sym c.eq.ensures ∙ c.if-eq.true)) in
    let p = told_none a.count.now a.iv.now a.sealed.now a.steps.now (sym c.search.ensures.counts ∙ ap searched_of c.in-Err.is) e c.reply.ensures.out in
    record { answer = p.0; count = p.1.0; iv = p.1.1.0; sealed = p.1.1.1.0; steps = p.1.1.1.1 }

pub returns-else-eq : goal.returns-else-eq
returns-else-eq c =
    let a = c.args in
    let h = same_false the_type c.in-Err.r.refusal NoOrigin (sym c.eq.ensures ∙ c.if-eq.false) in
    let p = told_refused a.count.now a.iv.now a.sealed.now a.steps.now (sym c.search.ensures.counts ∙ ap searched_of c.in-Err.is)
    (λ z. h (no_origin _ z)) in
    record { answer = p.0; count = p.1.0; iv = p.1.1.0; sealed = p.1.1.1.0; steps = p.1.1.1.1 }

pub returns-else-steps-lt-STEPS_BYTES : goal.returns-else-steps-lt-STEPS_BYTES
returns-else-steps-lt-STEPS_BYTES c = let p = (let a = c.args in
    let l = c.in-Ok.l in
    told_found a.count.now a.iv.now a.sealed.now a.steps.now (sym c.search.ensures.counts ∙ ap searched_of c.in-Ok.is)
    c.if-count-lt-COUNT_BYTES.false c.if-iv-lt-IV_BYTES.false c.if-sealed-lt1.false c.if-steps-lt-STEPS_BYTES.false
    (c.put.ensures ∙ put_front a.count.now (little 8 l.count) 8 (little_long 8 l.count) c.if-count-lt-COUNT_BYTES.false)
    (c.put_block.ensures ∙ ap (λ (v : List ℕ). v ++ drop 16 a.iv.now) c.iv_bytes-v.ensures)
    (ap (set a.sealed.now 0) c.mode_number.ensures ∙ set_first a.sealed.now (mode_byte (mode_of l.mode)) c.if-sealed-lt1.false)
    (c.put-in-Ok.ensures ∙ put_front a.steps.now (little 8 l.steps) 8 (little_long 8 l.steps) c.if-steps-lt-STEPS_BYTES.false)) in record { answer = p.0; count = p.1.0; iv = p.1.1.0; sealed = p.1.1.1.0; steps = p.1.1.1.1 }
