-- `suspend::resume` meets its contract, by the key's length, the layout rules and the answer of the trace.
use mathlib.Core.Path.{◌≡◌, sym, ap, ap₂, subst, ◌∙◌}
use mathlib.Core.Bool.{true}
use mathlib.Core.List.{List, ◌++◌}
use Prim.Native.Nat.{ℕ, ◌≤◌}
use Rattle.scope.specs.Limits.{most_text}
use Rattle.words.specs.Bytes.{little}
use Rattle.words.proofs.Rows.{Below}
use Rattle.words.proofs.Typed.{known_bytes}
use Rattle.cipher.specs.State.{State}
use Rattle.cipher.specs.Machine.{state_of}
use Rattle.start.specs.Start.{Mode.sealed}
use Rattle.start.specs.Leads.{LeadsToState, Traced.origin}
use Rattle.start.specs.Trace.{trace}
use Rattle.start.specs.Machine.{mode_of, traced_of}
use Rattle.session.specs.Session.{Session}
use Rattle.layout.specs.Block.{Suspended, read}
use Rattle.layout.specs.Rules.{well_laid}
use Rattle.layout.proofs.Obeying.{laid_long, laid_text}
use Rattle.suspend.specs.Calls.{state_for, Resumed, revived, Revives}
use Rattle.suspend.specs.Walk.{resume_call}
use Rattle.suspend.proofs.Resuming.{revives, resume_bad_key, resume_bad_block, resume_refused, resume_plain, resume_sealed}
use Rattle.suspend.proofs.resume.Goals as goal
use Rattle.suspend.proofs.resume.Goals.{After-trace_with, Else-not-well_laid}

-- both clauses, of an answer that is the walk's
answered : (key b : List ℕ) {r : Resumed} → Below 256 key → Below 256 b → r ≡ resume_call key b → Revives key b r × (r ≡ resume_call key b)
answered key b k l e = (subst (Revives key b) (sym e) (revives key b k l), e)

pub returns-then-key-ne32 : goal.returns-then-key-ne32
returns-then-key-ne32 c =
    let p = answered _ _ (known_bytes _ c.type_inv.key) (known_bytes _ c.type_inv.block) (resume_bad_key c.args.key.now c.args.block.now c.if-key-ne32.true) in
    record { leads = p.0; walk = p.1 }

pub returns-then-not-well_laid : goal.returns-then-not-well_laid
returns-then-not-well_laid c =
    let e = sym c.well_laid.ensures ∙ c.if-not-well_laid.true in
    let p = answered _ _ (known_bytes _ c.type_inv.key) (known_bytes _ c.type_inv.block)
    (resume_bad_block c.args.key.now c.args.block.now c.if-key-ne32.false e) in
    record { leads = p.0; walk = p.1 }

-- the block obeys the rules
laid : (c : Else-not-well_laid) → well_laid c.args.block.now ≡ true
laid c = sym c.well_laid.ensures ∙ c.if-not-well_laid.false

pub read-k-requires : goal.read-k-requires
read-k-requires c = laid_long _ (laid (goal.at.read-k-requires c).Else-not-well_laid)

pub state_of-state-requires : goal.state_of-state-requires
state_of-state-requires c = subst (λ (n : ℕ). n ≤ most_text) (sym (ap (λ (k : Suspended). k.text) c.read-k.ensures)) (laid_text _ (laid (goal.at.state_of-state-requires c).Else-not-well_laid))

-- the answer of the trace, of what the block says
walked : (c : After-trace_with)
    → let a = c.args in traced_of c.trace_with.result ≡ trace (state_for (read a.block.now)) a.key.now
walked c =
    let a = c.args in
    c.trace_with.ensures.walk ∙ ap (λ (s : State). trace s a.key.now) (c.state_of-state.ensures ∙ ap state_for c.read-k.ensures)

pub returns-in_default : goal.returns-in_default
returns-in_default c =
    let p = answered _ _ (known_bytes _ c.type_inv.key) (known_bytes _ c.type_inv.block)
    (resume_refused c.args.key.now c.args.block.now c.if-key-ne32.false (laid (goal.at.returns-in_default c).Else-not-well_laid)
    (walked (goal.at.returns-in_default c).After-trace_with) _ (ap traced_of c.in_default.is)) in
    record { leads = p.0; walk = p.1 }

pub returns-in-Plain : goal.returns-in-Plain
returns-in-Plain c =
    let iv = little 8 c.in-Ok.o.lo ++ little 8 c.in-Ok.o.hi in
    let e = ap traced_of c.in-Ok.is ∙ ap (λ m. origin iv (mode_of m)) c.in-Plain.is in
    let p = answered _ _ (known_bytes _ c.type_inv.key) (known_bytes _ c.type_inv.block)
    (resume_plain c.args.key.now c.args.block.now c.if-key-ne32.false (laid (goal.at.returns-in-Plain c).Else-not-well_laid)
    (walked (goal.at.returns-in-Plain c).After-trace_with) iv e) in
    record { leads = p.0; walk = p.1 }

pub revived-requires : goal.revived-requires
revived-requires c =
    let a = c.args in
    let iv = little 8 c.in-Ok.o.lo ++ little 8 c.in-Ok.o.hi in
    let e = ap traced_of c.in-Ok.is ∙ ap (λ m. origin iv (mode_of m)) c.in-Sealed.is in
    let l = (c.trace_with.ensures.leads.found iv sealed).0 e in (
      l.0.0,
      c.state_of-state.ensures,
      subst (λ (u : List ℕ). LeadsToState a.key.now u sealed (state_of c.state_of-state.result)) (sym c.iv_bytes.ensures) l.1,
      c.inverse_sbox-inverse.ensures,
    )

pub returns-in-Sealed : goal.returns-in-Sealed
unfolding revived
returns-in-Sealed c =
    let a = c.args in
    let iv = little 8 c.in-Ok.o.lo ++ little 8 c.in-Ok.o.hi in
    let e = ap traced_of c.in-Ok.is ∙ ap (λ m. origin iv (mode_of m)) c.in-Sealed.is in
    let s = c.revived.ensures ∙ ap₂ (revived a.key.now) c.iv_bytes.ensures c.read-k.ensures in
    let p = answered _ _ (known_bytes _ c.type_inv.key) (known_bytes _ c.type_inv.block)
    (ap (λ (s : Session). record { number = 0; iv = s.iv; session = s }) s
    ∙ resume_sealed a.key.now a.block.now c.if-key-ne32.false (laid (goal.at.returns-in-Sealed c).Else-not-well_laid)
    (walked (goal.at.returns-in-Sealed c).After-trace_with) iv e) in
    record { leads = p.0; walk = p.1 }
