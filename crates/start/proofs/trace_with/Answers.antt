-- `start::trace_with` meets its contract, by the key's length and the count: its answer is that of the walk, of which `traces` says what it finds.
use mathlib.Core.Path.{◌≡◌, sym, ap₂, subst, ◌∙◌}
use Prim.Native.Nat.{◌≤◌}
use native.Mathlib.Omega.{arith}
use lib.ListN.{length}
use Rattle.std.proofs.lemmas.Result.{err_from_is_err_and}
use Rattle.scope.specs.Limits.{most_blocks}
use Rattle.scope.proofs.Refused.{refused}
use Rattle.words.proofs.Typed.{known_bytes}
use Rattle.cipher.specs.Machine.{state_of}
use Rattle.cipher.proofs.Typed.{every_state}
use Rattle.start.specs.Leads.{Traces}
use Rattle.start.specs.Trace.{unload, loaded}
use Rattle.start.proofs.Answers.{key_whole, walkable, trace_refused, trace_walks}
use Rattle.start.proofs.Tracing.{traces}
use Rattle.start.proofs.trace_with.Goals as goal
use Rattle.start.proofs.trace_with.Goals.{In_ok-walk_allowed}

-- a key of 32 bytes, and a count within the limit
in_order : (c : In_ok-walk_allowed) → let a = c.args in (length a.key.now ≡ 32) × (a.s.count ≤ most_blocks)
in_order c = walkable _ _ (sym (c.in_ok-walk_allowed.ensures))

pub returns-in_err-walk_allowed-clause-walk : goal.returns-in_err-walk_allowed-clause-walk
returns-in_err-walk_allowed-clause-walk c =
    let p = err_from_is_err_and c.from_residual.result c.from_residual.ensures.1 in
    rw (p.1, p.2) (trace_refused (state_of c.args.s) c.args.key.now c.in_err-walk_allowed.ensures (refused c.in_err-walk_allowed.field-0.0))

pub returns-in_err-walk_allowed-clause-leads : goal.returns-in_err-walk_allowed-clause-leads
returns-in_err-walk_allowed-clause-leads c =
    let a = c.args in
    subst (Traces (state_of a.s) a.key.now) (sym (returns-in_err-walk_allowed-clause-walk c))
    (traces (state_of a.s) (every_state a.s _ c.well_formed.0) a.key.now (known_bytes a.key.now c.type_inv.key))

pub returns : goal.returns
returns c =
    let a = c.args in
    let o = in_order (goal.at.returns c).In_ok-walk_allowed in
    let k = key_whole a.key.now _ _ o.0 c.load-low.ensures c.load-high.ensures in
    let e = c.unload.ensures ∙ ap₂ unload k (c.loaded-l.ensures.registers ∙ ap₂ loaded k c.walked_back-w.ensures.registers)
    ∙ trace_walks (state_of a.s) a.key.now o.0 o.1 in
    record {
      leads = subst (Traces (state_of a.s) a.key.now) (sym e)
          (traces (state_of a.s) (every_state a.s _ c.well_formed.0) a.key.now (known_bytes a.key.now c.type_inv.key));
      walk = e;
    }

pub load-low-requires : goal.load-low-requires
load-low-requires c = omega (arith, in_order (goal.at.load-low-requires c).In_ok-walk_allowed)

pub load-high-requires : goal.load-high-requires
load-high-requires c = omega (arith, in_order (goal.at.load-high-requires c).In_ok-walk_allowed)

pub walked_back-w-requires : goal.walked_back-w-requires
walked_back-w-requires c = (omega (arith, in_order (goal.at.walked_back-w-requires c).In_ok-walk_allowed), c.requires)

pub loaded-l-requires : goal.loaded-l-requires
loaded-l-requires c = (omega (arith, in_order (goal.at.loaded-l-requires c).In_ok-walk_allowed, c.walked_back-w.ensures.steps), c.requires)
