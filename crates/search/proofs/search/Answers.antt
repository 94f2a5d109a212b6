-- `search::search` meets its contract: its answer is the one found count by count, of which `searches` says what it is.
use Prim.Native.Nat.{ℕ, ◌-◌}
use mathlib.Core.Path.{◌≡◌, sym, ap, ap₂, subst, ◌∙◌}
use mathlib.Core.List.{List}
use native.Mathlib.Omega.{arith}
use lib.Seq.{take_all}
use Rattle.std.specs.Prelude.{Err}
use Rattle.std.proofs.lemmas.Result.{err_from_is_err_and}
use Rattle.scope.proofs.Refused.{refused}
use Rattle.words.proofs.Rows.{Below}
use Rattle.words.proofs.Typed.{known_bytes}
use Rattle.cipher.specs.Registers.{Registers}
use Rattle.start.proofs.Answers.{key_whole}
use Rattle.layout.specs.Block.{registers_at}
use Rattle.search.specs.Search.{Searched, Searchable, Searches}
use Rattle.search.specs.declared.NotFound.{NotFound}
use Rattle.search.specs.Machine.{searched_of}
use Rattle.search.specs.Counts as counts
use Rattle.search.specs.Counts.{upward}
use Rattle.search.proofs.Numbers.{searchable}
use Rattle.search.proofs.Searching.{before, walks, searches}
use Rattle.search.proofs.search.Goals as goal
use Rattle.search.proofs.search.Goals.{In_ok-range_allowed}

-- both clauses, of an answer that is found count by count
answered : (d k : List ℕ) (lowest highest : ℕ) {r : Searched} → Below 256 d → Below 256 k → r ≡ counts.search d k lowest highest
    → Searches d k lowest highest r × (r ≡ counts.search d k lowest highest)
answered d k lowest highest bd bk e = (subst (Searches d k lowest highest) (sym e) (searches d k lowest highest bd bk), e)

pub returns-in_err-range_allowed : goal.returns-in_err-range_allowed
returns-in_err-range_allowed c =
    let a = c.args in
    let n = c.in_err-range_allowed in
    let p = err_from_is_err_and c.from_residual.result c.from_residual.ensures.1 in
    let e = ap searched_of p.1 ∙ ap (λ (r : NotFound). searched_of (Err r)) p.2 in
    let q = answered _ _ a.lowest a.highest (known_bytes _ c.type_inv.dump) (known_bytes _ c.type_inv.key)
    (e ∙ sym (before a.dump.now a.key.now a.lowest a.highest n.ensures (refused n.field-0.0))) in
    record { leads = q.0; counts = q.1 }

-- nothing is refused before the walk
fit : (c : In_ok-range_allowed) → let a = c.args in Searchable a.dump.now a.key.now a.lowest a.highest
fit c = let a = c.args in searchable a.dump.now a.key.now a.lowest a.highest (sym c.in_ok-range_allowed.ensures)

pub upward-requires : goal.upward-requires
upward-requires c =
    let s = fit (goal.at.upward-requires c).In_ok-range_allowed in (omega (arith, s.ordered), omega (arith, s.within), c.inverse_sbox-inverse.ensures)

pub returns : goal.returns
returns c =
    let a = c.args in
    let d = a.dump.now in
    let s = fit (goal.at.returns c).In_ok-range_allowed in
    let k = key_whole a.key.now _ _ s.key_long c.load-low.ensures c.load-high.ensures in
    let r = c.get_registers-s.ensures ∙ ap registers_at (take_all 112 d (omega (arith, s.dump_long))) in
    let q = answered _ _ a.lowest a.highest (known_bytes _ c.type_inv.dump) (known_bytes _ c.type_inv.key)
    (c.upward.ensures
    ∙ ap₂ (λ (l : List ℕ) (t : Registers). upward l t a.lowest a.lowest (a.highest - a.lowest)) k r
    ∙ sym (walks d a.key.now a.lowest a.highest s)) in
    record { leads = q.0; counts = q.1 }

pub load-low-requires : goal.load-low-requires
load-low-requires c = omega (arith, (fit (goal.at.load-low-requires c).In_ok-range_allowed).key_long)

pub load-high-requires : goal.load-high-requires
load-high-requires c = omega (arith, (fit (goal.at.load-high-requires c).In_ok-range_allowed).key_long)

pub get_registers-s-requires : goal.get_registers-s-requires
get_registers-s-requires c = omega (arith, (fit (goal.at.get_registers-s-requires c).In_ok-range_allowed).dump_long)
