-- Every list of runs, refused ones included, leaves the start moved on by as many steps as its accepted runs come to, and these are at most 65,538: an
-- accepted run adds its n to state and sum, where that keeps to the limit, and a refused one adds nothing to either.
use mathlib.Core.Path.{◌≡◌, refl, sym, ap, ◌∙◌}
use mathlib.Core.List.{List, [], ◌∷◌}
use mathlib.Core.Bool.{Bool, true, false}
use Prim.Native.Nat.{ℕ, ◌+◌, ◌≤◌, zero-le}
use native.Mathlib.Nat.{add-zero, zero-add}
use native.Mathlib.Omega.{arith}
use borrow.Author.Tests.{eqb-true}
use lib.Dec.{eqb}
use lib.ListN.{length}
use Rattle.scope.specs.Limits.{most_blocks}
use Rattle.scope.specs.Refusals.{granted}
use Rattle.cipher.specs.Run.{forward}
use Rattle.cipher.specs.State.{State, moved, run_number, run_state}
use Rattle.cipher.proofs.Stepping.{moved_none, moved_add}
use Rattle.cipher.proofs.Counting.{run_counts, room_on}
use Rattle.start.specs.Start.{Mode, started, start_number}
use Rattle.claims.specs.Lists.{Bytes, Run, Course, runs, course}

module _ (s : State) (z : s.count ≡ 0) where
  -- where a list has come to
  pub record Led (c : Course) : Type 0 where
    pub state : c.state ≡ moved forward c.sum s
    pub at_most : c.sum ≤ most_blocks

  count_is : {c : Course} → Led c → c.state.count ≡ c.sum
  count_is {c} l = ap (λ (t : State). t.count) l.state ∙ ap (λ (k : ℕ). k + c.sum) z ∙ zero-add c.sum

  run_leads : (c : Course) (len n : ℕ) → Led c
      → Led (record { state = run_state forward c.state len n; sum = c.sum + granted (run_number forward c.state.count len n) n 0 })
  unfolding run_state
  run_leads c len n l = go (eqb (run_number forward c.state.count len n) 0) refl
    where
      go : (b : Bool) → eqb (run_number forward c.state.count len n) 0 ≡ b
          → Led (record {
            state = granted (run_number forward c.state.count len n) (moved forward n c.state) c.state;
            sum = c.sum + granted (run_number forward c.state.count len n) n 0;
          })
      go true f =
          let e = eqb-true (run_number forward c.state.count len n) 0 f in
          let h = room_on n c.state.count (run_counts forward c.state.count len n e) in
          let k = count_is l in
          rw f (record { state = ap (moved forward n) l.state ∙ moved_add forward c.sum n s; at_most = omega (arith, h, k) })
      go false f = rw (f, add-zero) l

  runs_lead : (c : Course) (rs : List Run) → Led c → Led (runs c rs)
  unfolding runs
  runs_lead c [] l = l
  runs_lead c (r ∷ rs) l =
      let len = length r.out.list in
      runs_lead
      (record {
        state = run_state forward c.state len r.n;
        sum = c.sum + granted (run_number forward c.state.count len r.n) r.n 0;
      })
      rs (run_leads c len r.n l)

module _ (key iv : Bytes) (m : Mode) (rs : List Run) (e : start_number key.list iv.list ≡ 0) where
  abbrev first : State
  first = started key.list iv.list m

  led : Led first refl (course key iv m rs)
  led = runs_lead first refl _ rs (rw e (record { state = sym (moved_none forward first); at_most = zero-le }))

  pub course_state : (course key iv m rs).state ≡ moved forward (course key iv m rs).sum first
  course_state = led.state

  pub course_count : (course key iv m rs).state.count ≡ (course key iv m rs).sum
  course_count = count_is first refl led

  pub course_fits : (course key iv m rs).sum ≤ most_blocks
  course_fits = led.at_most
