-- What an accepted joining says: none of its refusals holds.
use mathlib.Core.Path.{◌≡◌}
use mathlib.Core.List.{List}
use mathlib.Core.Bool.{false, not, ◌||◌}
use Prim.Native.Nat.{ℕ, ◌≤◌, ◌<◌}
use native.Mathlib.Omega.{arith}
use borrow.Author.Tests.{ltb-false, leb-false, eqb-true, eqb-false, not-false}
use lib.Dec.{eqb, ltb, leb, lit<}
use lib.ListN.{length}
use Rattle.scope.specs.Limits.{most_stays, most_text}
use Rattle.scope.specs.Refusals.{refuse, key_length, iv_length, too_long, number_taken, scheduler_full}
use Rattle.scope.proofs.Refusing.{refuse_none}
use Rattle.words.proofs.Tests.{neither}
use Rattle.scheduler.specs.Scheduler.{Scheduler, present}
use Rattle.scheduler.specs.Calls.{join_number}

pub record Joins (s : Scheduler) (key iv : List ℕ) (n : ℕ) : Type 0 where
  pub key_long : length key ≡ 32
  pub iv_long : length iv ≡ 16
  pub some : 0 < n
  pub fits : n ≤ most_text
  pub room : length s.stays < most_stays
  pub new : present iv s.stays ≡ false

pub joins : (s : Scheduler) (key iv : List ℕ) (n : ℕ) → join_number s key iv n ≡ 0 → Joins s key iv n
unfolding join_number
joins s key iv n e =
    let l4 = refuse (present iv s.stays) number_taken 0 in
    let l3 = refuse (leb most_stays (length s.stays)) scheduler_full l4 in
    let l2 = refuse (eqb n 0 || ltb most_text n) too_long l3 in
    let l1 = refuse (not (eqb (length iv) 16)) iv_length l2 in
    let a1 = refuse_none (not (eqb (length key) 32)) key_length l1 (lit< tt) e in
    let a2 = refuse_none (not (eqb (length iv) 16)) iv_length l2 (lit< tt) a1.1 in
    let a3 = refuse_none (eqb n 0 || ltb most_text n) too_long l3 (lit< tt) a2.1 in
    let a4 = refuse_none (leb most_stays (length s.stays)) scheduler_full l4 (lit< tt) a3.1 in
    let a5 = refuse_none (present iv s.stays) number_taken 0 (lit< tt) a4.1 in
    let t = neither (eqb n 0) (ltb most_text n) a3.0 in
    let any = eqb-false n 0 t.0 in
    record {
      key_long = eqb-true _ 32 (not-false _ a1.0);
      iv_long = eqb-true _ 16 (not-false _ a2.0);
      some = omega arith;
      fits = ltb-false _ _ t.1;
      room = leb-false _ _ a4.0;
      new = a5.0;
    }
