-- `scheduler::present` meets its contract: a number is among the first n stays where it is at one of their places.
use mathlib.Core.Path.{◌≡◌, refl, sym, ap, ap₂, ◌∙◌}
use mathlib.Core.List.{List}
use mathlib.Core.Bool.{◌||◌}
use Prim.Native.Nat.{ℕ, zero, suc, ◌+◌, ◌*◌}
use native.Mathlib.Omega.{arith}
use lib.ListN.{drop}
use lib.Seq.{drop-drop}
use Rattle.std.proofs.Common.{rules, tests}
use Rattle.std.specs.List.{list_any, range_with_len}
use Rattle.std.proofs.lemmas.Iterator.{YieldsList-from_range}
use Rattle.std.proofs.lemmas.Iterator.Search.{any_from_yields_List}
use Rattle.words.specs.Bytes.{same}
use Rattle.words.specs.Machine.{bytes_of}
use Rattle.scheduler.specs.Scheduler.{Stay, iv_of, present}
use Rattle.scheduler.specs.Bytes.{stays_in}
use Rattle.scheduler.specs.Inner.{stay_at}
use Rattle.scheduler.proofs.Reading.{place_there}
use Rattle.scheduler.proofs.present.Goals as goal

-- from place i on
among : (iv s : List ℕ) (i n : ℕ) → list_any (λ (j : ℕ). same (iv_of (stay_at s j)) iv) (range_with_len i n) ≡ present iv (stays_in n (drop (256 * i) (drop 16 s)))
unfolding present stays_in
among iv s i zero = refl
among iv s i (suc n) =
    let e : 256 * (i + 1) ≡ 256 * i + 256 = omega arith in
    ap₂ ◌||◌ (ap (λ (x : Stay). same (iv_of x) iv) (sym (place_there s i)))
    (among iv s (i + 1) n ∙ ap (λ (l : List ℕ). present iv (stays_in n l)) (ap (λ (k : ℕ). drop k (drop 16 s)) e ∙ sym (drop-drop 256 (256 * i) (drop 16 s))))

pub returns : goal.returns
returns c =
    let a = c.args in
    let s = a.s.now in
    let iv = bytes_of a.iv in
    any_from_yields_List (λ (j : ℕ). same (iv_of (stay_at s j)) iv) _ _ _ c.any.ensures.ran (YieldsList-from_range 0 a.n a.n refl (omega arith)) (λ x b q k. search (rules, tests))
    ∙ among iv s 0 a.n
