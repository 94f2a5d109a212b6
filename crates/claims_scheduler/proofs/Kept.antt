-- What every call keeps. With m a stay's mark, and counting it among the stays of mark at most m:
--     turns done + stays of mark at most m  is at most  m + 32.
-- At its joining or service its mark is the turns done, and there are at most 32 stays. A joiner's mark is the turns done: either m is that number too, and there are
-- still at most 32, or the joiner is not counted. A numbered turn serves a stay of lowest mark, so one that is counted, and that is not counted after it. Ties are never looked at.
use mathlib.Core.Path.{◌≡◌, refl, ap}
use mathlib.Core.List.Memᴰ
use mathlib.Core.List.{List, [], ◌∷◌, ◌++◌}
use mathlib.Core.Logic.{◌⊎◌, inl, inr, ⊎_elim}
use Prim.Native.Nat.{ℕ, suc, ◌+◌, ◌≤◌, ◌<◌}
use native.Mathlib.Omega.{arith}
use borrow.Author.Tests.{ltb-true, ltb-false}
use lib.Dec.{ltb}
use lib.ListN.{length, length-append}
use Rattle.scope.specs.Limits.{most_stays, most_text, most_turns}
use Rattle.scheduler.specs.Scheduler.{Stay, Scheduler, iv_of}
use Rattle.scheduler.proofs.Order.{on_test}
use Rattle.claims_scheduler.proofs.Sound.{Sound}
use Rattle.claims_scheduler.proofs.Lists.{Among, count, count_out, count_append, count_length, count_none, count_some, was_or_last, was_or_new, one_less, no_longer}
use Rattle.claims_scheduler.proofs.Numbers.{Apart, apart_behind, apart_put}

-- of a stay that is there
pub record Waits (s : Scheduler) (x : Stay) : Type 0 where
  pub some : 0 < x.left
  pub fits : x.left ≤ most_text
  pub past : x.mark ≤ s.turns
  pub in_time : s.turns + count x.mark s.stays ≤ x.mark + most_stays

pub record Kept (s : Scheduler) : Type 0 where
  pub few : length s.stays ≤ most_stays
  pub numbers_last : s.turns ≤ most_turns
  pub apart : Apart s.stays
  pub sound : (x : Stay) → Among x s.stays → Sound x
  pub each : (x : Stay) → Among x s.stays → Waits s x

-- so no stay has waited for 32 turns
pub not_yet : (s : Scheduler) → Kept s → (x : Stay) → Among x s.stays → s.turns < x.mark + most_stays
not_yet s k x m = omega (arith, (k.each x m).in_time, count_some x s.stays m)

-- ---- a joining

module _ (s : Scheduler) (k : Kept s) (x : Stay) (now : x.mark ≡ s.turns) (room : length s.stays < most_stays) where
  joined_in_time : (y : Stay) → y.mark ≤ s.turns → (Among y s.stays ⊎ (y ≡ x))
      → s.turns + count y.mark (s.stays ++ (x ∷ [])) ≤ y.mark + most_stays
  unfolding count
  joined_in_time y h m =
      on_test (ltb y.mark s.turns) (λ p. earlier (ltb-true _ _ p) m)
      (λ p. omega (arith, ltb-false y.mark s.turns p, count_length y.mark (s.stays ++ (x ∷ [])), length-append s.stays (x ∷ [])))
    where
      earlier : y.mark < s.turns → (Among y s.stays ⊎ (y ≡ x)) → s.turns + count y.mark (s.stays ++ (x ∷ [])) ≤ y.mark + most_stays
      earlier p (inl m) =
          omega (arith, (k.each y m).in_time, count_append y.mark s.stays (x ∷ []), count_out y.mark x [] (omega arith))
      earlier p (inr e) = absurd (omega (arith, ap (λ (z : Stay). z.mark) e))

  pub joined_kept : ((y : Stay) → Among y s.stays → ¬ (iv_of y ≡ iv_of x)) → 0 < x.left → x.left ≤ most_text → Sound x
      → Kept (record { turns = s.turns; stays = s.stays ++ (x ∷ []) })
  joined_kept new some fits sound =
      record {
        few = omega (arith, length-append s.stays (x ∷ []));
        numbers_last = k.numbers_last;
        apart = apart_behind s.stays x k.apart new;
        sound = λ y m. ⊎_elim (k.sound y) (λ e. rw e sound) (was_or_last s.stays x y m);
        each = λ y m. each y (was_or_last s.stays x y m);
      }
    where
      each : (y : Stay) → Among y s.stays ⊎ (y ≡ x) → Waits (record { turns = s.turns; stays = s.stays ++ (x ∷ []) }) y
      each y (inl m) =
          let w = k.each y m in
          record { some = w.some; fits = w.fits; past = w.past; in_time = joined_in_time y w.past (inl m) }
      each y (inr e) =
          let h : y.mark ≤ s.turns = omega (arith, ap (λ (z : Stay). z.mark) e) in
          record { some = rw e some; fits = rw e fits; past = h; in_time = joined_in_time y h (inr e) }

-- ---- a turn

-- y is what a service of x in turn t leaves of it
pub record Left (t : ℕ) (x y : Stay) : Type 0 where
  pub number : iv_of y ≡ iv_of x
  pub mark : y.mark ≡ t
  pub some : 0 < y.left
  pub fits : y.left ≤ x.left
  pub sound : Sound y

-- the scheduler seen as the stays before the next, the next, and the stays behind it; `new` is what is there of the next afterwards
module _ (n : ℕ) (a : List Stay) (x : Stay) (b new : List Stay) (k : Kept (record { turns = n; stays = a ++ (x ∷ b) }))
    (low : (y : Stay) → Among y (a ++ (x ∷ b)) → x.mark ≤ y.mark) (more : n < most_turns)
    (short : length new ≤ 1) (left : (y : Stay) → Among y new → Left (suc n) x y) where
  pub turned_kept : Kept (record { turns = suc n; stays = a ++ (new ++ b) })
  turned_kept =
      record {
        few = few;
        numbers_last = omega arith;
        apart = apart_put a x b new short (λ y m. (left y m).number) k.apart;
        sound = λ y m. ⊎_elim (k.sound y) (λ m. (left y m).sound) (was_or_new a x b new y m);
        each = λ y m. each y (was_or_new a x b new y m);
      }
    where
      few : length (a ++ (new ++ b)) ≤ most_stays
      few = omega (arith, k.few, no_longer a x b new short)

      each : (y : Stay) → Among y (a ++ (x ∷ b)) ⊎ Among y new → Waits (record { turns = suc n; stays = a ++ (new ++ b) }) y
      each y (inl m) =
          let w = k.each y m in
          let uncounted = count_none y.mark new (λ z i. omega (arith, (left z i).mark, w.past)) in
          record {
            some = w.some;
            fits = w.fits;
            past = omega (arith, w.past);
            in_time = omega (arith, w.in_time, one_less a x b new y.mark (low y m) uncounted);
          }
      each y (inr m) =
          let w = left y m in
          record {
            some = w.some;
            fits = omega (arith, w.fits, (k.each x (Memᴰ.append_right a (Memᴰ.head refl))).fits);
            past = omega (arith, w.mark);
            in_time = omega (arith, few, w.mark, count_length y.mark (a ++ (new ++ b)));
          }
