-- The head and the places in use list the scheduler whose they are, whatever stands behind them, where its numbers fit their fields.
use mathlib.Core.Path.{◌≡◌, ap, ◌∙◌}
use mathlib.Core.List.{List, ◌++◌, append_assoc}
use Prim.Native.Nat.{ℕ, ◌+◌, ◌*◌, ◌^◌, min, ◌≤◌, ◌<◌}
use native.Mathlib.Omega.{arith}
use lib.ListN.{length, take, drop, length-append}
use lib.Seq.{take_at, drop_at}
use Rattle.words.specs.Bytes.{little, number, part}
use Rattle.words.proofs.Bytes.{little_long, number_little}
use Rattle.scheduler.specs.Scheduler.{Scheduler}
use Rattle.scheduler.specs.Bytes.{places, head, in_use, stays_in, how_many, scheduler_in}
use Rattle.scheduler.proofs.Places.{AllFit, places_long, stays_back}

-- what bytes can list
pub record FitScheduler (g : Scheduler) : Type 0 where
  pub turns_fit : g.turns < 256 ^ 8
  pub few : length g.stays ≤ 32
  pub each : AllFit g.stays

pub head_long : (t n : ℕ) → length (head t n) ≡ 16
unfolding head
head_long t n = omega (arith, length-append (little 8 t) (little 8 n), little_long 8 t, little_long 8 n)

module _ (g : Scheduler) (f : FitScheduler g) where
  head_in : (r : List ℕ) → (part 0 8 (head g.turns (length g.stays) ++ r) ≡ little 8 g.turns)
      × (part 8 8 (head g.turns (length g.stays) ++ r) ≡ little 8 (length g.stays))
  unfolding head
  head_in r =
      let t = little 8 g.turns in
      let n = little 8 (length g.stays) in
      let e = append_assoc t n r in
      (ap (take 8) e ∙ take_at t (n ++ r) 8 (little_long 8 g.turns), ap (part 8 8) e ∙ ap (take 8) (drop_at t (n ++ r) 8 (little_long 8 g.turns)) ∙ take_at n r 8 (little_long 8 (length g.stays)))

  pub lists : (r : List ℕ) → scheduler_in (in_use g ++ r) ≡ g
  unfolding scheduler_in in_use how_many
  lists r =
      let h = head g.turns (length g.stays) in
      let p = places g.stays in
      let e = append_assoc h p r in
      let i = head_in (p ++ r) in
      let few = f.few in
      let turns : number (part 0 8 ((h ++ p) ++ r)) ≡ g.turns = ap (λ (b : List ℕ). number (part 0 8 b)) e ∙ ap number i.0 ∙ number_little 8 g.turns f.turns_fit in
      let m : number (part 8 8 ((h ++ p) ++ r)) ≡ length g.stays = ap (λ (b : List ℕ). number (part 8 8 b)) e ∙ ap number i.1 ∙ number_little 8 (length g.stays) (omega arith) in
      let n : min 32 (number (part 8 8 ((h ++ p) ++ r))) ≡ length g.stays = omega (arith, m) in
      let stays = ap (λ (k : ℕ). stays_in k (drop 16 ((h ++ p) ++ r))) n
      ∙ ap (stays_in (length g.stays)) (ap (drop 16) e ∙ drop_at h (p ++ r) 16 (head_long g.turns (length g.stays))) ∙ stays_back g.stays r f.each in
      λ k. record { turns = turns k; stays = stays k }

  pub in_use_long : length (in_use g) ≡ 16 + 256 * length g.stays
  unfolding in_use
  in_use_long =
      let h = head g.turns (length g.stays) in
      omega (arith, length-append h (places g.stays), head_long g.turns (length g.stays), places_long g.stays f.each)
