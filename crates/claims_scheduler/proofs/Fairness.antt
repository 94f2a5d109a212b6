-- The claims of specs/Fairness.antt, but `Steady` and `Tight`. A stay that is there stays with its mark until a turn serves it, and Kept says of a stay that is there that fewer than
-- 32 turns are done since its mark; so the turn that serves it is one of the 32 after its mark. Its mark is the turns done at its joining and at each service.
use mathlib.Core.Path.{◌≡◌, refl, ap, ◌∙◌}
use mathlib.Core.List.Memᴰ
use mathlib.Core.List.{List, [], ◌∷◌, ◌++◌}
use mathlib.Core.Bool.{true, false}
use mathlib.Core.Logic.{⊎_elim}
use Prim.Native.Nat.{ℕ, suc, ◌+◌, ◌-◌, ◌≤◌, ◌<◌}
use native.Mathlib.Omega.{arith}
use borrow.Author.Tests.{lt-leb, eq-eqb, le-ltb}
use lib.ListN.{length, length-append}
use Rattle.scope.specs.Limits.{most_stays, most_turns}
use Rattle.claims.specs.Lists.{Bytes}
use Rattle.scheduler.specs.Scheduler.{Stay, Scheduler, none, iv_of, present, Order, at, next, due}
use Rattle.scheduler.specs.Calls.{join_number, newcomer, join_call, sealing, turn_number, after_service, after_turn, Service, service, Outcome.served, TurnEnd, turn_call}
use Rattle.scheduler.proofs.Order.{is_there}
use Rattle.claims_scheduler.specs.Lists.{Call, Call.turn, Trail, call, calls, after, service_at}
use Rattle.claims_scheduler.specs.Fairness.{Counts, Counts.joins, Counts.serves, Soon, Soon.had, Soon.waits, Orderly, Fair}
use Rattle.claims_scheduler.proofs.Sound.{Sound, new_iv, sound_number, after_iv}
use Rattle.claims_scheduler.proofs.Least.{least}
use Rattle.claims_scheduler.proofs.Lists.{Among, at_among}
use Rattle.claims_scheduler.proofs.Numbers.{among_present, apart_places}
use Rattle.claims_scheduler.proofs.Kept.{Kept, not_yet}
use Rattle.claims_scheduler.proofs.Turns.{served_as, next_among, turn_keeps, turn_ends}
use Rattle.claims_scheduler.proofs.Calls.{Good, ServedBy, call_good, call_leaves, calls_good, after_good, calls_append, since, log_since, logged_at}

-- ---- from a stay that is there on

log_long : (o : Order) (t : Trail) (cs : List Call) → Good t → t.scheduler.turns ≤ (calls o t cs).scheduler.turns
log_long o t cs g =
    omega (arith, g.logged_all, (calls_good o t cs g).logged_all, ap length (log_since o t cs), length-append t.log (since o t.scheduler cs))

-- the turn that served it, in every longer log
was_served : (o : Order) (t u : Trail) (ds : List Call) (x : Stay) → Good t → Good u → ServedBy x t u
    → x.mark ≤ t.scheduler.turns → t.scheduler.turns < x.mark + most_stays → Soon x.mark (iv_of x) (calls o u ds)
was_served o t u ds x g h s p q =
    let n = t.scheduler.turns in
    had (suc n) (omega arith) (omega arith) (omega (arith, log_long o u ds h, s.numbered_next))
    (rw (logged_at o u ds t.log s.service n g.logged_all s.logged_it) s.number)

waiting : (o : Order) (ds : List Call) (t : Trail) → Good t → (x : Stay) → Among x t.scheduler.stays → Soon x.mark (iv_of x) (calls o t ds)
unfolding calls
waiting o [] t g x m = waits (among_present x t.scheduler.stays m) (not_yet t.scheduler g.kept x m)
waiting o (c ∷ ds) t g x m =
    ⊎_elim (waiting o ds (call o t c) (call_good o t c g) x)
    (λ s. was_served o t (call o t c) ds x g (call_good o t c g) s (g.kept.each x m).past (not_yet t.scheduler g.kept x m))
    (call_leaves o t c x m)

-- ---- a joining, or a service that leaves text, puts a stay there whose mark is the turns done

record Fresh (iv : List ℕ) (s : Scheduler) : Type 0 where
  who : Stay
  number : iv_of who ≡ iv
  mark : who.mark ≡ s.turns
  there : Among who s.stays

fresh : (o : Order) (t : Trail) → Kept t.scheduler → (iv : List ℕ) (c : Call) → Counts o t iv c → Fresh iv (call o t c).scheduler
unfolding call join_call after_turn
fresh o t k i c (joins key iv n e) =
    rw (eq-eqb (join_number t.scheduler key.list iv.list n) 0 e)
    (record {
      who = newcomer t.scheduler key.list iv.list n;
      number = new_iv t.scheduler key iv n e;
      mark = refl;
      there = Memᴰ.append_right t.scheduler.stays (Memᴰ.head refl);
    })
fresh o t k i c (serves p out v e some) =
    let s = t.scheduler in
    let x = next o s in
    let w = served_as o s p.list out.list v e in
    let is = w.says in
    rw w.leaves
    (record {
      who = after_service (suc s.turns) x p.list out.list;
      number = after_iv x (k.sound x (next_among o s w.how.some)) (suc s.turns) p out w.how.is_due w.how.taken ∙ ap (λ (u : Service). u.iv) is;
      mark = refl;
      there = turn_keeps o s p out w.how (omega (arith, ap (λ (u : Service). u.left) is));
    })

soon : (o : Order) (cs : List Call) (c : Call) (ds : List Call) (iv : List ℕ) → Counts o (after o cs) iv c
    → Soon (after o (cs ++ (c ∷ []))).scheduler.turns iv (after o (cs ++ (c ∷ ds)))
unfolding calls
soon o cs c ds iv k =
    let t = after o cs in
    let g = after_good o cs in
    let f = fresh o t g.kept iv c k in
    let s = waiting o ds (call o t c) (call_good o t c g) f.who f.there in
    rw (calls_append o _ cs (c ∷ []), calls_append o _ cs (c ∷ ds)) (rw (f.mark, f.number) at s)

within : (from : ℕ) (iv : List ℕ) (t : Trail) → Soon from iv t → from + most_stays ≤ t.scheduler.turns
    → (k : ℕ) × (from < k) × (k ≤ from + most_stays) × ((service_at t.log k).iv ≡ iv)
within from iv t (had k a b d e) h = (k, a, b, e)
within from iv t (waits p d) h = absurd (omega arith)

-- ---- a stay that has finished leaves

module _ (o : Order) (s : Scheduler) (k : Kept s) (p out : Bytes) (v : Service) (e : (turn_call o s p.list out.list).outcome ≡ served v) where
  leaves : v.left ≡ 0 → present v.iv (turn_call o s p.list out.list).scheduler.stays ≡ false
  leaves z =
      let w = served_as o s p.list out.list v e in
      rw (w.leaves, ← w.says) (turn_ends o s p out w.how k (ap (λ (u : Service). u.left) w.says ∙ z))

  stays_there : 0 < v.left → present v.iv (turn_call o s p.list out.list).scheduler.stays ≡ true
  unfolding call
  stays_there h =
      let f = fresh o (record { scheduler = s; log = [] }) k v.iv (turn p out) (serves p out v e h) in
      rw f.number at (among_present f.who (turn_call o s p.list out.list).scheduler.stays f.there)

-- ---- the other claims

-- a piece as long as the one due, with room for it, is taken while numbers last
pub turn_taken : (o : Order) (s : Scheduler) → 0 < length s.stays → Sound (next o s) → s.turns < most_turns
    → (p out : Bytes) → length p.list ≡ due (next o s) → length p.list ≤ length out.list
    → turn_call o s p.list out.list
    ≡ record {
      outcome = served (service o s p.list out.list);
      out = (sealing (next o s) p.list out.list).out;
      scheduler = after_turn o s p.list out.list;
    }
unfolding turn_call turn_number
turn_taken o s some sound more p out is_due room =
    rw (
      is_some s.stays some,
      lt-leb most_turns s.turns more,
      eq-eqb (length p.list) (due (next o s)) is_due,
      sound_number (next o s) sound p out is_due,
      le-ltb (length out.list) (length p.list) room,
    )
  where
    is_some : (l : List Stay) → 0 < length l → none l ≡ false
    is_some [] h = absurd (omega arith)
    is_some (x ∷ l) h = refl

orderly : (t : Trail) → Good t → Orderly t
orderly t g =
    record {
      few = g.kept.few;
      logged_all = g.logged_all;
      numbered = numbered;
      numbers_last = g.kept.numbers_last;
      distinct = apart_places t.scheduler.stays g.kept.apart;
      each_left = λ i h. let w = g.kept.each (at t.scheduler.stays i) (at_among t.scheduler.stays i h) in (w.some, w.fits);
      each_mark = λ i h. let m = at_among t.scheduler.stays i h in
          ((g.kept.each (at t.scheduler.stays i) m).past, not_yet t.scheduler g.kept (at t.scheduler.stays i) m);
    }
  where
    numbered : (k : ℕ) → 0 < k → k ≤ t.scheduler.turns → (service_at t.log k).turn ≡ k
    numbered k h l = g.numbered (k - 1) (omega (arith, g.logged_all)) ∙ omega arith

-- whatever the order among equal marks
pub fair : (o : Order) → Fair o
fair o =
    record {
      soon = soon o;
      within = λ cs c ds iv k. within (after o (cs ++ (c ∷ []))).scheduler.turns iv (after o (cs ++ (c ∷ ds))) (soon o cs c ds iv k);
      goes_on = λ cs p out some more is_due room.
          let s = (after o cs).scheduler in
          let sound = (after_good o cs).kept.sound (next o s) (next_among o s some) in
          ap (λ (u : TurnEnd). u.outcome) (turn_taken o s some sound more p out is_due room);
      leaves = λ cs p out v. leaves o (after o cs).scheduler (after_good o cs).kept p out v;
      stays_there = λ cs p out v. stays_there o (after o cs).scheduler (after_good o cs).kept p out v;
      is_there = is_there o;
      least = least o;
      orderly = λ cs. orderly (after o cs) (after_good o cs);
    }
