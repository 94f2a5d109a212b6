-- Each call, refused or not, and so every list of calls keeps Kept, and logs each numbered turn under its number. A call leaves a stay where it is, unless it is the turn that serves it.
use mathlib.Core.Path.{◌≡◌, refl, sym, ap, ◌∙◌}
use mathlib.Core.List.Memᴰ
use mathlib.Core.List.{List, [], ◌∷◌, ◌++◌, append-nil, append_assoc}
use mathlib.Core.Logic.{◌⊎◌, inl, inr, ⊎_elim}
use Prim.Native.Nat.{ℕ, suc, ◌-◌, ◌<◌}
use native.Mathlib.Omega.{arith}
use borrow.Author.Tests.{ltb-true, ltb-false, eqb-true}
use lib.Dec.{eqb, ltb, lit≤}
use lib.ListN.{length, get_or, length-append, get_or-append}
use lib.Seq.{get_or_at}
use Rattle.scheduler.specs.Scheduler.{Stay, Scheduler, empty, iv_of, Order}
use Rattle.scheduler.specs.Calls.{join_number, newcomer, join_call, after_turn, Service, service, TurnEnd, turn_call}
use Rattle.scheduler.proofs.Order.{on_test, of_picked}
use Rattle.claims_scheduler.specs.Lists.{Call, Call.join, Call.turn, Trail, logged, call, calls, after, no_service, service_at}
use Rattle.claims_scheduler.proofs.Joining.{joins}
use Rattle.claims_scheduler.proofs.Sound.{sound_new, new_iv}
use Rattle.claims_scheduler.proofs.Lists.{Among}
use Rattle.claims_scheduler.proofs.Numbers.{absent, Apart}
use Rattle.claims_scheduler.proofs.Kept.{Kept, joined_kept}
use Rattle.claims_scheduler.proofs.Turns.{Turning, Turning.unchanged, Turning.numbered, turning, after_turn_kept, turn_leaves}

-- ---- a call

-- each turn stands in the log under its number
abbrev pub Numbered : List Service → Type 0
Numbered log = (i : ℕ) → i < length log → (get_or log i no_service).turn ≡ suc i

pub record Good (t : Trail) : Type 0 where
  pub kept : Kept t.scheduler
  pub logged_all : length t.log ≡ t.scheduler.turns
  pub numbered : Numbered t.log

numbered_more : (log : List Service) (v : Service) → v.turn ≡ suc (length log) → Numbered log → Numbered (log ++ (v ∷ []))
numbered_more log v e below i h =
    on_test (ltb i (length log)) (λ p. rw (get_or-append log (v ∷ []) no_service i (ltb-true _ _ p)) (below i (ltb-true _ _ p)))
    (λ p.
    let last : length log ≡ i = omega (arith, ltb-false i (length log) p, length-append log (v ∷ [])) in
    rw (get_or_at log v [] no_service i last) (e ∙ ap suc last))

-- what one call does to a stay that is there: it stays, or a turn serves it
pub record ServedBy (x : Stay) (t u : Trail) : Type 0 where
  pub numbered_next : u.scheduler.turns ≡ suc t.scheduler.turns
  pub service : Service
  pub number : service.iv ≡ iv_of x
  pub logged_it : u.log ≡ t.log ++ (service ∷ [])

pub joining_leaves : (s : Scheduler) (key iv : List ℕ) (n : ℕ) (x : Stay) → Among x s.stays → Among x (join_call s key iv n).stays
unfolding join_call
joining_leaves s key iv n x m =
    of_picked (λ (u : Scheduler). Among x u.stays) (eqb (join_number s key iv n) 0) (λ e. Memᴰ.append_left (newcomer s key iv n ∷ []) m) (λ e. m)

module _ (o : Order) (t : Trail) where
  pub call_good : (c : Call) → Good t → Good (call o t c)
  unfolding call join_call after_turn
  call_good (join key iv n) g =
      of_picked (λ (s : Scheduler). Good (record { scheduler = s; log = t.log })) (eqb (join_number t.scheduler key.list iv.list n) 0)
      (λ e.
      let accepted = eqb-true (join_number t.scheduler key.list iv.list n) 0 e in
      let j = joins t.scheduler key.list iv.list n accepted in
      record {
        kept = joined_kept t.scheduler g.kept (newcomer t.scheduler key.list iv.list n) refl j.room
            (rw (new_iv t.scheduler key iv n accepted) (absent iv.list t.scheduler.stays j.new)) j.some j.fits
            (sound_new t.scheduler key iv n accepted);
        logged_all = g.logged_all;
        numbered = g.numbered;
      })
      (λ e. g)
  call_good (turn p out) g = go (turn_call o t.scheduler p.list out.list) (turning o t.scheduler p.list out.list)
    where
      go : (u : TurnEnd) → Turning o t.scheduler p.list out.list u
          → Good (record { scheduler = u.scheduler; log = t.log ++ logged u.outcome })
      go u (unchanged w e) = rw (e, append-nil t.log) g
      go u (numbered v) =
          record {
            kept = after_turn_kept o t.scheduler p out v g.kept;
            logged_all = omega (arith, g.logged_all, length-append t.log (service o t.scheduler p.list out.list ∷ []));
            numbered = numbered_more t.log (service o t.scheduler p.list out.list) (ap suc (sym g.logged_all)) g.numbered;
          }

  pub call_leaves : (c : Call) (x : Stay) → Among x t.scheduler.stays → Among x (call o t c).scheduler.stays ⊎ ServedBy x t (call o t c)
  unfolding call after_turn
  call_leaves (join key iv n) x m = inl (joining_leaves t.scheduler key.list iv.list n x m)
  call_leaves (turn p out) x m = go (turn_call o t.scheduler p.list out.list) (turning o t.scheduler p.list out.list)
    where
      go : (u : TurnEnd) → Turning o t.scheduler p.list out.list u
          → Among x u.scheduler.stays ⊎ ServedBy x t (record { scheduler = u.scheduler; log = t.log ++ logged u.outcome })
      go u (unchanged w e) = inl m
      go u (numbered v) =
          ⊎_elim inl
          (λ e. inr (record {
            numbered_next = refl;
            service = service o t.scheduler p.list out.list;
            number = ap iv_of (sym e);
            logged_it = refl;
          }))
          (turn_leaves o t.scheduler p out v x m)

-- ---- lists of calls

pub calls_good : (o : Order) (t : Trail) (cs : List Call) → Good t → Good (calls o t cs)
unfolding calls
calls_good o t [] g = g
calls_good o t (c ∷ cs) g = calls_good o (call o t c) cs (call_good o t c g)

pub after_good : (o : Order) (cs : List Call) → Good (after o cs)
unfolding Apart
after_good o cs =
    calls_good o (record { scheduler = empty; log = [] }) cs
    (record {
      kept = record {
        few = lit≤ tt;
        numbers_last = lit≤ tt;
        apart = tt;
        sound = λ x m. absurd (Memᴰ.not-nil m);
        each = λ x m. absurd (Memᴰ.not-nil m);
      };
      logged_all = refl;
      numbered = λ i h. absurd (omega arith);
    })

pub calls_append : (o : Order) (t : Trail) (cs ds : List Call) → calls o t (cs ++ ds) ≡ calls o (calls o t cs) ds
unfolding calls
calls_append o t [] ds = refl
calls_append o t (c ∷ cs) ds = calls_append o (call o t c) cs ds

-- ---- their services, from a scheduler on: what is logged stays logged, and they stand behind it

unfoldable pub since : Order → Scheduler → List Call → List Service
since o s [] = []
since o s (join key iv n ∷ cs) = since o (join_call s key.list iv.list n) cs
since o s (turn p out ∷ cs) =
    let g = turn_call o s p.list out.list in logged g.outcome ++ since o g.scheduler cs

pub log_since : (o : Order) (t : Trail) (cs : List Call) → (calls o t cs).log ≡ t.log ++ since o t.scheduler cs
unfolding since calls call
log_since o t [] = sym (append-nil t.log)
log_since o t (join key iv n ∷ cs) = log_since o (call o t (join key iv n)) cs
log_since o t (turn p out ∷ cs) =
    log_since o (call o t (turn p out)) cs
    ∙ append_assoc t.log (logged (turn_call o t.scheduler p.list out.list).outcome) (since o (turn_call o t.scheduler p.list out.list).scheduler cs)

-- each under its turn's number
pub logged_at : (o : Order) (u : Trail) (ds : List Call) (log : List Service) (v : Service) (n : ℕ) → length log ≡ n → u.log ≡ log ++ (v ∷ [])
    → service_at (calls o u ds).log (suc n) ≡ v
logged_at o u ds log v n long e =
    let w = since o u.scheduler ds in
    let all : (calls o u ds).log ≡ log ++ (v ∷ w) = log_since o u ds ∙ ap (λ (l : List Service). l ++ w) e ∙ append_assoc log (v ∷ []) w in
    rw all (get_or_at log v w no_service (suc n - 1) (omega arith))
