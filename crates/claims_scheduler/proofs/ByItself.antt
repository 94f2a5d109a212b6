-- Every call leaves a stay where it is, or is the turn that serves it. Then its session takes the piece that is due as it would by itself: the piece joins its text, what is
-- written joins its ciphertext, and it leaves with its page's tag, or stands there with less to seal. By induction over the calls behind its joining.
use Prim.Native.Nat.{ℕ, suc, ◌<◌}
use mathlib.Core.List.Memᴰ
use mathlib.Core.List.{List, [], ◌∷◌, ◌++◌}
use mathlib.Core.Path.{◌≡◌, refl, sym, ap, subst, ◌∙◌}
use mathlib.Core.Bool.{not, true≢false}
use mathlib.Core.Logic.{⊎_elim}
use native.Mathlib.Omega.{arith}
use borrow.Author.Tests.{eqb-true, eqb-false, eq-eqb}
use lib.Dec.{eqb, ltb, leb}
use lib.ListN.{length, drop}
use lib.Seq.{drop_at}
use Rattle.words.specs.Bytes.{same}
use Rattle.words.proofs.Tests.{same_eq, same_refl}
use Rattle.scope.specs.Limits.{most_turns}
use Rattle.scope.specs.Refusals.{pick, refuse, too_long, short_output, count_too_high}
use Rattle.page.specs.Page.{page_tag}
use Rattle.claims.specs.Lists.{Bytes}
use Rattle.scheduler.specs.Scheduler.{Stay, Scheduler, none, iv_of, Order, next, due}
use Rattle.scheduler.specs.Calls.{join_number, newcomer, join_call, turn_number, rest, after_service, after_turn, Service, service, TurnEnd, turn_call, answer}
use Rattle.scheduler.proofs.Order.{on_test}
use Rattle.claims_scheduler.specs.Lists.{Call, Call.join, Call.turn, Trail, logged, call, calls, after}
use Rattle.claims_scheduler.specs.ByItself.{own, StandsOrLeft, StandsOrLeft.left, StandsOrLeft.stands, services, SealedByItself, ByItself}
use Rattle.claims_scheduler.proofs.Sealing.{Holds, holds_new, holds_iv, holds_written, holds_tag, holds_after}
use Rattle.claims_scheduler.proofs.Sound.{sound_number}
use Rattle.claims_scheduler.proofs.Lists.{Among, place_of}
use Rattle.claims_scheduler.proofs.Numbers.{one_of}
use Rattle.claims_scheduler.proofs.Kept.{Kept}
use Rattle.claims_scheduler.proofs.Turns.{Serves, Turning, Turning.unchanged, Turning.numbered, turning, next_among, turn_leaves, turn_keeps}
use Rattle.claims_scheduler.proofs.Calls.{Good, joining_leaves, call_good, after_good, calls_append, since, log_since}
use Rattle.claims_scheduler.proofs.Services.{GoneOrThere, GoneOrThere.gone, GoneOrThere.there, Comes, none_yet, last_one, one_more, own_last, own_more, own_not}

module _ (o : Order) (key iv : Bytes) where
  -- what the services l among those of others come to for a stay x that has sealed a text
  abbrev Onward : (text : List ℕ) (x : Stay) (l : List Service) (s : Scheduler) → Type 0
  Onward text x l s = Comes key iv text x.left (own iv.list l) s

  -- a turn that serves it, and l behind it, for what is there of it then
  module _ (s : Scheduler) (p out : Bytes) (v : Serves o s p.list out.list) (text : List ℕ) (h : Holds key iv text (next o s)) (l : List Service)
      (end : Scheduler) where
    abbrev did : Service
    did = service o s p.list out.list

    -- what is there of it, if anything
    abbrev then : Stay
    then = after_service (suc s.turns) (next o s) p.list out.list

    tag_is : rest (next o s) ≡ 0 → did.tag ≡ page_tag key.list iv.list [] (text ++ p.list)
    tag_is z = rw (eq-eqb (rest (next o s)) 0 z) (holds_tag key iv text (next o s) h p out v.taken)

    serves_it : (Holds key iv (text ++ p.list) then → 0 < rest (next o s) → Onward (text ++ p.list) then l end) → Onward text (next o s) (did ∷ l) end
    serves_it later =
        let number = holds_iv key iv text (next o s) h in
        let written = holds_written key iv text (next o s) h p out v.taken in
        let long = v.is_due in
        on_test (eqb (rest (next o s)) 0)
        (λ e.
        let z = eqb-true (rest (next o s)) 0 e in
        rw (own_last key iv did l number z) (last_one key iv text (next o s).left end did written z (omega arith) (tag_is z)))
        (λ e.
        let z = eqb-false (rest (next o s)) 0 e in
        let r : 0 < rest (next o s) = omega arith in
        rw (own_more key iv did l number r)
        (one_more key iv text (next o s).left end did written (own iv.list l) r (omega arith)
        (later (holds_after key iv text (next o s) h p out v.taken (suc s.turns) long) r)))

  -- ---- any turn

  module _ (s : Scheduler) (k : Kept s) (text : List ℕ) (x : Stay) (m : Among x s.stays) (h : Holds key iv text x) (p out : Bytes) (ds : List Call)
      (end : Scheduler) where
    -- what is shown of the calls behind it
    abbrev Later : Scheduler → Type 0
    Later u = (text : List ℕ) (y : Stay) → Among y u.stays → Holds key iv text y → Onward text y (since o u ds) end

    abbrev one : Service
    one = service o s p.list out.list

    abbrev others : List Service
    others = since o (after_turn o s p.list out.list) ds

    -- it serves x, or another
    numbered_turn : (v : Serves o s p.list out.list) → Later (after_turn o s p.list out.list) → Onward text x (one ∷ others) end
    numbered_turn v later =
        on_test (same (iv_of (next o s)) iv.list)
        (λ e.
        let is : next o s ≡ x = one_of s.stays k.apart (next o s) x (next_among o s v.some) m (same_eq _ _ e ∙ sym (holds_iv key iv text x h)) in
        subst (λ (y : Stay). Onward text y (one ∷ others) end) is
        (serves_it s p out v text (subst (Holds key iv text) (sym is) h) others end (λ g r. later (text ++ p.list) _ (turn_keeps o s p out v r) g)))
        (λ e.
        let differ : ¬ (iv_of (next o s) ≡ iv.list) = λ q. true≢false (sym (rw q (same_refl iv.list)) ∙ e) in
        rw (own_not key iv one others differ)
        (later text x (⊎_elim (λ n. n) (λ q. absurd (differ (ap iv_of (sym q) ∙ holds_iv key iv text x h))) (turn_leaves o s p out v x m)) h))

    any_turn : (u : TurnEnd) → Turning o s p.list out.list u → Later u.scheduler → Onward text x (logged u.outcome ++ since o u.scheduler ds) end
    any_turn u (unchanged w e) later = rw e (later text x m h)
    any_turn u (numbered v) later = numbered_turn v later

  -- ---- any list

  onward : (ds : List Call) (t : Trail) → Good t → (text : List ℕ) (x : Stay) → Among x t.scheduler.stays → Holds key iv text x
      → Onward text x (since o t.scheduler ds) (calls o t ds).scheduler
  unfolding since calls call own
  onward [] t g text x m h = none_yet key iv text x.left t.scheduler x m (holds_iv key iv text x h) refl
  onward (join k v n ∷ ds) t g text x m h =
      onward ds (call o t (join k v n)) (call_good o t (join k v n) g) text x (joining_leaves t.scheduler k.list v.list n x m) h
  onward (turn p out ∷ ds) t g text x m h =
      any_turn t.scheduler g.kept text x m h p out ds (calls o (call o t (turn p out)) ds).scheduler
      (turn_call o t.scheduler p.list out.list) (turning o t.scheduler p.list out.list)
      (onward ds (call o t (turn p out)) (call_good o t (turn p out) g))

-- ---- a stay from its joining on

standing : (key iv : Bytes) (n : ℕ) (l : List Service) (s : Scheduler) → GoneOrThere key iv [] n l s → StandsOrLeft key iv n l s
standing key iv n l s (gone a b t) = left a b t
standing key iv n l s (there a y m b r) = let w = place_of m in stands a w.0 w.1 (rw w.2 b) (rw w.2 r)

module _ (o : Order) (cs : List Call) (key iv : Bytes) (n : ℕ) (ds : List Call) where
  abbrev before : Trail
  before = after o cs

  abbrev from : Trail
  from = call o before (join key iv n)

  whole : after o (cs ++ (join key iv n ∷ ds)) ≡ calls o from ds
  unfolding calls
  whole = calls_append o _ cs (join key iv n ∷ ds)

  services_are : services o cs (join key iv n) ds iv.list ≡ own iv.list (since o from.scheduler ds)
  unfolding call
  services_are =
      ap (λ (t : Trail). own iv.list (drop before.scheduler.turns t.log)) whole
      ∙ ap (λ (l : List Service). own iv.list (drop before.scheduler.turns l)) (log_since o from ds)
      ∙ ap (own iv.list) (drop_at before.log (since o from.scheduler ds) before.scheduler.turns (after_good o cs).logged_all)

  module _ (e : join_number before.scheduler key.list iv.list n ≡ 0) where
    is_among : Among (newcomer before.scheduler key.list iv.list n) from.scheduler.stays
    unfolding call join_call
    is_among = rw (eq-eqb (join_number before.scheduler key.list iv.list n) 0 e) (Memᴰ.append_right before.scheduler.stays (Memᴰ.head refl))

    page : SealedByItself o cs key iv n ds
    page =
        let c = onward o key iv ds from (call_good o before (join key iv n) (after_good o cs)) [] (newcomer before.scheduler key.list iv.list n) is_among
        (holds_new before.scheduler key iv n e) in
        record { cipher = rw services_are c.cipher; comes_to = rw (services_are, whole) (standing key iv n _ _ c.comes_to) }

-- ---- what a turn is answered

where_some : (l : List Stay) (a b c : ℕ) → (0 < length l → b ≡ c) → pick (none l) a b ≡ pick (none l) a c
where_some [] a b c f = refl
where_some (x ∷ l) a b c f = f (omega arith)

module _ (o : Order) (s : Scheduler) (p out : Bytes) where
  outcome_answers : answer (turn_call o s p.list out.list).outcome ≡ pick (none s.stays) 0 (turn_number o s p.list out.list)
  unfolding turn_call
  outcome_answers =
      on_test (none s.stays) (λ e. rw e)
      (λ e. rw e
      (on_test (eqb (turn_number o s p.list out.list) 0) (λ q. rw q (sym (eqb-true (turn_number o s p.list out.list) 0 q))) (λ q. rw q)))

  number_is : Kept s → 0 < length s.stays → turn_number o s p.list out.list
      ≡ refuse (leb most_turns s.turns) count_too_high
      (refuse (not (eqb (length p.list) (due (next o s)))) too_long (refuse (ltb (length out.list) (length p.list)) short_output 0))
  unfolding turn_number
  number_is k some =
      let d = k.sound (next o s) (next_among o s some) in
      ap (refuse (leb most_turns s.turns) count_too_high)
      (on_test (eqb (length p.list) (due (next o s))) (λ e. rw e (sound_number (next o s) d p out (eqb-true _ _ e))) (λ e. rw e))

pub by_itself : (o : Order) → ByItself o
by_itself o =
    record {
      page = page o;
      answers = λ cs p out.
          let s = (after o cs).scheduler in
          outcome_answers o s p out ∙ where_some s.stays 0 _ _ (number_is o s p out (after_good o cs).kept);
    }
