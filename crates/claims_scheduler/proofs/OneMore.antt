-- More calls behind a joining: the services that they log stand behind those before. A stay that has not left has those of its number among them too, and one that has left keeps to
-- those before.
use Prim.Native.Nat.{ℕ, ◌<◌}
use mathlib.Core.List.{List, [], ◌∷◌, ◌++◌, append-nil, append_assoc}
use mathlib.Core.Path.{◌≡◌, refl, sym, ap, ◌∙◌}
use mathlib.Core.Bool.{true, false, true≢false}
use native.Mathlib.Omega.{arith}
use borrow.Author.Tests.{ne_eqb}
use lib.Dec.{eqb}
use lib.ListN.{drop}
use lib.Seq.{drop_at}
use Rattle.words.specs.Bytes.{same}
use Rattle.words.proofs.Tests.{neither}
use Rattle.scheduler.specs.Scheduler.{Order}
use Rattle.scheduler.specs.Calls.{Service}
use Rattle.scheduler.proofs.Order.{on_test}
use Rattle.claims_scheduler.specs.Lists.{Call, Trail, after}
use Rattle.claims_scheduler.specs.ByItself.{own, text_of, has_left, services, last_turn}
use Rattle.claims_scheduler.proofs.Calls.{after_good, calls_append, since, log_since}

-- ---- a service behind others

own_behind : (iv : List ℕ) (l m : List Service) → has_left (own iv l) ≡ false → own iv (l ++ m) ≡ own iv l ++ own iv m
unfolding own has_left
own_behind iv [] m e = refl
own_behind iv (v ∷ l) m e =
    on_test (same v.iv iv)
    (λ p. on_test (eqb v.left 0) (λ q. absurd (true≢false (rw (p, q) at e)))
    (λ q. rw (p, q) (ap (λ (w : List Service). v ∷ w) (own_behind iv l m (rw (p, q) at e)))))
    (λ p. rw p (own_behind iv l m (rw p at e)))

own_done : (iv : List ℕ) (l m : List Service) → has_left (own iv l) ≡ true → own iv (l ++ m) ≡ own iv l
unfolding own has_left
own_done iv [] m e = absurd (true≢false (sym e))
own_done iv (v ∷ l) m e =
    on_test (same v.iv iv)
    (λ p. on_test (eqb v.left 0) (λ q. rw (p, q))
    (λ q. rw (p, q) (ap (λ (w : List Service). v ∷ w) (own_done iv l m (rw (p, q) at e)))))
    (λ p. rw p (own_done iv l m (rw p at e)))

module _ (v : Service) where
  pub text_last : (l : List Service) → text_of (l ++ (v ∷ [])) ≡ text_of l ++ v.piece
  unfolding text_of
  text_last [] = append-nil v.piece
  text_last (w ∷ l) = ap (λ (t : List ℕ). w.piece ++ t) (text_last l) ∙ sym (append_assoc w.piece (text_of l) v.piece)

  pub turn_last : (n : ℕ) (l : List Service) → last_turn n (l ++ (v ∷ [])) ≡ v.turn
  unfolding last_turn
  turn_last n [] = refl
  turn_last n (w ∷ l) = turn_last w.turn l

  pub left_last : (l : List Service) → has_left l ≡ false → 0 < v.left → has_left (l ++ (v ∷ [])) ≡ false
  unfolding has_left
  left_last [] e h = rw (ne_eqb v.left 0 (λ q. omega arith))
  left_last (w ∷ l) e h = let n = neither (eqb w.left 0) (has_left l) e in rw n.0 (left_last l n.1 h)

-- ---- calls behind others

module _ (o : Order) (before : List Call) (c : Call) (behind : List Call) (ds : List Call) (iv : List ℕ) where
  abbrev first : Trail
  first = after o before

  abbrev then : Trail
  then = after o (before ++ (c ∷ behind))

  -- what was logged from the joining on
  abbrev so_far : List Service
  so_far = since o first.scheduler (c ∷ behind)

  so_far_is : then.log ≡ first.log ++ so_far
  so_far_is = ap (λ (t : Trail). t.log) (calls_append o _ before (c ∷ behind)) ∙ log_since o first (c ∷ behind)

  abbrev added : List Service
  added = since o then.scheduler ds

  behind_all : before ++ (c ∷ (behind ++ ds)) ≡ (before ++ (c ∷ behind)) ++ ds
  behind_all = sym (append_assoc before (c ∷ behind) ds)

  all_is : (after o (before ++ (c ∷ (behind ++ ds)))).log ≡ first.log ++ (so_far ++ added)
  all_is =
      ap (λ (l : List Call). (after o l).log) behind_all
      ∙ ap (λ (t : Trail). t.log) (calls_append o _ (before ++ (c ∷ behind)) ds)
      ∙ log_since o then ds
      ∙ ap (λ (l : List Service). l ++ added) so_far_is
      ∙ append_assoc first.log so_far added

  behind_joining : (log l : List Service) → log ≡ first.log ++ l → drop first.scheduler.turns log ≡ l
  behind_joining log l e = ap (drop first.scheduler.turns) e ∙ drop_at first.log l first.scheduler.turns (after_good o before).logged_all

  pub services_since : services o before c behind iv ≡ own iv so_far
  services_since = ap (own iv) (behind_joining then.log so_far so_far_is)

  pub more_services : has_left (services o before c behind iv) ≡ false → services o before c (behind ++ ds) iv ≡ services o before c behind iv ++ own iv added
  more_services e =
      ap (own iv) (behind_joining _ (so_far ++ added) all_is)
      ∙ own_behind iv so_far added (sym (ap has_left services_since) ∙ e)
      ∙ ap (λ (l : List Service). l ++ own iv added) (sym services_since)

  pub no_more : has_left (services o before c behind iv) ≡ true → services o before c (behind ++ ds) iv ≡ services o before c behind iv
  no_more e =
      ap (own iv) (behind_joining _ (so_far ++ added) all_is)
      ∙ own_done iv so_far added (sym (ap has_left services_since) ∙ e)
      ∙ sym services_since
