-- A stay that is there has one joining behind which it has not left: from an accepted joining on its number is there until it leaves, so that no other of that number is accepted.
use Prim.Native.Nat.{ℕ}
use mathlib.Core.List.{List, [], ◌∷◌, ◌++◌}
use mathlib.Core.Path.{◌≡◌, refl, sym, ap, subst, ◌∙◌}
use mathlib.Core.Bool.{true, false, true≢false}
use Rattle.claims.specs.Lists.{Bytes}
use Rattle.scheduler.specs.Scheduler.{Scheduler, present, Order, at}
use Rattle.scheduler.specs.Calls.{join_number}
use Rattle.claims_scheduler.specs.Lists.{Call, Call.join, after}
use Rattle.claims_scheduler.specs.ByItself.{has_left, services, StandsOrLeft, StandsOrLeft.left, StandsOrLeft.stands, Held}
use Rattle.claims_scheduler.proofs.Joining.{joins}
use Rattle.claims_scheduler.proofs.Lists.{at_among}
use Rattle.claims_scheduler.proofs.Numbers.{among_present}
use Rattle.claims_scheduler.proofs.ByItself.{by_itself}
use Rattle.claims_scheduler.proofs.OneMore.{no_more}

-- ---- a list parted twice

data Parted (a : List Call) (x : Call) (b : List Call) (c : List Call) (y : Call) (d : List Call) : Type 0 where
  at_once : a ≡ c → Parted a x b c y d
  first : (m : List Call) → c ≡ a ++ (x ∷ m) → b ≡ m ++ (y ∷ d) → Parted a x b c y d
  second : (m : List Call) → a ≡ c ++ (y ∷ m) → d ≡ m ++ (x ∷ b) → Parted a x b c y d

first_of : List Call → Call → Call
first_of [] x = x
first_of (y ∷ l) x = y

tail_of : List Call → List Call
tail_of [] = []
tail_of (y ∷ l) = l

parted : (a : List Call) (x : Call) (b c : List Call) (y : Call) (d : List Call) → a ++ (x ∷ b) ≡ c ++ (y ∷ d) → Parted a x b c y d
unfolding first_of tail_of
parted [] x b [] y d e = at_once refl
parted [] x b (z ∷ c) y d e = first c (ap (λ (l : List Call). first_of l x ∷ c) (sym e)) (ap tail_of e)
parted (z ∷ a) x b [] y d e = second a (ap (λ (l : List Call). first_of l y ∷ a) e) (sym (ap tail_of e))
parted (z ∷ a) x b (w ∷ c) y d e = go (parted a x b c y d (ap tail_of e))
  where
    same_first : z ≡ w
    same_first = ap (λ (l : List Call). first_of l z) e

    go : Parted a x b c y d → Parted (z ∷ a) x b (w ∷ c) y d
    go (at_once q) = at_once (rw (same_first, q))
    go (first m q r) = first m (rw (same_first, q)) r
    go (second m q r) = second m (rw (same_first, q)) r

-- ---- no other of its number is accepted

module _ (o : Order) (before : List Call) (key iv : Bytes) (n : ℕ) (m ds : List Call) (e : join_number (after o before).scheduler key.list iv.list n ≡ 0)
    (there : has_left (services o before (join key iv n) (m ++ ds) iv.list) ≡ false) where
  abbrev then : Scheduler
  then = (after o (before ++ (join key iv n ∷ m))).scheduler

  is_present : StandsOrLeft key iv n (services o before (join key iv n) m iv.list) then → present iv.list then.stays ≡ true
  is_present (left q a b) =
      absurd (true≢false (sym q ∙ sym (ap has_left (no_more o before (join key iv n) m ds iv.list q)) ∙ there))
  is_present (stands q i h number a) =
      sym (ap (λ (l : List ℕ). present l then.stays) number) ∙ among_present (at then.stays i) then.stays (at_among then.stays i h)

  not_again : (k : Bytes) (v : List ℕ) (l : ℕ) → iv.list ≡ v → ¬ (join_number then k.list v l ≡ 0)
  not_again k v l same f =
      true≢false
      (sym (is_present ((by_itself o).page before key iv n m e).comes_to)
      ∙ ap (λ (w : List ℕ). present w then.stays) same
      ∙ (joins then k.list v l f).new)

-- ---- of a place

module _ (o : Order) (cs : List Call) (i : ℕ) where
  abbrev joining : Held o cs i → Call
  joining a = join a.key a.iv a.text

  not_later : (a b : Held o cs i) (m : List Call) → b.before ≡ a.before ++ (joining a ∷ m) → ¬ (a.behind ≡ m ++ (joining b ∷ b.behind))
  not_later a b m q r =
      not_again o a.before a.key a.iv a.text m (joining b ∷ b.behind) a.accepted
      (subst (λ (l : List Call). has_left (services o a.before (joining a) l a.iv.list) ≡ false) r a.not_left)
      b.key b.iv.list b.text (sym a.number ∙ b.number)
      (subst (λ (l : List Call). join_number (after o l).scheduler b.key.list b.iv.list b.text ≡ 0) q b.accepted)

  pub one_joining : (a b : Held o cs i) → a.before ≡ b.before
  one_joining a b = go (parted a.before (joining a) a.behind b.before (joining b) b.behind (sym a.is ∙ b.is))
    where
      go : Parted a.before (joining a) a.behind b.before (joining b) b.behind → a.before ≡ b.before
      go (at_once q) = q
      go (first m q r) = absurd (not_later a b m q r)
      go (second m q r) = absurd (not_later b a m q r)
