-- The services that a list of calls gives one stay, whatever stands between them: each of its pieces is a part of its text, and with the last of them it leaves.
use Prim.Native.Nat.{ℕ, ◌+◌, ◌<◌}
use mathlib.Core.List.{List, [], ◌∷◌, ◌++◌, append-nil, append_assoc}
use mathlib.Core.Path.{◌≡◌, refl, sym, ap, ap₂, ◌∙◌}
use mathlib.Core.Bool.{true, false, true≢false}
use native.Mathlib.Omega.{arith}
use borrow.Author.Tests.{eq-eqb, ne_eqb}
use lib.Dec.{eqb}
use lib.ListN.{length, length-append}
use Rattle.words.specs.Bytes.{same}
use Rattle.words.proofs.Tests.{same_refl, same_eq, refuted}
use Rattle.page.specs.Page.{encrypted, page_tag}
use Rattle.page.proofs.Ciphertext.{encrypted_append}
use Rattle.claims.specs.Lists.{Bytes}
use Rattle.scheduler.specs.Scheduler.{Stay, Scheduler, iv_of}
use Rattle.scheduler.specs.Calls.{Service}
use Rattle.claims_scheduler.specs.ByItself.{own, text_of, written_of, has_left, last_tag}
use Rattle.claims_scheduler.proofs.Lists.{Among}

-- ---- what they come to for one stay

last_behind : (v : Service) (l : List Service) → has_left l ≡ true → last_tag (v ∷ l) ≡ last_tag l
unfolding has_left last_tag
last_behind v [] e = absurd (true≢false (sym e))
last_behind v (w ∷ l) e = refl

module _ (key iv : Bytes) where
  -- a stay that has sealed a text and has n bytes left, and its services l that follow: it has left, all of that sealed, or it is there, and has the rest to seal
  pub data GoneOrThere (text : List ℕ) (n : ℕ) (l : List Service) (s : Scheduler) : Type 0 where
    gone : has_left l ≡ true → length (text_of l) ≡ n → last_tag l ≡ page_tag key.list iv.list [] (text ++ text_of l) → GoneOrThere text n l s
    there : has_left l ≡ false → (y : Stay) → Among y s.stays → iv_of y ≡ iv.list → length (text_of l) + y.left ≡ n → GoneOrThere text n l s

  pub record Comes (text : List ℕ) (n : ℕ) (l : List Service) (s : Scheduler) : Type 0 where
    pub cipher : written_of l ≡ encrypted key.list iv.list (length text) (text_of l)
    pub comes_to : GoneOrThere text n l s

  module _ (text : List ℕ) (n : ℕ) (s : Scheduler) where
    -- no service yet
    pub none_yet : (x : Stay) → Among x s.stays → iv_of x ≡ iv.list → x.left ≡ n → Comes text n [] s
    unfolding has_left text_of written_of encrypted
    none_yet x m e h = record { cipher = refl; comes_to = there refl x m e (omega arith) }

    module _ (v : Service) (e : v.written ≡ encrypted key.list iv.list (length text) v.piece) where
      -- the last one
      pub last_one : v.left ≡ 0 → length v.piece ≡ n → v.tag ≡ page_tag key.list iv.list [] (text ++ v.piece) → Comes text n (v ∷ []) s
      unfolding has_left text_of written_of last_tag
      last_one z h t =
          record {
            cipher = append-nil v.written ∙ e ∙ ap (encrypted key.list iv.list (length text)) (sym (append-nil v.piece));
            comes_to = gone (rw (eq-eqb v.left 0 z)) (rw (append-nil v.piece) h) (rw (append-nil v.piece) t);
          }

      -- one with which it does not leave
      pub one_more : (l : List Service) → 0 < v.left → length v.piece + v.left ≡ n → Comes (text ++ v.piece) v.left l s → Comes text n (v ∷ l) s
      unfolding has_left text_of written_of
      one_more l z h c =
          record {
            cipher =
                ap₂ (λ (a b : List ℕ). a ++ b) e (c.cipher ∙ ap (λ (i : ℕ). encrypted key.list iv.list i (text_of l)) (length-append text v.piece))
                ∙ sym (encrypted_append key.list iv.list (length text) v.piece (text_of l));
            comes_to = go c.comes_to;
          }
        where
          stays : eqb v.left 0 ≡ false
          stays = ne_eqb v.left 0 (λ q. omega arith)

          go : GoneOrThere (text ++ v.piece) v.left l s → GoneOrThere text n (v ∷ l) s
          go (gone a b t) =
              let k = length-append v.piece (text_of l) in
              gone (rw stays a) (omega arith)
              (last_behind v l a ∙ t ∙ ap (page_tag key.list iv.list []) (append_assoc text v.piece (text_of l)))
          go (there a y m b r) =
              let k = length-append v.piece (text_of l) in
              there (rw stays a) y m b (omega arith)

  -- ---- which of a list are its services

  module _ (v : Service) (l : List Service) where
    pub own_last : v.iv ≡ iv.list → v.left ≡ 0 → own iv.list (v ∷ l) ≡ v ∷ []
    unfolding own
    own_last e z = rw (e, same_refl iv.list, eq-eqb v.left 0 z)

    pub own_more : v.iv ≡ iv.list → 0 < v.left → own iv.list (v ∷ l) ≡ v ∷ own iv.list l
    unfolding own
    own_more e z = rw (e, same_refl iv.list, ne_eqb v.left 0 (λ q. omega arith))

    pub own_not : ¬ (v.iv ≡ iv.list) → own iv.list (v ∷ l) ≡ own iv.list l
    unfolding own
    own_not e = rw (refuted (same v.iv iv.list) (λ q. e (same_eq v.iv iv.list q)))
