-- A stay that is there, with its joining: a call that was accepted, behind which it has not left. Its services since then say all that it has come to, and one call more adds one
-- service if it is the turn that serves it, and else none.
use Prim.Native.Nat.{ℕ, suc, ◌+◌, ◌<◌}
use mathlib.Core.List.{List, [], ◌∷◌, ◌++◌, append-nil, append_assoc}
use mathlib.Core.Path.{◌≡◌, refl, sym, ap, ◌∙◌}
use mathlib.Core.Bool.{false}
use native.Mathlib.Omega.{arith}
use lib.ListN.{length, length-append}
use Rattle.claims.specs.Lists.{Bytes}
use Rattle.scheduler.specs.Scheduler.{Stay, Scheduler, Order, next}
use Rattle.scheduler.specs.Calls.{join_number, rest, after_service, Service, service}
use Rattle.claims_scheduler.specs.Lists.{Call, Call.join, Call.turn, after}
use Rattle.claims_scheduler.specs.ByItself.{own, text_of, has_left, services, last_turn}
use Rattle.claims_scheduler.proofs.Sealing.{Holds, holds_iv, holds_after}
use Rattle.claims_scheduler.proofs.Turns.{Serves}
use Rattle.claims_scheduler.proofs.Calls.{since}
use Rattle.claims_scheduler.proofs.Services.{own_more}
use Rattle.claims_scheduler.proofs.OneMore.{text_last, turn_last, left_last, more_services}

-- ---- a stay, its joining among the calls, and what it has come to by its services since

pub record Came (o : Order) (cs : List Call) (x : Stay) : Type 0 where
  pub key : Bytes
  pub iv : Bytes
  pub text : ℕ
  pub before : List Call
  pub behind : List Call
  pub is : cs ≡ before ++ (join key iv text ∷ behind)
  pub accepted : join_number (after o before).scheduler key.list iv.list text ≡ 0
  pub not_left : has_left (services o before (join key iv text) behind iv.list) ≡ false
  pub mark : x.mark ≡ last_turn (after o before).scheduler.turns (services o before (join key iv text) behind iv.list)
  pub left : length (text_of (services o before (join key iv text) behind iv.list)) + x.left ≡ text
  pub holds : Holds key iv (text_of (services o before (join key iv text) behind iv.list)) x

-- the same joining, in a list and a stay further on
abbrev pub Onto : (o : Order) (cs ds : List Call) (x y : Stay) → Came o cs x → Type 0
Onto o cs ds x y j = (k : Came o ds y) × (length k.before ≡ length j.before)

-- ---- one call more

module _ (o : Order) (cs : List Call) (d : Call) where
  abbrev here : Scheduler
  here = (after o cs).scheduler

  module _ (x : Stay) (j : Came o cs x) where
    abbrev so_far : List Service
    so_far = services o j.before (join j.key j.iv j.text) j.behind j.iv.list

    longer : cs ++ (d ∷ []) ≡ j.before ++ (join j.key j.iv j.text ∷ (j.behind ++ (d ∷ [])))
    longer = ap (λ (l : List Call). l ++ (d ∷ [])) j.is ∙ append_assoc j.before (join j.key j.iv j.text ∷ j.behind) (d ∷ [])

    more : (w : List Service) → own j.iv.list (since o here (d ∷ [])) ≡ w
        → services o j.before (join j.key j.iv j.text) (j.behind ++ (d ∷ [])) j.iv.list ≡ so_far ++ w
    more w e =
        more_services o j.before (join j.key j.iv j.text) j.behind (d ∷ []) j.iv.list j.not_left
        ∙ ap (λ (l : List Call). so_far ++ own j.iv.list (since o (after o l).scheduler (d ∷ []))) (sym j.is)
        ∙ ap (λ (l : List Service). so_far ++ l) e

    -- it does not serve it
    pub not_served : own j.iv.list (since o here (d ∷ [])) ≡ [] → Onto o cs (cs ++ (d ∷ [])) x x j
    not_served e =
        let m = more [] e ∙ append-nil so_far in (
          record {
            key = j.key;
            iv = j.iv;
            text = j.text;
            before = j.before;
            behind = j.behind ++ (d ∷ []);
            is = longer;
            accepted = j.accepted;
            not_left = rw m j.not_left;
            mark = rw m j.mark;
            left = rw m j.left;
            holds = rw m j.holds;
          },
          refl,
        )

-- the turn that serves it, and leaves it text to seal
module _ (o : Order) (cs : List Call) (p out : Bytes) (v : Serves o (after o cs).scheduler p.list out.list)
    (is-logged : since o (after o cs).scheduler (turn p out ∷ []) ≡ service o (after o cs).scheduler p.list out.list ∷ []) where
  abbrev s : Scheduler
  s = (after o cs).scheduler

  abbrev did : Service
  did = service o s p.list out.list

  pub was_served : (j : Came o cs (next o s)) → 0 < rest (next o s)
      → Onto o cs (cs ++ (turn p out ∷ [])) (next o s) (after_service (suc s.turns) (next o s) p.list out.list) j
  unfolding own
  was_served j h =
      let l = so_far o cs (turn p out) (next o s) j in
      let number = holds_iv j.key j.iv (text_of l) (next o s) j.holds in
      let m = more o cs (turn p out) (next o s) j (did ∷ [])
      (ap (own j.iv.list) is-logged ∙ own_more j.key j.iv did [] number h) in (
        record {
          key = j.key;
          iv = j.iv;
          text = j.text;
          before = j.before;
          behind = j.behind ++ (turn p out ∷ []);
          is = longer o cs (turn p out) (next o s) j;
          accepted = j.accepted;
          not_left = rw m (left_last did l j.not_left h);
          mark = rw m (sym (turn_last did (after o j.before).scheduler.turns l));
          left = rw (m, text_last did l) (omega (arith, length-append (text_of l) p.list, v.is_due, j.left));
          holds = rw (m, text_last did l) (holds_after j.key j.iv (text_of l) (next o s) j.holds p out v.taken (suc s.turns) v.is_due);
        },
        refl,
      )
