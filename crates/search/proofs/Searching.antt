-- A search answers what `Searches` says, and nothing else meets that: by the refusals' conditions in their order, and behind them by what is found from the lowest
-- count on.
use mathlib.Core.Path.{◌≡◌, refl, sym, ap, subst, ◌∙◌}
use mathlib.Core.Logic.{◌↔◌}
use mathlib.Core.Bool.{Bool, true, false}
use mathlib.Core.List.{List}
use Prim.Native.Nat.{ℕ, ◌+◌, ◌-◌, ◌≤◌, ◌<◌}
use native.Mathlib.Omega.{arith}
use native.Mathlib.Decide.{dec_lt}
use borrow.Author.Tests.{eqb-true, eqb-false, ne_eqb}
use lib.Dec.{eqb}
use lib.ListN.{length}
use Rattle.scope.specs.Limits.{most_blocks}
use Rattle.words.specs.Bytes.{Row}
use Rattle.words.proofs.Rows.{Below}
use Rattle.cipher.specs.Registers.{Registers, IsRegisters}
use Rattle.start.specs.Start.{Mode}
use Rattle.layout.specs.Block.{registers_at}
use Rattle.layout.proofs.RegisterBytes.{at_good}
use Rattle.search.specs.Search.{Searched, Searched.found, Searched.refused, steps_to, NoneBetween, Least, Searchable, Searches}
use Rattle.search.specs.Counts.{upward, range_number, search}
use Rattle.search.proofs.Numbers.{bad_key, bad_dump, too_far, bad_order, in_order}
use Rattle.search.proofs.Outcomes.{Outcome, Outcome.hit, Outcome.miss, outcome, least_one}

-- both hold, and neither does
both : {A B : Type 0} → A → B → A ↔ B
both a b = (λ x. b, λ y. a)

neither : {A B : Type 0} → ¬ A → ¬ B → A ↔ B
neither p q = (λ x. absurd (p x), λ y. absurd (q y))

number_one : {a : Searched} {i j n l : ℕ} → a ≡ refused i n → a ≡ refused j l → i ≡ j
number_one p q = cc

never_found : {a : Searched} {i n : ℕ} {c : ℕ} {iv : List ℕ} {m : Mode} {l : ℕ} → a ≡ refused i n → a ≡ found c iv m l → ⊥
never_found p q = let z : ◌≡◌ {A = ℕ} 0 1 = cc in omega arith

module _ (dump key : List ℕ) (lowest highest : ℕ) where
  abbrev answer : Searched
  answer = search dump key lowest highest

  -- refused before the walk
  pub before : {i : ℕ} → i ≡ range_number dump key lowest highest → ¬ (i ≡ 0) → answer ≡ refused i 0
  unfolding search
  before {i} e h = rw (← e, ne_eqb i 0 h)

  pub walks : Searchable dump key lowest highest → answer ≡ upward key (registers_at dump) lowest lowest (highest - lowest)
  unfolding search
  walks s = rw (← in_order dump key lowest highest s.key_long s.dump_long s.within s.ordered)

  -- the answer is what `Searches` says, and nothing else is
  record Settled : Type 0 where
    says : Searches dump key lowest highest answer
    only : (a : Searched) → Searches dump key lowest highest a → a ≡ answer

  other : {i n : ℕ} → answer ≡ refused i n → (j l : ℕ) → ¬ (i ≡ j) → ¬ (answer ≡ refused j l)
  other e j l h f = h (number_one e f)

  bad_key_settles : ¬ (length key ≡ 32) → Settled
  bad_key_settles h =
      let e = before (bad_key dump key lowest highest h) (omega arith) in
      record {
        says =
            record {
              wrong_key = both e h;
              wrong_dump = neither (other e 8 0 (omega arith)) (λ f. h f.0);
              too_far = neither (other e 9 0 (omega arith)) (λ f. h f.0);
              wrong_order = neither (other e 18 0 (omega arith)) (λ f. h f.0);
              found_least = λ c iv m. neither (never_found e) (λ f. h f.0.key_long);
              found_none = neither (other e 6 _ (omega arith)) (λ f. h f.0.key_long);
            };
        only = λ a x. x.wrong_key.1 h ∙ sym e;
      }

  module _ (k : length key ≡ 32) where
    bad_dump_settles : ¬ (length dump ≡ 112) → Settled
    bad_dump_settles h =
        let e = before (bad_dump dump key lowest highest k h) (omega arith) in
        record {
          says =
              record {
                wrong_key = neither (other e 1 0 (omega arith)) (λ f. f k);
                wrong_dump = both e (k, h);
                too_far = neither (other e 9 0 (omega arith)) (λ f. h f.1);
                wrong_order = neither (other e 18 0 (omega arith)) (λ f. h f.1);
                found_least = λ c iv m. neither (never_found e) (λ f. h f.0.dump_long);
                found_none = neither (other e 6 _ (omega arith)) (λ f. h f.0.dump_long);
              };
          only = λ a x. x.wrong_dump.1 (k, h) ∙ sym e;
        }

    module _ (d : length dump ≡ 112) where
      too_far_settles : most_blocks < highest → Settled
      too_far_settles h =
          let e = before (too_far dump key lowest highest k d h) (omega arith) in
          record {
            says =
                record {
                  wrong_key = neither (other e 1 0 (omega arith)) (λ f. f k);
                  wrong_dump = neither (other e 8 0 (omega arith)) (λ f. f.1 d);
                  too_far = both e (k, d, h);
                  wrong_order = neither (other e 18 0 (omega arith)) (λ f. omega (arith, f.2));
                  found_least = λ c iv m. neither (never_found e) (λ f. omega (arith, f.0.within));
                  found_none = neither (other e 6 _ (omega arith)) (λ f. omega (arith, f.0.within));
                };
            only = λ a x. x.too_far.1 (k, d, h) ∙ sym e;
          }

      module _ (w : highest ≤ most_blocks) where
        bad_order_settles : highest < lowest → Settled
        bad_order_settles h =
            let e = before (bad_order dump key lowest highest k d w h) (omega arith) in
            record {
              says =
                  record {
                    wrong_key = neither (other e 1 0 (omega arith)) (λ f. f k);
                    wrong_dump = neither (other e 8 0 (omega arith)) (λ f. f.1 d);
                    too_far = neither (other e 9 0 (omega arith)) (λ f. omega (arith, f.2));
                    wrong_order = both e (k, d, w, h);
                    found_least = λ c iv m. neither (never_found e) (λ f. omega (arith, f.0.ordered));
                    found_none = neither (other e 6 _ (omega arith)) (λ f. omega (arith, f.0.ordered));
                  };
              only = λ a x. x.wrong_order.1 (k, d, w, h) ∙ sym e;
            }

  -- the walk has come to its end
  module _ (r : Below 256 dump) (b : Below 256 key) (h : Searchable dump key lowest highest) where
    abbrev s : Registers
    s = registers_at dump

    row : Row 32 256 key
    row = record { long = h.key_long; below = b }

    good : IsRegisters s
    good = at_good dump (record { long = h.dump_long; below = r })

    end : lowest + (highest - lowest) ≡ highest
    end = omega (arith, h.ordered)

    -- what the walk has come to
    pub data Decided : Type 0 where
      at : (c : ℕ) (iv : List ℕ) (m : Mode) → Least key s lowest highest c iv m → answer ≡ found c iv m (steps_to lowest c) → Decided
      nowhere : NoneBetween key s lowest highest → answer ≡ refused 6 (steps_to lowest highest) → Decided

    pub decided : Decided
    decided = by (outcome key row s good lowest (highest - lowest) lowest (omega (arith, end, h.within)))
      where
        by : Outcome key row s good lowest lowest (highest - lowest) → Decided
        by (hit c iv m l f) = at c iv m (subst (λ (n : ℕ). Least key s lowest n c iv m) end l) (walks h ∙ f)
        by (miss l f) = nowhere (subst (NoneBetween key s lowest) end l) (walks h ∙ f ∙ ap (λ (n : ℕ). refused 6 (steps_to lowest n)) end)

    settled : Decided → Settled
    settled (at d iv m l e) =
        record {
          says =
              record {
                wrong_key = neither (λ x. never_found x e) (λ x. x h.key_long);
                wrong_dump = neither (λ x. never_found x e) (λ x. x.1 h.dump_long);
                too_far = neither (λ x. never_found x e) (λ x. omega (arith, x.2, h.within));
                wrong_order = neither (λ x. never_found x e) (λ x. omega (arith, x.3, h.ordered));
                found_least = λ c v w.
                    (λ x. (h, subst Names (sym e ∙ x) l), λ x. e ∙ same_found (least_one key row s good lowest highest d c iv v m w l x.1));
                found_none = neither (λ x. never_found x e) (λ x. x.1 d l.from l.up_to iv m l.leads);
              };
          only = λ a x. (x.found_least d iv m).1 (h, l) ∙ sym e;
        }
      where
        -- what an answer that has found something names is the least
        Names : Searched → Type 0
        Names (found c v w n) = Least key s lowest highest c v w
        Names (refused i n) = ⊥

        same_found : {c : ℕ} {v : List ℕ} {w : Mode} → (d ≡ c) × ((iv ≡ v) × (m ≡ w)) → found d iv m (steps_to lowest d) ≡ found c v w (steps_to lowest c)
        same_found x = λ i. found (x.0 i) (x.1.0 i) (x.1.1 i) (steps_to lowest (x.0 i))
    settled (nowhere l e) =
        record {
          says =
              record {
                wrong_key = neither (other e 1 0 (omega arith)) (λ x. x h.key_long);
                wrong_dump = neither (other e 8 0 (omega arith)) (λ x. x.1 h.dump_long);
                too_far = neither (other e 9 0 (omega arith)) (λ x. omega (arith, x.2, h.within));
                wrong_order = neither (other e 18 0 (omega arith)) (λ x. omega (arith, x.3, h.ordered));
                found_least = λ c v w. neither (never_found e) (λ x. l c x.1.from x.1.up_to v w x.1.leads);
                found_none = both e (h, l);
              };
          only = λ a x. x.found_none.1 (h, l) ∙ sym e;
        }

  -- of every dump, key and range
  settles : Below 256 dump → Below 256 key → Settled
  settles r b = by_key (eqb (length key) 32) refl
    where
      by_range : length key ≡ 32 → length dump ≡ 112 → Settled
      by_range k d =
          elim (dec_lt most_blocks highest) [
            | yes x ↦ too_far_settles k d x
            | no x ↦ let w : highest ≤ most_blocks = omega arith in
                elim (dec_lt highest lowest) [
                  | yes y ↦ bad_order_settles k d w y
                  | no y ↦ let h : Searchable dump key lowest highest = record { key_long = k; dump_long = d; within = w; ordered = omega arith } in
                      settled r b h (decided r b h)
                ]
          ]

      by_dump : length key ≡ 32 → (t : Bool) → eqb (length dump) 112 ≡ t → Settled
      by_dump k true e = by_range k (eqb-true (length dump) 112 e)
      by_dump k false e = bad_dump_settles k (eqb-false (length dump) 112 e)

      by_key : (t : Bool) → eqb (length key) 32 ≡ t → Settled
      by_key true e = by_dump (eqb-true (length key) 32 e) (eqb (length dump) 112) refl
      by_key false e = bad_key_settles (eqb-false (length key) 32 e)

  pub searches : Below 256 dump → Below 256 key → Searches dump key lowest highest (search dump key lowest highest)
  searches r b = (settles r b).says

  pub no_other : Below 256 dump → Below 256 key → (a : Searched) → Searches dump key lowest highest a → a ≡ search dump key lowest highest
  no_other r b a x = (settles r b).only a x
