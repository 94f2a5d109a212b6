-- The answers of a resume, by the key's length, the layout rules and what the trace finds: which IV leads to the block's registers, or that none does.
use mathlib.Core.Path.{◌≡◌, refl, sym, ap, subst, ◌∙◌}
use mathlib.Core.Bool.{Bool, true, false, true≢false}
use mathlib.Core.List.{List}
use Prim.Native.Nat.{ℕ, suc, ◌+◌}
use native.Mathlib.Omega.{arith}
use borrow.Author.Tests.{eq-eqb, ne_eqb, eqb-true, eqb-false}
use lib.Dec.{eqb}
use lib.ListN.{length}
use Rattle.words.specs.Bytes.{Row}
use Rattle.words.proofs.Rows.{Below}
use Rattle.cipher.specs.Registers.{Registers}
use Rattle.cipher.specs.Back.{z_before}
use Rattle.cipher.specs.Run.{forward, move, moves}
use Rattle.cipher.proofs.Inverse.{z_before_step}
use Rattle.start.specs.Start.{Mode.plain, Mode.sealed, start, sealed_keystream}
use Rattle.start.specs.Leads.{LeadsTo, Traced, Traced.origin, Traced.refused, Traceable, Traces}
use Rattle.start.specs.Trace.{trace}
use Rattle.start.proofs.Undo.{drawn_good}
use Rattle.start.proofs.Tracing.{traces}
use Rattle.ghash.specs.Hash.{ceil16}
use Rattle.session.specs.Session.{drawn_at}
use Rattle.layout.specs.Block.{read}
use Rattle.layout.specs.Rules.{well_laid}
use Rattle.layout.proofs.Obeying.{laid_text}
use Rattle.layout.proofs.Taken.{read_fine}
use Rattle.suspend.specs.Calls.{state_for, not_resumed, revived, LeadsToBlock, Revives}
use Rattle.suspend.specs.Walk.{by_origin, resume_call}

-- the z of the step before is the block drawn last
pub last_drawn : (key iv : List ℕ) → Row 32 256 key → (t : ℕ) {s : Registers} → LeadsTo key (drawn_at t) iv sealed s
    → z_before s ≡ sealed_keystream key iv (1 + ceil16 t)
unfolding moves move
last_drawn key iv k t l =
    let n : ℕ = 1 + ceil16 t in
    let e : drawn_at t ≡ suc n = omega arith in
    ap z_before (sym l.arrives ∙ ap (λ (i : ℕ). moves forward i (start key iv sealed)) e)
    ∙ z_before_step (moves forward n (start key iv sealed)) (drawn_good key k iv sealed l.iv_block n)

module _ (key b : List ℕ) where
  -- ---- 1 and 8

  pub resume_bad_key : ¬ (length key ≡ 32) → not_resumed 1 ≡ resume_call key b
  unfolding resume_call
  resume_bad_key h = rw (ne_eqb (length key) 32 h)

  revives_bad_key : ¬ (length key ≡ 32) → Revives key b (not_resumed 1)
  revives_bad_key h =
      record {
        wrong_key = (λ e. h, λ f. refl);
        bad = (λ e. absurd (omega arith), λ f. absurd (h f.0));
        found = λ iv. (λ e. absurd (omega arith), λ f. absurd (h f.0.0));
        none = (λ e. absurd (omega arith), λ f. absurd (h f.0.0));
        session = λ e. absurd (omega arith);
      }

  module _ (h : length key ≡ 32) where
    pub resume_bad_block : well_laid b ≡ false → not_resumed 8 ≡ resume_call key b
    unfolding resume_call
    resume_bad_block w = rw (eq-eqb (length key) 32 h, w)

    revives_bad_block : well_laid b ≡ false → Revives key b (not_resumed 8)
    revives_bad_block w =
        let never : well_laid b ≡ true → ⊥ = λ e. true≢false (sym e ∙ w) in
        record {
          wrong_key = (λ e. absurd (omega arith), λ f. absurd (f h));
          bad = (λ e. (h, w), λ f. refl);
          found = λ iv. (λ e. absurd (omega arith), λ f. absurd (never f.0.1));
          none = (λ e. absurd (omega arith), λ f. absurd (never f.0.1));
          session = λ e. absurd (omega arith);
        }

    -- ---- the trace decides

    module _ (w : well_laid b ≡ true) {a : Traced} where
      module _ (t : a ≡ trace (state_for (read b)) key) where
        resume_traced : by_origin key (read b) a ≡ resume_call key b
        unfolding resume_call
        resume_traced = rw (eq-eqb (length key) 32 h, w, ← t)

        pub resume_refused : (n : ℕ) → a ≡ refused n → not_resumed 6 ≡ resume_call key b
        unfolding by_origin
        resume_refused n e = sym (ap (by_origin key (read b)) e) ∙ resume_traced

        pub resume_plain : (iv : List ℕ) → a ≡ origin iv plain → not_resumed 6 ≡ resume_call key b
        unfolding by_origin
        resume_plain iv e = sym (ap (by_origin key (read b)) e) ∙ resume_traced

        pub resume_sealed : (iv : List ℕ) → a ≡ origin iv sealed → record { number = 0; iv = iv; session = revived key iv (read b) } ≡ resume_call key b
        unfolding by_origin
        resume_sealed iv e = sym (ap (by_origin key (read b)) e) ∙ resume_traced

      module _ (t : Traces (state_for (read b)) key a) where
        fits : Traceable (state_for (read b)) key
        fits = (h, omega (arith, laid_text b w))

        traced : (iv : List ℕ) → LeadsToBlock key b iv → a ≡ origin iv sealed
        traced iv l = (t.found iv sealed).1 (fits, l)

        leads_there : (iv : List ℕ) → a ≡ origin iv sealed → LeadsToBlock key b iv
        leads_there iv e = ((t.found iv sealed).0 e).1

        nowhere : ((iv : List ℕ) → ¬ (a ≡ origin iv sealed)) → Revives key b (not_resumed 6)
        nowhere never =
            record {
              wrong_key = (λ e. absurd (omega arith), λ f. absurd (f h));
              bad = (λ e. absurd (omega arith), λ f. absurd (true≢false (sym w ∙ f.1)));
              found = λ iv. (λ e. absurd (omega arith), λ f. absurd (never iv (traced iv f.1)));
              none = (λ e. ((h, w), λ iv l. never iv (traced iv l)), λ f. refl);
              session = λ e. absurd (omega arith);
            }

        revives_refused : (n : ℕ) → a ≡ refused n → Revives key b (not_resumed 6)
        revives_refused n e = nowhere (λ iv f. let z : ◌≡◌ {A = ℕ} 0 1 = cc in omega arith)

        revives_plain : (iv : List ℕ) → a ≡ origin iv plain → Revives key b (not_resumed 6)
        revives_plain iv e = nowhere (λ v f. let z : ◌≡◌ {A = ℕ} 0 1 = cc in omega arith)

        revives_sealed : (iv : List ℕ) → a ≡ origin iv sealed → Revives key b (record { number = 0; iv = iv; session = revived key iv (read b) })
        revives_sealed iv e =
            record {
              wrong_key = (λ f. absurd (omega arith), λ f. absurd (f h));
              bad = (λ f. absurd (omega arith), λ f. absurd (true≢false (sym w ∙ f.1)));
              found = λ v. (λ f. ((h, w), leads_there v (e ∙ ap (λ (u : List ℕ). origin u sealed) f.1)), λ f. (refl, one v (traced v f.1)));
              none = (λ f. absurd (omega arith), λ f. absurd (f.1 iv (leads_there iv e)));
              session = λ f. refl;
            }
          where
            one : (v : List ℕ) → a ≡ origin v sealed → iv ≡ v
            one v f = cc

  -- of every key and every block
  pub revives : Below 256 key → Below 256 b → Revives key b (resume_call key b)
  revives kb bb = by (eqb (length key) 32) refl (well_laid b) refl
    where
      found : (h : length key ≡ 32) (w : well_laid b ≡ true) (a : Traced) → a ≡ trace (state_for (read b)) key
          → Revives key b (resume_call key b)
      found h w (origin iv plain) e =
          subst (Revives key b) (resume_plain h w e iv refl) (revives_plain h w (rw e (traces (state_for (read b)) (read_fine b bb w).registers_good key kb)) iv refl)
      found h w (origin iv sealed) e =
          subst (Revives key b) (resume_sealed h w e iv refl) (revives_sealed h w (rw e (traces (state_for (read b)) (read_fine b bb w).registers_good key kb)) iv refl)
      found h w (refused n) e =
          subst (Revives key b) (resume_refused h w e n refl) (revives_refused h w (rw e (traces (state_for (read b)) (read_fine b bb w).registers_good key kb)) n refl)

      by : (i : Bool) → eqb (length key) 32 ≡ i → (j : Bool) → well_laid b ≡ j → Revives key b (resume_call key b)
      by false p j q = let h = eqb-false (length key) 32 p in subst (Revives key b) (resume_bad_key h) (revives_bad_key h)
      by true p false q = let h = eqb-true (length key) 32 p in subst (Revives key b) (resume_bad_block h q) (revives_bad_block h q)
      by true p true q = found (eqb-true (length key) 32 p) q (trace (state_for (read b)) key) refl

  -- a block that is resumed from obeys the layout rules, and so has 512 bytes
  pub resumed_laid : (resume_call key b).number ≡ 0 → well_laid b ≡ true
  unfolding resume_call
  resumed_laid n = go (eqb (length key) 32) refl (well_laid b) refl
    where
      go : (i : Bool) → eqb (length key) 32 ≡ i → (j : Bool) → well_laid b ≡ j → well_laid b ≡ true
      go true p true q = q
      go true p false q = absurd (let z = rw q at (rw p at n) in omega arith)
      go false p j q = absurd (let z = rw p at n in omega arith)
