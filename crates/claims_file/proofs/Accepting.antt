-- A seal is accepted exactly if its lengths and its day are in order and the file has the place.
use mathlib.Core.Logic.{◌↔◌}
use mathlib.Core.Path.{◌≡◌}
use mathlib.Core.Bool.{Bool, not, ◌||◌}
use mathlib.Core.List.{List}
use Prim.Native.Nat.{ℕ, ◌*◌, ◌%◌}
use borrow.Author.Tests.{eqb-true, eq-eqb, leb-false, lt-leb, ltb-false, le-ltb, not-false}
use lib.Dec.{eqb, leb, ltb, lit<}
use lib.ListN.{length}
use Rattle.scope.specs.Limits.{most_page_text, last_day}
use Rattle.scope.specs.Refusals.{refuse, key_length, iv_length, too_long, day_range, bad_file}
use Rattle.scope.proofs.Refusing.{refuse_none}
use Rattle.page_file.specs.Calls.{seal_number}
use Rattle.words.proofs.Tests.{neither}
use Rattle.claims_file.specs.Claims.{Sealable, Place}

module _ (key stay : List ℕ) (day : ℕ) (t f : List ℕ) (i : ℕ) where
  pub accepted : seal_number key stay day t f i ≡ 0 → Sealable key stay day t × Place f i
  unfolding seal_number
  accepted e =
      let k : Bool = not (eqb (length key) 32) in
      let v : Bool = not (eqb (length stay) 12) in
      let l : Bool = ltb most_page_text (length t) in
      let d : Bool = ltb last_day day in
      let p : Bool = not (eqb (length f % 512) 0) || leb (length f) (512 * i) in
      let a = refuse_none k key_length (refuse v iv_length (refuse l too_long (refuse d day_range (refuse p bad_file 0)))) (lit< tt) e in
      let b = refuse_none v iv_length (refuse l too_long (refuse d day_range (refuse p bad_file 0))) (lit< tt) a.1 in
      let c = refuse_none l too_long (refuse d day_range (refuse p bad_file 0)) (lit< tt) b.1 in
      let g = refuse_none d day_range (refuse p bad_file 0) (lit< tt) c.1 in
      let h = neither (not (eqb (length f % 512) 0)) (leb (length f) (512 * i)) (refuse_none p bad_file 0 (lit< tt) g.1).0 in (
        record {
          key_long = eqb-true (length key) 32 (not-false (eqb (length key) 32) a.0);
          stay_long = eqb-true (length stay) 12 (not-false (eqb (length stay) 12) b.0);
          text_fits = ltb-false most_page_text (length t) c.0;
          day_fits = ltb-false last_day day g.0;
        },
        record {
          whole = eqb-true (length f % 512) 0 (not-false (eqb (length f % 512) 0) h.0);
          inside = leb-false (length f) (512 * i) h.1;
        },
      )

  accepting : Sealable key stay day t → Place f i → seal_number key stay day t f i ≡ 0
  unfolding seal_number
  accepting s p =
      rw (
        eq-eqb (length key) 32 s.key_long,
        eq-eqb (length stay) 12 s.stay_long,
        le-ltb most_page_text (length t) s.text_fits,
        le-ltb last_day day s.day_fits,
        eq-eqb (length f % 512) 0 p.whole,
        lt-leb (length f) (512 * i) p.inside,
      )

  pub accepts : (seal_number key stay day t f i ≡ 0) ↔ Sealable key stay day t × Place f i
  accepts = (accepted, λ a. accepting a.0 a.1)
