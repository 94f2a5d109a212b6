-- What is said of a list of pages is said of its parts.
use Rattle.std.proofs.Common.{◌≡◌, ℕ, zero, suc, ◌+◌, ◌-◌, ◌*◌, ◌<◌, Bool, true, false, not, ◌&&◌, eqb, ltb, List, [], ◌∷◌, ◌++◌, length, get_or, take, drop, refl, sym, ap, ◌∙◌, add-zero, arith, eq-eqb, ne_eqb, eqb-true}
use mathlib.Core.Bool.{and_assoc, and-false}
use borrow.Author.Tests.{eqb-false, lt-ltb, le-ltb, not-true}
use lib.Dec.{leb-suc-suc}
use Rattle.scope.specs.Refusals.{pick}
use Rattle.words.specs.Bytes.{same, part}
use Rattle.words.proofs.Tests.{and_left, and_right}
use Rattle.fields.specs.Fields.{every}
use Rattle.fields.proofs.Every.{every_append}
use Rattle.page_file.specs.Layout.{stay_of, page_number, departure}
use Rattle.page_file.specs.File.{of_stay, lacks, running, all_on, one_day, stay_in_order, named}

-- the page that is lent from its place on
pub lent_part : (f : List ℕ) (i : ℕ) → take (512 * i + 512 - 512 * i) (drop (512 * i) f) ≡ part (512 * i) 512 f
lent_part f i = ap (λ (k : ℕ). take k (drop (512 * i) f)) (let e : 512 * i + 512 - 512 * i ≡ 512 = omega arith in e)

-- ---- pages behind pages

pub pick_append : (c : Bool) (b : List ℕ) (us vs : List (List ℕ)) → pick c (b ∷ (us ++ vs)) (us ++ vs) ≡ pick c (b ∷ us) us ++ vs
pick_append true b us vs = refl
pick_append false b us vs = refl

pub of_stay_append : (s : List ℕ) (us vs : List (List ℕ)) → of_stay s (us ++ vs) ≡ of_stay s us ++ of_stay s vs
unfolding of_stay
of_stay_append s [] vs = refl
of_stay_append s (b ∷ us) vs =
    ap (λ (l : List (List ℕ)). pick (same (stay_of b) s) (b ∷ l) l) (of_stay_append s us vs)
    ∙ pick_append (same (stay_of b) s) b (of_stay s us) (of_stay s vs)

pub all_on_append : (day : ℕ) (us vs : List (List ℕ)) → all_on day (us ++ vs) ≡ (all_on day us && all_on day vs)
unfolding all_on
all_on_append day us vs = every_append (λ (b : List ℕ). eqb (departure b) day) us vs

pub running_append : (k : ℕ) (us vs : List (List ℕ)) → running k (us ++ vs) ≡ (running k us && running (k + length us) vs)
unfolding running
running_append k [] vs = ap (λ (n : ℕ). running n vs) (sym (add-zero k))
running_append k (b ∷ us) vs =
    let e : k + 1 + length us ≡ k + suc (length us) = omega arith in
    ap (λ (c : Bool). eqb (page_number b) k && c) (running_append (k + 1) us vs ∙ ap (λ (n : ℕ). running (k + 1) us && running n vs) e)
    ∙ sym (and_assoc (eqb (page_number b) k) (running (k + 1) us) (running (k + suc (length us)) vs))

-- one day is the day of any of them
pub one_day_at : (us : List (List ℕ)) (b : List ℕ) (vs : List (List ℕ)) → one_day (us ++ b ∷ vs) ≡ (all_on (departure b) us && all_on (departure b) vs)
unfolding one_day all_on every
one_day_at [] b vs = refl
one_day_at (u ∷ us) b vs = all_on_append (departure u) us (b ∷ vs) ∙ go (eqb (departure u) (departure b)) refl
  where
    go : (c : Bool) → eqb (departure u) (departure b) ≡ c
        → (all_on (departure u) us && all_on (departure u) (b ∷ vs)) ≡ (all_on (departure b) (u ∷ us) && all_on (departure b) vs)
    go true e =
        let d = eqb-true (departure u) (departure b) e in
        rw (e, d, eq-eqb (departure b) (departure b) refl) (ap (λ (n : ℕ). all_on (departure b) us && all_on n vs) d)
    go false e =
        let d = ne_eqb (departure b) (departure u) (λ h. eqb-false (departure u) (departure b) e (sym h)) in
        rw (e, d) (and-false (all_on (departure u) us))

-- ---- pages that run on from k: page k + j is the one at place j

run_first : (k : ℕ) (b : List ℕ) (bs : List (List ℕ)) → running k (b ∷ bs) ≡ true → page_number b ≡ k
unfolding running
run_first k b bs e = eqb-true (page_number b) k (and_left (eqb (page_number b) k) (running (k + 1) bs) e)

run_rest : (k : ℕ) (b : List ℕ) (bs : List (List ℕ)) → running k (b ∷ bs) ≡ true → running (k + 1) bs ≡ true
unfolding running
run_rest k b bs e = and_right (eqb (page_number b) k) (running (k + 1) bs) e

lacks_from : (k j : ℕ) (bs : List (List ℕ)) → running k bs ≡ true → lacks (k + j) bs ≡ not (ltb j (length bs))
unfolding lacks every
lacks_from k j [] e = rw (le-ltb j 0 (omega arith))
lacks_from k zero (b ∷ bs) e = rw (eq-eqb (page_number b) (k + 0) (run_first k b bs e ∙ sym (add-zero k)), lt-ltb 0 (suc (length bs)) (omega arith))
lacks_from k (suc j) (b ∷ bs) e =
    let p = run_first k b bs e in
    let q : k + suc j ≡ k + 1 + j = omega arith in
    rw (ne_eqb (page_number b) (k + suc j) (λ h. omega arith))
    (ap (λ (n : ℕ). lacks n bs) q ∙ lacks_from (k + 1) j bs (run_rest k b bs e) ∙ ap not (sym (leb-suc-suc (suc j) (length bs))))

named_from : (k j : ℕ) (bs : List (List ℕ)) → running k bs ≡ true → j < length bs → named (k + j) bs ≡ get_or bs j []
unfolding named
named_from k j [] e h = absurd (omega arith)
named_from k zero (b ∷ bs) e h = rw (eq-eqb (page_number b) (k + 0) (run_first k b bs e ∙ sym (add-zero k)))
named_from k (suc j) (b ∷ bs) e h =
    let p = run_first k b bs e in
    let q : k + suc j ≡ k + 1 + j = omega arith in
    rw (ne_eqb (page_number b) (k + suc j) (λ h. omega arith))
    (ap (λ (n : ℕ). named n bs) q ∙ named_from (k + 1) j bs (run_rest k b bs e) (omega arith))

-- of a stay whose pages run 0, 1, 2
pub lacks_running : (n : ℕ) (bs : List (List ℕ)) → running 0 bs ≡ true → lacks n bs ≡ not (ltb n (length bs))
lacks_running n bs e = ap (λ (m : ℕ). lacks m bs) (let q : n ≡ 0 + n = omega arith in q) ∙ lacks_from 0 n bs e

pub named_running : (n : ℕ) (bs : List (List ℕ)) → running 0 bs ≡ true → n < length bs → named n bs ≡ get_or bs n []
named_running n bs e h = ap (λ (m : ℕ). named m bs) (let q : n ≡ 0 + n = omega arith in q) ∙ named_from 0 n bs e h

-- ---- a stay that is not refused

pub in_order_holds : (n : ℕ) (bs : List (List ℕ)) → stay_in_order n bs ≡ true → (lacks n bs ≡ false) × (running 0 bs ≡ true) × (one_day bs ≡ true)
unfolding stay_in_order
in_order_holds n bs e =
    let a = and_left (not (lacks n bs) && running 0 bs) (one_day bs) e in (
      not-true (lacks n bs) (and_left (not (lacks n bs)) (running 0 bs) a),
      and_right (not (lacks n bs)) (running 0 bs) a,
      and_right (not (lacks n bs) && running 0 bs) (one_day bs) e,
    )
