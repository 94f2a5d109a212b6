-- The numbers of seal and open by what they find, and what a refused one leaves. Either order begins with that of a start.
use mathlib.Core.Path.{◌≡◌, refl, sym, ap, ◌∙◌}
use mathlib.Core.Bool.{Bool, true, false, not}
use mathlib.Core.List.{List}
use Prim.Native.Nat.{ℕ, ◌≤◌, ◌<◌}
use native.Mathlib.Omega.{arith}
use borrow.Author.Tests.{eq-eqb, ne_eqb, lt-ltb, le-ltb, eqb-true, ltb-false}
use lib.Dec.{eqb, ltb}
use lib.ListN.{length}
use Rattle.std.specs.Prelude.{Result, Err}
use Rattle.scope.specs.Limits.{most_data, most_text}
use Rattle.scope.specs.Refusals.{refuse}
use Rattle.scope.specs.declared.Refusal.{Refusal}
use Rattle.scope.specs.Machine.{refusal_number, answer_number}
use Rattle.scope.proofs.Refused.{refused}
use Rattle.words.specs.Bytes.{same}
use Rattle.words.proofs.Tests.{neither}
use Rattle.start.specs.Start.{start_number}
use Rattle.page.specs.Page.{tag_for}
use Rattle.page.specs.Calls.{over_limit, seal_number, seal_out, seal_tag, open_number, open_out}
use Rattle.page.specs.Inner.{before_tag}
use Rattle.page.specs.Machine.{tag_of}

-- ---- the limits

pub over_data : (d t : List ℕ) → most_data < length d → over_limit d t ≡ true
over_data d t h = rw (lt-ltb most_data (length d) h)

pub by_text : (d t : List ℕ) → length d ≤ most_data → ltb most_text (length t) ≡ over_limit d t
by_text d t h = rw (le-ltb most_data (length d) h)

pub within : (d t : List ℕ) → over_limit d t ≡ false → (length d ≤ most_data) × (length t ≤ most_text)
within d t e =
    let n = neither (ltb most_data (length d)) (ltb most_text (length t)) e in
    (ltb-false most_data (length d) n.0, ltb-false most_text (length t) n.1)

-- ---- the lengths of key and IV

start_first : (a b : Bool) (later : ℕ) {n : ℕ} → n ≡ refuse (not a) 1 (refuse (not b) 2 0) → ¬ (n ≡ 0) → n ≡ refuse (not a) 1 (refuse (not b) 2 later)
start_first true true later e h = absurd (h e)
start_first true false later e h = e
start_first false b later e h = e

-- ---- seal

module _ (key iv d t out : List ℕ) where
  pub seal_start : {n : ℕ} → n ≡ start_number key iv → ¬ (n ≡ 0) → n ≡ seal_number key iv d t out
  unfolding start_number seal_number
  seal_start e h = start_first (eqb (length key) 32) (eqb (length iv) 16) _ e h

  module _ (k : length key ≡ 32) (v : length iv ≡ 16) where
    pub seal_over : over_limit d t ≡ true → 3 ≡ seal_number key iv d t out
    unfolding seal_number
    seal_over h = rw (eq-eqb (length key) 32 k, eq-eqb (length iv) 16 v, h)

    pub seal_short : over_limit d t ≡ false → length out < length t → 4 ≡ seal_number key iv d t out
    unfolding seal_number
    seal_short h r = rw (eq-eqb (length key) 32 k, eq-eqb (length iv) 16 v, h, lt-ltb (length out) (length t) r)

  -- what a refused one gives and leaves
  pub seal_refused : (r : Result (List ℕ) Refusal) (e : Refusal) → r ≡ Err e → refusal_number e ≡ seal_number key iv d t out
      → (answer_number r ≡ seal_number key iv d t out) × ((tag_of r ≡ seal_tag key iv d t out) × (out ≡ seal_out key iv d t out))
  unfolding seal_tag seal_out
  seal_refused r e q h =
      let no = ne_eqb (seal_number key iv d t out) 0 (λ z. refused e (h ∙ z)) in (rw q h, (rw (q, no), rw no))

-- ---- open

-- the lengths in order: nothing is refused before the tag is compared
pub record InOrder (key iv d c tag out : List ℕ) : Type 0 where
  pub key_long : length key ≡ 32
  pub iv_long : length iv ≡ 16
  pub tag_long : length tag ≡ 16
  pub not_over : over_limit d c ≡ false
  pub room : length c ≤ length out

abbrev chain : (a b t o r : Bool) → ℕ → ℕ
chain a b t o r later = refuse (not a) 1 (refuse (not b) 2 (refuse (not t) 10 (refuse o 3 (refuse r 4 later))))

first : (a b t o r : Bool) (later : ℕ) {n : ℕ} → n ≡ chain a b t o r 0 → ¬ (n ≡ 0) → n ≡ chain a b t o r later
first false b t o r later e h = e
first true false t o r later e h = e
first true true false o r later e h = e
first true true true true r later e h = e
first true true true false true later e h = e
first true true true false false later e h = absurd (h e)

none : (a b t o r : Bool) → chain a b t o r 0 ≡ 0 → (a ≡ true) × ((b ≡ true) × ((t ≡ true) × ((o ≡ false) × (r ≡ false))))
none false b t o r e = absurd (omega arith)
none true false t o r e = absurd (omega arith)
none true true false o r e = absurd (omega arith)
none true true true true r e = absurd (omega arith)
none true true true false true e = absurd (omega arith)
none true true true false false e = (refl, (refl, (refl, (refl, refl))))

module _ (key iv d c tag out : List ℕ) where
  pub before_start : {n : ℕ} → n ≡ start_number key iv → ¬ (n ≡ 0) → n ≡ before_tag key iv d c tag out 0
  unfolding start_number
  before_start e h = start_first (eqb (length key) 32) (eqb (length iv) 16) _ e h

  module _ (k : length key ≡ 32) (v : length iv ≡ 16) where
    pub before_cut : ¬ (length tag ≡ 16) → 10 ≡ before_tag key iv d c tag out 0
    before_cut h = rw (eq-eqb (length key) 32 k, eq-eqb (length iv) 16 v, ne_eqb (length tag) 16 h)

    module _ (g : length tag ≡ 16) where
      pub before_over : over_limit d c ≡ true → 3 ≡ before_tag key iv d c tag out 0
      before_over h = rw (eq-eqb (length key) 32 k, eq-eqb (length iv) 16 v, eq-eqb (length tag) 16 g, h)

      pub before_short : over_limit d c ≡ false → length out < length c → 4 ≡ before_tag key iv d c tag out 0
      before_short f r = rw (eq-eqb (length key) 32 k, eq-eqb (length iv) 16 v, eq-eqb (length tag) 16 g, f, lt-ltb (length out) (length c) r)

  -- whatever comes later
  pub before_none : (later : ℕ) → InOrder key iv d c tag out → later ≡ before_tag key iv d c tag out later
  before_none later i =
      rw (
        eq-eqb (length key) 32 i.key_long,
        eq-eqb (length iv) 16 i.iv_long,
        eq-eqb (length tag) 16 i.tag_long,
        i.not_over,
        le-ltb (length out) (length c) i.room,
      )

  pub in_order : before_tag key iv d c tag out 0 ≡ 0 → InOrder key iv d c tag out
  in_order e =
      let n = none (eqb (length key) 32) (eqb (length iv) 16) (eqb (length tag) 16) (over_limit d c) (ltb (length out) (length c)) e in
      record {
        key_long = eqb-true (length key) 32 n.0;
        iv_long = eqb-true (length iv) 16 n.1.0;
        tag_long = eqb-true (length tag) 16 n.1.1.0;
        not_over = n.1.1.1.0;
        room = ltb-false (length out) (length c) n.1.1.1.1;
      }

  -- what a refused one leaves
  pub open_leaves : (e : Refusal) → refusal_number e ≡ open_number key iv d c tag out → out ≡ open_out key iv d c tag out
  unfolding open_out
  open_leaves e h = rw (ne_eqb (open_number key iv d c tag out) 0 (λ z. refused e (h ∙ z)))

  pub open_before : {n : ℕ} → n ≡ before_tag key iv d c tag out 0 → ¬ (n ≡ 0) → n ≡ open_number key iv d c tag out
  unfolding open_number
  open_before e h =
      first (eqb (length key) 32) (eqb (length iv) 16) (eqb (length tag) 16) (over_limit d c) (ltb (length out) (length c)) _ e h

  pub open_broken : InOrder key iv d c tag out → same tag (tag_for key iv d c) ≡ false → 5 ≡ open_number key iv d c tag out
  unfolding open_number
  open_broken i e = sym (ap (λ (b : Bool). refuse (not b) 5 0) e) ∙ before_none (refuse (not (same tag (tag_for key iv d c))) 5 0) i
