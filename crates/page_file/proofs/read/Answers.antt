-- `page_file::read` meets its contract, by what it finds in the order of its refusals; the page that it reads is the one at the place surveyed.
use Rattle.std.proofs.Common.{◌≡◌, ℕ, ◌*◌, ◌≤◌, List, length, sym, ap, subst, ◌∙◌, rules}
use Rattle.std.proofs.lemmas.Result.{err_from_is_err_and}
use Rattle.scope.specs.Limits.{most_page_text}
use Rattle.scope.specs.declared.Refusal.TheVariants.{BadStay}
use Rattle.words.proofs.Parts.{part_long}
use Rattle.page_file.specs.Layout.{text_length}
use Rattle.page_file.specs.Calls.{page_open_number, page_of}
use Rattle.page_file.specs.Inner.{Finds}
use Rattle.page_file.proofs.Pages.{lent_part}
use Rattle.page_file.proofs.Opening.{no_key, no_stay, not_whole, out_of_range, disordered, no_place, Found, place_found}
use Rattle.page_file.proofs.read.Goals as goal
use Rattle.page_file.proofs.read.Goals.{In_ok-at}

pub returns-then-key-ne32 : goal.returns-then-key-ne32
returns-then-key-ne32 c =
    let a = c.args in no_key a.key.now a.stay.now a.n a.file.now a.room c.if-key-ne32.true

pub returns-then-stay-ne12 : goal.returns-then-stay-ne12
returns-then-stay-ne12 c =
    let a = c.args in no_stay a.key.now a.stay.now a.n a.file.now a.room c.if-key-ne32.false c.if-stay-ne12.true

pub returns-then-file-ne0 : goal.returns-then-file-ne0
returns-then-file-ne0 c =
    let a = c.args in not_whole a.key.now a.stay.now a.n a.file.now a.room c.if-key-ne32.false c.if-stay-ne12.false c.if-file-ne0.true

pub returns-then-not-s : goal.returns-then-not-s
returns-then-not-s c =
    let a = c.args in
    out_of_range a.key.now a.stay.now a.n a.file.now a.room c.if-key-ne32.false c.if-stay-ne12.false c.if-file-ne0.false
    c.survey-s.result c.survey-s.ensures c.if-not-s.true

pub returns-then-not-s-2 : goal.returns-then-not-s-2
returns-then-not-s-2 c =
    let a = c.args in
    disordered a.key.now a.stay.now a.n a.file.now a.room c.if-key-ne32.false c.if-stay-ne12.false c.if-file-ne0.false
    c.survey-s.result c.survey-s.ensures c.if-not-s.false c.if-not-s-2.true

pub returns-in_err-at : goal.returns-in_err-at
returns-in_err-at c =
    let a = c.args in
    let p = err_from_is_err_and c.from_residual.result c.from_residual.ensures.1 in
    let none = c.in_err-at.ensures.ok_part in
    let given = rw none at c.in_err-at.ensures.value in
    let e : c.in_err-at.field-0.0 ≡ BadStay = cc in
    rw (p.1, p.2, e)
    (no_place a.key.now a.stay.now a.n a.file.now a.room c.if-key-ne32.false c.if-stay-ne12.false c.if-file-ne0.false
    c.survey-s.result c.survey-s.ensures c.if-not-s.false none)

-- ---- with the page found

found : (c : In_ok-at) → Found c.args.key.now c.args.stay.now c.args.n c.args.file.now c.args.room c.in_ok-at.field-0
found c =
    let a = c.args in
    place_found a.key.now a.stay.now a.n a.file.now a.room c.if-key-ne32.false c.if-stay-ne12.false c.if-file-ne0.false
    c.survey-s.result c.survey-s.ensures c.if-not-s.false c.if-not-s-2.false c.in_ok-at.field-0 c.in_ok-at.ensures.ok_part

pub read_page-requires : goal.read_page-requires
read_page-requires c =
    let g = found (goal.at.read_page-requires c).In_ok-at in
    let f = c.args.file.now in
    let j = c.in_ok-at.field-0 in (
      c.if-key-ne32.false,
      ap length (lent_part f j) ∙ part_long f (512 * j) 512 g.inside,
      subst (λ (b : List ℕ). text_length b ≤ most_page_text) (sym (lent_part f j)) g.fits,
    )

pub returns : goal.returns
returns c =
    let a = c.args in
    let key = a.key.now in
    let f = a.file.now in
    let g = found (goal.at.returns c).In_ok-at in
    subst (λ (m : ℕ). Finds m key (page_of a.stay.now a.n f) c.read_page.result) g.number
    (subst (λ (b : List ℕ). Finds (page_open_number key b a.room) key b c.read_page.result) (lent_part f c.in_ok-at.field-0 ∙ g.page) c.read_page.ensures)

pub overflow_mul-at : goal.overflow_mul-at
overflow_mul-at c = let h = (found (goal.at.overflow_mul-at c).In_ok-at).inside in search rules

pub overflow_add-at : goal.overflow_add-at
overflow_add-at c = let h = (found (goal.at.overflow_add-at c).In_ok-at).inside in search rules

pub slice_bounds-read_page-end : goal.slice_bounds-read_page-end
slice_bounds-read_page-end c = (found (goal.at.slice_bounds-read_page-end c).In_ok-at).inside
