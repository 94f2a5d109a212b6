-- `page_file::look` meets its contract, whether the page is of the stay or not.
use Rattle.std.proofs.Common.{◌≡◌, ℕ, ◌&&◌, eqb, Some, refl, sym, ap, ◌∙◌}
use Rattle.std.specs.Option.{unwrap_or}
use Rattle.words.specs.Bytes.{same, part}
use Rattle.page_file.specs.Layout.{stay_of, page_number, departure, text_length}
use Rattle.page_file.proofs.Surveying.{ranged_as, passed, added}
use Rattle.page_file.proofs.look.Goals as goal
use Rattle.page_file.proofs.look.Goals.{After-same}

stay_is : (c : After-same) → same (stay_of c.args.page.now) c.args.stay.now ≡ c.same.result
stay_is c =
    let stay = c.args.stay.now in sym (c.same.ensures ∙ ap (λ (k : ℕ). same (part 0 k c.args.page.now) stay) c.requires.1)

pub returns-then-same : goal.returns-then-same
unfolding page_number departure text_length
returns-then-same c bs e k =
    let a = c.args in
    let r = c.counted.ensures in
    added a.stay.now a.n bs a.s c.counted.result a.page.now k a.i e (stay_is (goal.at.returns-then-same c).After-same ∙ c.if-same.true)
    (r.0 ∙ ranged_as a.s.ranged c.get-len.result c.get-day.result a.page.now c.get-len.ensures.0 c.get-day.ensures.0)
    (r.1 ∙ ap (λ (j : ℕ). a.s.running && eqb j a.s.count) c.get-number.ensures.0)
    (r.2 ∙ ap (λ (j : ℕ). a.s.dated && eqb j (unwrap_or a.s.day j)) c.get-day.ensures.0)
    r.3
    (r.4 ∙ ap (λ (j : ℕ). Some (unwrap_or a.s.day j)) c.get-day.ensures.0)
    r.5

pub returns : goal.returns
unfolding departure text_length
returns c bs e k =
    let a = c.args in
    passed a.stay.now a.n bs a.s _ a.page.now k (stay_is (goal.at.returns c).After-same ∙ c.if-same.false)
    (ranged_as a.s.ranged c.get-len.result c.get-day.result a.page.now c.get-len.ensures.0 c.get-day.ensures.0) refl refl refl refl refl
