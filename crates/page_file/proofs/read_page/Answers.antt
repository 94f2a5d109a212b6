-- `page_file::read_page` meets its contract: by the room, by the answer of the whole page's open, and by the padding of what that wrote.
use Rattle.std.proofs.Common.{◌≡◌, ℕ, ◌≤◌, ◌<◌, refl, sym, subst, ◌∙◌, arith, rules}
use Rattle.std.proofs.lemmas.Result.{err_from_is_err_and}
use Rattle.scope.proofs.Refused.{refused}
use Rattle.page_file.specs.Layout.{text_length}
use Rattle.page_file.proofs.Reading.{no_room, bad_tag_found, content_read, bad_padding, page_opened}
use Rattle.page_file.proofs.read_page.Goals as goal
use Rattle.page_file.proofs.read_page.Goals.{After-get-n, Else-room-n}

-- the stored length
length_is : (c : After-get-n) → c.get-n.result ≡ text_length c.args.page.now
unfolding text_length
length_is c = c.get-n.ensures.0

short_enough : (c : After-get-n) → c.get-n.result ≤ 474
short_enough c = omega (arith, length_is c, c.requires.2)

pub returns-then-room-n : goal.returns-then-room-n
returns-then-room-n c =
    no_room c.args.key.now c.args.page.now c.args.room c.requires.0 c.requires.1
    (subst (λ (m : ℕ). c.args.room < m) (length_is (goal.at.returns-then-room-n c).After-get-n) c.if-room-n.true)

pub returns-in_err-open : goal.returns-in_err-open
returns-in_err-open c =
    let p = err_from_is_err_and c.from_residual.result c.from_residual.ensures.1 in
    let long = length_is (goal.at.returns-in_err-open c).After-get-n in
    rw (p.1, p.2)
    (bad_tag_found c.args.key.now c.args.page.now c.args.room c.requires.0 c.requires.1 (omega arith) c.in_err-open.ensures.answer (refused _))

pub returns-then-not-all_zero : goal.returns-then-not-all_zero
returns-then-not-all_zero c =
    let key = c.args.key.now in
    let b = c.args.page.now in
    let long = length_is (goal.at.returns-then-not-all_zero c).After-get-n in
    let room : text_length b ≤ c.args.room = omega arith in
    bad_padding key b c.args.room c.requires.0 c.requires.1 room c.in_ok-open.ensures.answer refl
    (content_read key b c.args.room c.requires.0 c.requires.1 room c.in_ok-open.ensures.answer refl c.in_ok-open.ensures.out)
    long c.requires.2 (sym c.all_zero.ensures ∙ c.if-not-all_zero.true)

pub returns : goal.returns
returns c =
    let key = c.args.key.now in
    let b = c.args.page.now in
    let long = length_is (goal.at.returns c).After-get-n in
    let room : text_length b ≤ c.args.room = omega arith in
    let text = content_read key b c.args.room c.requires.0 c.requires.1 room c.in_ok-open.ensures.answer refl c.in_ok-open.ensures.out in (
      page_opened key b c.args.room c.requires.0 c.requires.1 room c.in_ok-open.ensures.answer refl text long c.requires.2
          (sym c.all_zero.ensures ∙ c.if-not-all_zero.false),
      record { long = long; found = text; fits = short_enough (goal.at.returns c).After-get-n },
    )

pub overflow_sub-n : goal.overflow_sub-n
overflow_sub-n c = omega (arith, short_enough (goal.at.overflow_sub-n c).After-get-n)

pub all_zero-requires : goal.all_zero-requires
all_zero-requires c = let h = short_enough (goal.at.all_zero-requires c).After-get-n in search rules
