-- `page_file::seal` meets its contract, by what it finds in the order of its refusals; the place is known to lie inside before it is multiplied.
use native.Mathlib.Omega.{arith}
use Rattle.fields.proofs.Blocks.{lent_back}
use Rattle.page_file.specs.Layout.{sealed_page}
use Rattle.page_file.proofs.Sealing.{no_key, no_stay, long_text, late_day, not_whole, past_end, in_place}
use Rattle.page_file.proofs.seal.Goals as goal

pub returns-then-key-ne32 : goal.returns-then-key-ne32
returns-then-key-ne32 c =
    let a = c.args in
    let p =
    no_key a.key.now a.stay.now a.n a.day a.text.now a.file.now a.place c.if-key-ne32.true in
    record { answer = p.0; file = p.1 }

pub returns-then-stay-ne12 : goal.returns-then-stay-ne12
returns-then-stay-ne12 c =
    let a = c.args in
    let p =
    no_stay a.key.now a.stay.now a.n a.day a.text.now a.file.now a.place c.if-key-ne32.false c.if-stay-ne12.true in
    record { answer = p.0; file = p.1 }

pub returns-then-text-gt-MOST_PAGE_TEXT : goal.returns-then-text-gt-MOST_PAGE_TEXT
returns-then-text-gt-MOST_PAGE_TEXT c =
    let a = c.args in
    let p =
    long_text a.key.now a.stay.now a.n a.day a.text.now a.file.now a.place
    c.if-key-ne32.false c.if-stay-ne12.false c.if-text-gt-MOST_PAGE_TEXT.true in
    record { answer = p.0; file = p.1 }

pub returns-then-day-gt-LAST_DAY : goal.returns-then-day-gt-LAST_DAY
returns-then-day-gt-LAST_DAY c =
    let a = c.args in
    let p =
    late_day a.key.now a.stay.now a.n a.day a.text.now a.file.now a.place
    c.if-key-ne32.false c.if-stay-ne12.false c.if-text-gt-MOST_PAGE_TEXT.false c.if-day-gt-LAST_DAY.true in
    record { answer = p.0; file = p.1 }

pub returns-then-file-ne0 : goal.returns-then-file-ne0
returns-then-file-ne0 c =
    let a = c.args in
    let p =
    not_whole a.key.now a.stay.now a.n a.day a.text.now a.file.now a.place
    c.if-key-ne32.false c.if-stay-ne12.false c.if-text-gt-MOST_PAGE_TEXT.false c.if-day-gt-LAST_DAY.false c.if-file-ne0.true in
    record { answer = p.0; file = p.1 }

pub returns-then-place-file : goal.returns-then-place-file
returns-then-place-file c =
    let a = c.args in
    let p =
    past_end a.key.now a.stay.now a.n a.day a.text.now a.file.now a.place
    c.if-key-ne32.false c.if-stay-ne12.false c.if-text-gt-MOST_PAGE_TEXT.false c.if-day-gt-LAST_DAY.false c.if-file-ne0.false (let h = c.if-place-file.true in omega arith) in
    record { answer = p.0; file = p.1 }

pub returns : goal.returns
returns c =
    let a = c.args in
    let key = a.key.now in
    let stay = a.stay.now in
    let t = a.text.now in
    let f = a.file.now in
    let p =
    in_place key stay a.n a.day t f a.place
    c.if-key-ne32.false
    c.if-stay-ne12.false
    c.if-text-gt-MOST_PAGE_TEXT.false
    c.if-day-gt-LAST_DAY.false
    c.if-file-ne0.false
    c.if-place-file.false
    (lent_back f (sealed_page key stay a.n a.day t) _ a.place (omega arith) c.seal_page.ensures) in
    record { answer = p.0; file = p.1 }
