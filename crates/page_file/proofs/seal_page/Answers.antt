-- `page_file::seal_page` meets its contract: header, ciphertext and tag are written one behind the other, and nothing else is.
use mathlib.Core.Path.{◌≡◌, refl, sym, ap, ◌∙◌}
use mathlib.Core.List.{List, ◌++◌}
use Prim.Native.Nat.{ℕ}
use native.Mathlib.Omega.{arith}
use borrow.Author.Rules.{rules}
use lib.ListN.{length, take, drop}
use lib.Seq.{sets, take_all, length-take-le}
use Rattle.scope.proofs.Refused.{is_accepted}
use Rattle.page.specs.Machine.{tag_of}
use Rattle.page_file.proofs.Placing.{page_allowed, page_written}
use Rattle.page_file.proofs.seal_page.Goals as goal
use Rattle.page_file.proofs.seal_page.Goals.{After-header-head, After-unwrap-tag}

head_long : (c : After-header-head) → length c.header-head.result ≡ 22
head_long c = search rules

tag_long : (c : After-unwrap-tag) → length c.unwrap-tag.result ≡ 16
tag_long c = search rules

front : (l : List ℕ) → length l ≡ 22 → 16 ≡ length (take 16 l)
front l e = sym (length-take-le 16 l (omega arith))

front_written : (head out : List ℕ) {w : List ℕ} → length head ≡ 22 → w ≡ take 22 head ++ drop 22 out → w ≡ head ++ drop 22 out
front_written head out l e = e ∙ ap (λ (h : List ℕ). h ++ drop 22 out) (take_all 22 head (omega arith))

pub returns : goal.returns
returns c =
    let a = c.args in
    let key = a.key.now in
    let stay = a.stay.now in
    let t = a.text.now in
    let out = a.out.now in
    let head = c.header-head.result in
    page_written key stay a.n a.day t out _ _ _ _ c.unwrap-tag.result head c.padded-whole.result c.requires.0 c.requires.1 c.requires.2 c.requires.3
    (tag_long (goal.at.returns c).After-unwrap-tag)
    c.header-head.ensures
    c.padded-whole.ensures
    (front_written head out (head_long (goal.at.returns c).After-header-head) c.copy.ensures)
    c.seal.ensures.out
    (ap tag_of (sym c.unwrap-tag.ensures) ∙ c.seal.ensures.tag)
    refl
    (c.store.ensures ∙ ap (sets _ 496) (c.load.ensures ∙ take_all 16 c.unwrap-tag.result (omega (arith, tag_long (goal.at.returns c).After-unwrap-tag))))

pub slice_bounds-seal-end : goal.slice_bounds-seal-end
slice_bounds-seal-end c = front c.header-head.result (head_long (goal.at.slice_bounds-seal-end c).After-header-head)

pub unwrap-tag-requires : goal.unwrap-tag-requires
unwrap-tag-requires c =
    let a = c.args in
    let long = head_long (goal.at.unwrap-tag-requires c).After-header-head in
    is_accepted c.seal.result
    (c.seal.ensures.answer
    ∙ page_allowed a.key.now a.text.now a.out.now _ c.header-head.result c.padded-whole.result c.requires.0 c.requires.2 c.requires.3 long
    c.padded-whole.ensures (front_written c.header-head.result a.out.now long c.copy.ensures))

pub load-requires : goal.load-requires
load-requires c = omega (arith, tag_long (goal.at.load-requires c).After-unwrap-tag)
