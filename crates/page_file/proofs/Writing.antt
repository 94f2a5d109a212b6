-- What an open answers and writes, from what it found.
use Rattle.std.proofs.Common.{◌≡◌, ℕ, ◌≤◌, not, List, ◌++◌, length, take, drop, sym, ap, ap₂, ◌∙◌, arith, eqb, ltb, ne_eqb, lit<}
use borrow.Author.Tests.{ltb-false}
use Rattle.scope.specs.declared.Refusal.{Refusal}
use Rattle.scope.specs.Machine.{refusal_number}
use Rattle.scope.proofs.Refused as Scope
use Rattle.scope.proofs.Refusing.{refuse_none}
use Rattle.page_file.specs.Layout.{text_length}
use Rattle.page_file.specs.File.{pages, in_order, of_stay, stay_in_order}
use Rattle.page_file.specs.Calls.{page_open_number, page_of, open_number, open_text, open_out, open_answer, Opened.written, Opened.refused}
use Rattle.page_file.specs.Inner.{Holds}
use Rattle.page_file.specs.declared.Content.{Content}

module _ (key stay : List ℕ) (n : ℕ) (f out : List ℕ) where
  pub opened_none : (e : Refusal) → refusal_number e ≡ open_number key stay n f (length out)
      → (refused (refusal_number e) ≡ open_answer key stay n f (length out)) × (out ≡ open_out key stay n f out)
  unfolding open_answer open_out
  opened_none e g =
      let no = ne_eqb (open_number key stay n f (length out)) 0 (λ z. Scope.refused e (g ∙ z)) in
      (ap refused g ∙ rw no, rw no)

  module _ (z : 0 ≡ open_number key stay n f (length out)) (c : Content) (g : Holds key (page_of stay n f) c) where
    pub room_for : c.length ≤ length out
    unfolding open_number page_open_number
    room_for =
        let a = refuse_none (not (eqb (length key) 32)) 1 _ (lit< tt) (sym z) in
        let b = refuse_none (not (eqb (length stay) 12)) 2 _ (lit< tt) a.1 in
        let d = refuse_none (not (in_order f)) 13 _ (lit< tt) b.1 in
        let e = refuse_none (not (stay_in_order n (of_stay stay (pages f)))) 14 _ (lit< tt) d.1 in
        let h = refuse_none (ltb (length out) (text_length (page_of stay n f))) 4 _ (lit< tt) e.1 in
        omega (arith, g.long, ltb-false (length out) (text_length (page_of stay n f)) h.0)

    pub opened_text : {w : List ℕ} → w ≡ take c.length c.text ++ drop c.length out
        → (written c.length ≡ open_answer key stay n f (length out)) × (w ≡ open_out key stay n f out)
    unfolding open_answer open_out open_text
    opened_text e =
        (ap written g.long ∙ rw (sym z), e ∙ ap₂ (λ (k : ℕ) (t : List ℕ). take k t ++ drop k out) g.long g.found ∙ rw (sym z))
