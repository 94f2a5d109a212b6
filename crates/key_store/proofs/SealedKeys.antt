-- A stay's key sealed and opened by the page's calls: with all lengths in order a seal gives ciphertext and tag, a wrong tag is the only refusal of an open, and
-- a refused open leaves the zeros that it was lent.
use Rattle.std.proofs.Common.{◌≡◌, ℕ, List, [], ◌++◌, length, drop, replicate, Ok, sym, ap, ap₂, ◌∙◌, append-nil, arith, lit≤}
use Rattle.words.specs.Bytes.{part}
use Rattle.words.proofs.Parts.{part_long}
use Rattle.page.specs.Page.{cipher_of}
use Rattle.page.specs.Calls as Page
use Rattle.page.proofs.Answers.{seal_writes, seal_gives, open_by_tag}
use Rattle.key_store.specs.Layout.{block_of, held_block}
use Rattle.key_store.specs.Inner.{open_number, Opens}

pub sealed : (key iv k c tag v t : List ℕ) → length key ≡ 32 → length iv ≡ 16 → length k ≡ 32 → c ≡ Page.seal_out key iv [] k (replicate 32 0)
    → tag ≡ Page.seal_tag key iv [] k (replicate 32 0) → v ≡ iv → t ≡ tag
    → block_of (record { mark = 1; iv = v; sealed = c; tag = t }) ≡ held_block key iv k
unfolding held_block
sealed key iv k c tag v t kl il sl ec et ev ett =
    let w = seal_writes key iv [] kl il (lit≤ tt) k (replicate 32 0) (omega arith) (omega arith) in
    let g = seal_gives key iv [] kl il (lit≤ tt) k (replicate 32 0) (omega arith) (omega arith) in
    let whole = ap (λ (m : ℕ). cipher_of key iv k ++ drop m (replicate 32 0)) sl ∙ append-nil (cipher_of key iv k) in
    ap (λ (l : List ℕ). block_of (record { mark = 1; iv = l; sealed = c; tag = t })) ev
    ∙ ap₂ (λ (l m : List ℕ). block_of (record { mark = 1; iv = iv; sealed = l; tag = m })) (ec ∙ w ∙ whole) (ett ∙ et ∙ g)

module _ (key iv b : List ℕ) (kl : length key ≡ 32) (il : length iv ≡ 16) (bl : length b ≡ 512) where
  cl : length (part 32 32 b) ≡ 32
  cl = part_long b 32 32 (omega arith)

  pub by_tag : Page.open_number key iv [] (part 32 32 b) (part 64 16 b) (replicate 32 0) ≡ open_number key iv b
  by_tag =
      let long = cl in
      open_by_tag key iv [] kl il (lit≤ tt) (part 32 32 b) (part 64 16 b) (replicate 32 0) (part_long b 64 16 (omega arith)) (omega arith)
      (omega arith)

  pub opened : {w : List ℕ} → 0 ≡ Page.open_number key iv [] (part 32 32 b) (part 64 16 b) (replicate 32 0)
      → w ≡ Page.open_out key iv [] (part 32 32 b) (part 64 16 b) (replicate 32 0) → Opens key iv b (Ok w)
  unfolding Page.open_out
  opened z e =
      (z ∙ by_tag, e ∙ rw (sym z) (ap (λ (m : ℕ). cipher_of key iv (part 32 32 b) ++ drop m (replicate 32 0)) cl ∙ append-nil (cipher_of key iv (part 32 32 b))))
