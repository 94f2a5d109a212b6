-- What a seal answers is the program's answer, whatever output it is lent, as long as the text fits.
use mathlib.Core.Path.{◌≡◌, sym, ap, ◌∙◌}
use mathlib.Core.Bool.{true}
use mathlib.Core.List.{List}
use Prim.Native.Nat.{ℕ, ◌≤◌}
use native.Mathlib.Omega.{arith}
use borrow.Author.Tests.{eq-eqb, ne_eqb, le-ltb}
use lib.Dec.{eqb}
use lib.ListN.{length, take, drop}
use lib.Seq.{take_at}
use Rattle.page.specs.Page.{cipher_of, page_tag}
use Rattle.page.proofs.Ciphertext.{cipher_length}
use Rattle.page.specs.Calls.{seal_number, seal_out, seal_tag}
use Rattle.command.specs.Output.{Answer.sealed, Answer.refused, answer_for}

module _ (k v d t o : List ℕ) (h : length t ≤ length o) where
  number_is : seal_number k v d t t ≡ seal_number k v d t o
  unfolding seal_number
  number_is = rw (le-ltb (length o) (length t) h, le-ltb (length t) (length t) (omega arith))

  pub refused_is : (n : ℕ) → n ≡ seal_number k v d t o → ¬ (n ≡ 0) → refused n ≡ answer_for k v d t
  unfolding answer_for
  refused_is n e z = rw (number_is, ← e, ne_eqb n 0 z)

  pub sealed_is : (m : ℕ) (tag out : List ℕ) → 0 ≡ seal_number k v d t o → tag ≡ seal_tag k v d t o → out ≡ seal_out k v d t o → m ≡ length t → sealed (take m out) tag ≡ answer_for k v d t
  unfolding answer_for seal_tag seal_out
  sealed_is m tag out e p q l =
      let b : eqb (seal_number k v d t o) 0 ≡ true = eq-eqb (seal_number k v d t o) 0 (sym e) in
      rw (p, q, number_is, b)
      (ap (λ (c : List ℕ). sealed c (page_tag k v d t)) (take_at (cipher_of k v t) (drop (length t) o) m (cipher_length k v t ∙ sym l)))

pub same_answer : (k v d t k' v' d' t' : List ℕ) → k ≡ k' → v ≡ v' → d ≡ d' → t ≡ t' → answer_for k v d t ≡ answer_for k' v' d' t'
same_answer k v d t k' v' d' t' ek ev ed et = cc
