-- The answers of seal, by what it finds: its order is that of a start, then the limits, then both buffers.
use mathlib.Core.Path.{◌≡◌, refl, sym, ap, ◌∙◌}
use mathlib.Core.Bool.{Bool, true, false, not}
use mathlib.Core.List.{List, ◌++◌}
use Prim.Native.Nat.{ℕ, ◌≤◌, ◌<◌}
use lib.Dec.{eqb, ltb}
use lib.ListN.{length, drop}
use Rattle.scope.specs.Refusals.{refuse, granted}
use Rattle.start.specs.Start.{start_number}
use Rattle.page.specs.Page.{cipher_of}
use Rattle.page.specs.Calls.{over_limit, seal_number, seal_out}
use Rattle.bytes_c.specs.Order.{next}
use Rattle.bytes_c.proofs.Answering.{short, fits}
use Rattle.tulvekas.specs.Pages.{seal_answer}
use Rattle.tulvekas.proofs.Answering.{granted_again, below_refuses, below_accepts, nothing_later}

in_turn : (a b : Bool) (later : ℕ) → refuse a 1 (refuse b 2 later) ≡ next (refuse a 1 (refuse b 2 0)) later
in_turn true b later = refl
in_turn false true later = refl
in_turn false false later = refl

four : (b : Bool) → 4 ≡ next (refuse b 4 0) 4
four true = refl
four false = refl

module _ (key iv d t : List ℕ) where
  -- what comes behind the lengths of key and IV
  abbrev rest : (out : List ℕ) → ℕ
  rest out = refuse (over_limit d t) 3 (refuse (ltb (length out) (length t)) 4 0)

  seal_first : (out : List ℕ) → next (start_number key iv) (rest out) ≡ seal_number key iv d t out
  unfolding seal_number start_number
  seal_first out = sym (in_turn (not (eqb (length key) 32)) (not (eqb (length iv) 16)) (rest out))

  -- with no room for the tag
  module _ {n : ℕ} (e : n ≡ start_number key iv) where
    pub tag_refused : ¬ (n ≡ 0) → (out : List ℕ) → n ≡ next (seal_number key iv d t out) 4
    tag_refused h out =
        below_refuses n 4 h
        ∙ ap (λ (m : ℕ). next m 4) (below_refuses n (rest out) h ∙ ap (λ (m : ℕ). next m (rest out)) e ∙ seal_first out)

    module _ (z : n ≡ 0) where
      rest_is : (out : List ℕ) → next (rest out) 4 ≡ next (seal_number key iv d t out) 4
      rest_is out = ap (λ (m : ℕ). next m 4) (below_accepts (start_number key iv) (rest out) (sym z ∙ e) ∙ seal_first out)

      pub tag_over : over_limit d t ≡ true → (out : List ℕ) → 3 ≡ next (seal_number key iv d t out) 4
      tag_over h out = let k : 3 ≡ next (rest out) 4 = rw h in k ∙ rest_is out

      pub tag_short : over_limit d t ≡ false → (out : List ℕ) → 4 ≡ next (seal_number key iv d t out) 4
      tag_short h out = let k : 4 ≡ next (rest out) 4 = rw h (four (ltb (length out) (length t))) in k ∙ rest_is out

  module _ (out tag : List ℕ) where
    pub seal_no_room : length tag < 16 → next (seal_number key iv d t out) 4 ≡ seal_answer key iv d t out tag
    unfolding seal_answer
    seal_no_room h = ap (next (seal_number key iv d t out)) (short 16 tag 0 h)

    module _ (h : 16 ≤ length tag) where
      pub seal_room : seal_number key iv d t out ≡ seal_answer key iv d t out tag
      unfolding seal_answer
      seal_room = nothing_later (seal_number key iv d t out) ∙ ap (next (seal_number key iv d t out)) (fits 16 tag 0 h)

      pub seal_left : seal_out key iv d t out ≡ granted (seal_answer key iv d t out tag) (seal_out key iv d t out) out
      unfolding seal_out
      seal_left =
          granted_again (seal_number key iv d t out) (cipher_of key iv t ++ drop (length t) out) out
          ∙ ap (λ (n : ℕ). granted n (seal_out key iv d t out) out) seal_room
