-- A seal leaves other stays alone: of a stay that neither the page sealed nor the one that stood in its place is of, the file has the same pages in the
-- same order, and whether the file is in order does not change.
use mathlib.Core.Path.{◌≡◌, sym, ◌∙◌}
use mathlib.Core.List.{List}
use Prim.Native.Nat.{ℕ}
use lib.ListN.{length}
use Rattle.page_file.specs.File.{pages, in_order, of_stay}
use Rattle.page_file.specs.Calls.{seal_number, seal_file, page_of, open_number, open_text, open_out, open_answer}
use Rattle.claims_file.specs.Claims.{OthersStay}
use Rattle.claims_file.proofs.Placing.{others_after, order_kept}

-- what opens hangs on the stay's pages and the file's order alone
module _ (s f g : List ℕ) (e : of_stay s (pages g) ≡ of_stay s (pages f)) (o : in_order g ≡ in_order f) (k : List ℕ) (m : ℕ) where
  number_by_stay : (room : ℕ) → open_number k s m g room ≡ open_number k s m f room
  unfolding open_number page_of
  number_by_stay room = rw (e, o)

  answer_by_stay : (room : ℕ) → open_answer k s m g room ≡ open_answer k s m f room
  unfolding open_answer page_of
  answer_by_stay room = rw (number_by_stay room, e)

  out_by_stay : (out : List ℕ) → open_out k s m g out ≡ open_out k s m f out
  unfolding open_out open_text page_of
  out_by_stay out = rw (number_by_stay (length out), e)

pub others_stay : (key stay : List ℕ) (n day : ℕ) (t f : List ℕ) (i : ℕ) → seal_number key stay day t f i ≡ 0 → OthersStay key stay n day t f i
others_stay key stay n day t f i e =
    let kept = order_kept key stay n day t f i e in
    let same-pages = others_after key stay n day t f i e in
    let g : List ℕ = seal_file key stay n day t f i in
    record {
      order = kept;
      answer = λ k s m room o p q. answer_by_stay s f g (same-pages s p q) (kept o ∙ sym o) k m room;
      out = λ k s m out o p q. out_by_stay s f g (same-pages s p q) (kept o ∙ sym o) k m out;
    }
