-- Open from a page file through C is that open below, with its answer told by a number and a length: a refusal below comes before that of the length's
-- buffer, which has room.
use mathlib.Core.Path.{◌≡◌, refl, sym, ap, subst, ◌∙◌}
use mathlib.Core.List.{List, ◌++◌}
use Prim.Native.Nat.{ℕ, zero, suc, ◌≤◌}
use borrow.Author.Tests.{ne_eqb}
use lib.ListN.{length, drop}
use Rattle.scope.specs.Refusals.{granted}
use Rattle.words.specs.Bytes.{little}
use Rattle.page_file.specs.Layout.{text_length}
use Rattle.page_file.specs.Calls.{page_of, open_number, open_text, open_out, open_answer, Opened.written, Opened.refused}
use Rattle.bytes_c.specs.Order.{next, room}
use Rattle.bytes_c.proofs.Answering.{never, fits}
use Rattle.tulvekas.specs.Files.{file_open_answer, file_open_writes, file_open_length}
use Rattle.tulvekas.proofs.Answering.{nothing_later, granted_again}
use Rattle.claims_c.specs.ThroughC.{ToldOpened}

told_opened : (m k : ℕ) (len : List ℕ) → ToldOpened (granted m (written k) (refused m)) len m (granted m (little 8 k ++ drop 8 len) len)
told_opened zero k len = (refl, refl)
told_opened (suc m) k len = let no = ne_eqb (suc m) 0 (never m) in rw no (refl, refl)

pub opens_file : (key stay : List ℕ) (n : ℕ) (file out len : List ℕ) → 8 ≤ length len
    → ToldOpened (open_answer key stay n file (length out)) len (file_open_answer key stay n file out len) (file_open_length key stay n file out len)
    × (file_open_writes key stay n file out len ≡ open_out key stay n file out)
unfolding file_open_answer open_answer open_out
opens_file key stay n file out len room-8 =
    let m : ℕ = open_number key stay n file (length out) in
    let k : ℕ = text_length (page_of stay n file) in
    let e : next m (room 8 len 0) ≡ m = ap (next m) (sym (fits 8 len 0 room-8)) ∙ sym (nothing_later m) in
    let o : List ℕ = open_text key stay n file ++ drop k out in (
      subst (λ (i : ℕ). ToldOpened (granted m (written k) (refused m)) len i (granted i (little 8 k ++ drop 8 len) len)) (sym e) (told_opened m k len),
      ap (λ (i : ℕ). granted i (granted m o out) out) e ∙ sym (granted_again m o out),
    )
