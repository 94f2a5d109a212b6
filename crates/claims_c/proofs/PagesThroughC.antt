-- Seal through C is seal below, whose refusals come before that of the tag's buffer, which has room. So what it writes is the page that seal below makes, and open,
-- the very call below, refuses that page altered in one block.
use mathlib.Core.Path.{◌≡◌, sym, ap, subst, ◌∙◌}
use mathlib.Core.List.{List, ◌++◌}
use Prim.Native.Nat.{ℕ, ◌≤◌}
use lib.ListN.{length, take, drop}
use lib.Seq.{take_at}
use Rattle.scope.specs.Refusals.{granted}
use Rattle.page.specs.Page.{cipher_of}
use Rattle.page.specs.Calls.{seal_number, seal_out, seal_tag}
use Rattle.claims.specs.Lists.{Bytes}
use Rattle.claims.specs.Claims.{InOrder, OpenRefused, sealed_tag}
use Rattle.claims.proofs.Opening.{seals as seals-below, tag_long}
use Rattle.claims_altered.specs.Claims.{SealedPage, SameLengths, OneBlock, HNotZero}
use Rattle.claims_altered.proofs.Shows.{one_block_shows}
use Rattle.bytes_c.specs.Order.{next, room}
use Rattle.bytes_c.proofs.Answering.{fits}
use Rattle.tulvekas.specs.Pages.{seal_answer, seal_writes, seal_writes_tag}
use Rattle.tulvekas.proofs.Answering.{nothing_later, granted_again}

pub seals : (key iv ad text out tag : List ℕ) → 16 ≤ length tag
    → (seal_answer key iv ad text out tag ≡ seal_number key iv ad text out)
    × (seal_writes key iv ad text out tag ≡ seal_out key iv ad text out)
    × (seal_writes_tag key iv ad text out tag ≡ granted (seal_number key iv ad text out) (seal_tag key iv ad text out ++ drop 16 tag) tag)
unfolding seal_answer seal_out
seals key iv ad text out tag room-16 =
    let n : ℕ = seal_number key iv ad text out in
    let e : next n (room 16 tag 0) ≡ n = ap (next n) (sym (fits 16 tag 0 room-16)) ∙ sym (nothing_later n) in
    let o : List ℕ = cipher_of key iv text ++ drop (length text) out in (
      e,
      ap (λ (i : ℕ). granted i (granted n o out) out) e ∙ sym (granted_again n o out),
      ap (λ (i : ℕ). granted i (seal_tag key iv ad text out ++ drop 16 tag) tag) e,
    )

pub altered_refused : (key iv ad text out tag : Bytes) → InOrder key iv ad text out → 16 ≤ length tag.list → HNotZero key iv → (p q : SealedPage)
    → p.ad.list ≡ ad.list → p.cipher.list ≡ take (length text.list) (seal_writes key.list iv.list ad.list text.list out.list tag.list)
    → SameLengths p q → OneBlock p q → (into : Bytes) → length q.cipher.list ≤ length into.list
    → OpenRefused key iv q.ad q.cipher.list (take 16 (seal_writes_tag key.list iv.list ad.list text.list out.list tag.list)) into
altered_refused key iv ad text out tag l room-16 nz p q d c s o into room =
    let e = seals key.list iv.list ad.list text.list out.list tag.list room-16 in
    let w = seals-below key iv ad text out l in
    let t : List ℕ = sealed_tag key iv ad text out in
    let given : take 16 (seal_writes_tag key.list iv.list ad.list text.list out.list tag.list) ≡ t =
    ap (take 16) (e.2 ∙ ap (λ (n : ℕ). granted n (t ++ drop 16 tag.list) tag.list) w.accepted) ∙ take_at t (drop 16 tag.list) 16 (tag_long key iv ad text out l) in
    subst (λ (g : List ℕ). OpenRefused key iv q.ad q.cipher.list g into) (sym given)
    (one_block_shows.refuses_sealed key iv ad text out l nz p q (record { ad_is = d; cipher_is = c ∙ ap (take (length text.list)) e.1 }) s o into room)
