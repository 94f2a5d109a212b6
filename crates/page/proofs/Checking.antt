-- The tag that open compares is the one defined for the data and the ciphertext; and what the four calls of a page hand on.
use mathlib.Core.Path.{◌≡◌, sym, ◌∙◌}
use mathlib.Core.List.{List, []}
use Prim.Native.Nat.{ℕ}
use native.Mathlib.Omega.{arith}
use lib.ListN.{length, take, drop}
use lib.Seq.{take_all}
use Rattle.digest.specs.Digest.{absorb}
use Rattle.page.specs.Page.{encrypted, tag_for}
use Rattle.page.specs.Inner.{tag_over}
use Rattle.page.proofs.Stages.{Stage.taking_text, phase_at, sum_at, session_at}
use Rattle.page.proofs.Tags.{tag_for_is}

pub tag_over_at : (key iv d c : List ℕ) → tag_over (session_at key iv (taking_text d [])) c ≡ tag_for key iv d c
unfolding tag_over session_at phase_at sum_at encrypted absorb
tag_over_at key iv d c = sym (tag_for_is key iv d c)

-- sixteen bytes from the front of sixteen bytes
pub front_16 : (l s : List ℕ) → length s ≡ 16 → l ≡ take 16 (drop 0 s) → l ≡ s
front_16 l s e p = p ∙ take_all 16 s (omega arith)
