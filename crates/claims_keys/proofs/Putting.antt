-- A store that obeys the rules, with a block that does in the place of its first one of which a test holds: as long as it was, its blocks are those with that
-- one changed, and it obeys the rules where no number is there twice.
use mathlib.Core.Path.{◌≡◌, ap, ◌∙◌}
use mathlib.Core.Bool.{Bool, true, ◌&&◌}
use mathlib.Core.List.{List, map}
use Prim.Native.Nat.{ℕ, ◌*◌, ◌/◌, ◌%◌, ◌<◌}
use native.Mathlib.Omega.{arith}
use borrow.Author.Tests.{eqb-true, eq-eqb}
use lib.ListN.{length}
use Rattle.words.proofs.Tests.{and_left, and_right}
use Rattle.fields.specs.Fields.{every}
use Rattle.fields.specs.Blocks.{blocks, whole, replaced}
use Rattle.fields.proofs.Blocks.{cut_long, replaced_long, blocks_replaced}
use Rattle.key_store.specs.Layout.{well_laid}
use Rattle.key_store.specs.Store.{any, first, once, well_kept}
use Rattle.key_store.proofs.Obeying.{laid_long}
use Rattle.claims_keys.proofs.First.{put_first, first_within, put_first_is, every_kept}

-- ---- what the rules say

pub record Kept (s : List ℕ) : Type 0 where
  pub blocks_only : length s % 512 ≡ 0
  pub laid : every (map well_laid (blocks s)) ≡ true
  pub no_twice : once (blocks s) ≡ true

pub kept : (s : List ℕ) → well_kept s ≡ true → Kept s
unfolding well_kept
kept s e =
    let r = and_right (whole s) (every (map well_laid (blocks s)) && once (blocks s)) e in
    record {
      blocks_only = eqb-true (length s % 512) 0 (and_left (whole s) (every (map well_laid (blocks s)) && once (blocks s)) e);
      laid = and_left (every (map well_laid (blocks s))) (once (blocks s)) r;
      no_twice = and_right (every (map well_laid (blocks s))) (once (blocks s)) r;
    }

pub keeps : (s : List ℕ) → Kept s → well_kept s ≡ true
unfolding well_kept
keeps s k = rw (eq-eqb (length s % 512) 0 k.blocks_only, k.laid, k.no_twice)

-- ---- a block put in

pub place_inside : (p : List ℕ → Bool) (s : List ℕ) → any p (blocks s) ≡ true → 512 * first p (blocks s) < length s
unfolding blocks
place_inside p s h = omega (arith, first_within p (blocks s) h, cut_long (length s / 512) s)

module _ (p : List ℕ → Bool) (c s : List ℕ) (k : Kept s) (h : any p (blocks s) ≡ true) (l : well_laid c ≡ true) where
  abbrev after : List ℕ
  after = replaced (first p (blocks s)) c s

  pub put_long : length after ≡ length s
  put_long = replaced_long s (first p (blocks s)) k.blocks_only (place_inside p s h) c (laid_long c l)

  pub put_blocks : blocks after ≡ put_first p c (blocks s)
  put_blocks = blocks_replaced s (first p (blocks s)) k.blocks_only (place_inside p s h) c (laid_long c l) ∙ put_first_is p c (blocks s) h

  pub put_kept : once (put_first p c (blocks s)) ≡ true → well_kept after ≡ true
  put_kept o =
      keeps after
      (record {
        blocks_only = ap (λ (n : ℕ). n % 512) put_long ∙ k.blocks_only;
        laid = ap (λ (bs : List (List ℕ)). every (map well_laid bs)) put_blocks ∙ every_kept p c well_laid l (blocks s) k.laid;
        no_twice = ap once put_blocks ∙ o;
      })
