-- What a lent slice holds are bytes. The pieces that a session has accepted are bytes too and keep to the limits: none at begin, and each accepted
-- piece keeps it so.
use mathlib.Core.Path.{◌≡◌}
use mathlib.Core.List.{[], ◌++◌}
use Prim.Native.Nat.{ℕ, ◌+◌, ◌≤◌}
use lib.Dec.{lit<, lit≤}
use lib.ListN.{length, length-append}
use Rattle.scope.specs.Limits.{most_data, most_text}
use Rattle.words.specs.Bytes.{Row}
use Rattle.words.proofs.Rows.{Below, below_append}
use Rattle.page.proofs.Stages.{Stage, Stage.taking_data, Stage.taking_text, ad_of, text_of}
use Rattle.claims.specs.Lists.{Bytes}

pub row_of : {n : ℕ} (b : Bytes) → length b.list ≡ n → Row n 256 b.list
row_of b e = record { long = e; below = b.below }

pub record Within (g : Stage) : Type 0 where
  pub ad_fits : length (ad_of g) ≤ most_data
  pub text_fits : length (text_of g) ≤ most_text
  pub ad_bytes : Below 256 (ad_of g)
  pub text_bytes : Below 256 (text_of g)

pub none_within : Within (taking_data [])
none_within = record { ad_fits = lit≤ tt; text_fits = lit≤ tt; ad_bytes = λ i. lit< tt; text_bytes = λ i. lit< tt }

module _ (g : Stage) (p : Bytes) (w : Within g) where
  pub data_within : length (ad_of g) + length p.list ≤ most_data → Within (taking_data (ad_of g ++ p.list))
  data_within fits =
      record {
        ad_fits = rw (length-append (ad_of g) p.list) fits;
        text_fits = lit≤ tt;
        ad_bytes = below_append 256 (ad_of g) p.list w.ad_bytes p.below;
        text_bytes = λ i. lit< tt;
      }

  pub text_within : length (text_of g) + length p.list ≤ most_text → Within (taking_text (ad_of g) (text_of g ++ p.list))
  text_within fits =
      record {
        ad_fits = w.ad_fits;
        text_fits = rw (length-append (text_of g) p.list) fits;
        ad_bytes = w.ad_bytes;
        text_bytes = below_append 256 (text_of g) p.list w.text_bytes p.below;
      }
