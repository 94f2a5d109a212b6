-- The answers of an open from a page file: those of the call below, then the length's buffer.
use mathlib.Core.Path.{◌≡◌}
use mathlib.Core.List.{List}
use Prim.Native.Nat.{ℕ, ◌≤◌, ◌<◌}
use lib.ListN.{length}
use Rattle.page_file.specs.Calls.{open_number}
use Rattle.tulvekas.specs.Files.{file_open_answer}
use Rattle.tulvekas.proofs.Answering.{then_refused, then_short, then_fits}

module _ (key stay : List ℕ) (n : ℕ) (f out len : List ℕ) {m : ℕ} (e : m ≡ open_number key stay n f (length out)) where
  pub open_refused : ¬ (m ≡ 0) → m ≡ file_open_answer key stay n f out len
  unfolding file_open_answer
  open_refused = then_refused 8 len e

  module _ (z : m ≡ 0) where
    pub open_short : length len < 8 → 4 ≡ file_open_answer key stay n f out len
    unfolding file_open_answer
    open_short = then_short 8 len e z

    pub open_right : 8 ≤ length len → 0 ≡ file_open_answer key stay n f out len
    unfolding file_open_answer
    open_right = then_fits 8 len e z
