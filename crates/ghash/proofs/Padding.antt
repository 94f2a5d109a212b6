-- A string with zeros behind it up to a whole number of blocks, and the block of the lengths: what is hashed for a tag are blocks of bytes.
use mathlib.Core.Path.{◌≡◌, ap, ◌∙◌}
use mathlib.Core.List.{List, ◌++◌, append-nil, append_assoc}
use Prim.Native.Nat.{ℕ, ◌*◌, ◌-◌, ◌%◌, ◌<◌, ◌≤◌}
use native.Mathlib.Omega.{arith}
use lib.Dec.{lit<}
use lib.ListN.{length, replicate, length-append, length-replicate}
use Rattle.words.specs.Bytes.{IsBlock}
use Rattle.words.proofs.Rows.{Below, below_append, row_append, zeros_row}
use Rattle.ghash.specs.Hash.{lengths, padded}
use Rattle.ghash.proofs.BigEndian.{bigs_row}

pub padded_whole : (s : List ℕ) → length (padded s) % 16 ≡ 0
padded_whole s = simp (length-append, length-replicate) (omega arith)

-- behind whole blocks; so that whole blocks themselves stay as they are, and a block that is not empty becomes a whole one
pub padded_append : (s t : List ℕ) → length s % 16 ≡ 0 → padded (s ++ t) ≡ s ++ padded t
padded_append s t e =
    let n : (16 - length (s ++ t) % 16) % 16 ≡ (16 - length t % 16) % 16 = rw (length-append s t) (omega arith) in
    ap (λ (k : ℕ). (s ++ t) ++ replicate k 0) n ∙ append_assoc s t (replicate ((16 - length t % 16) % 16) 0)

pub padded_none : (s : List ℕ) → length s % 16 ≡ 0 → padded s ≡ s
padded_none s e = rw e (append-nil s)

pub padded_block : (s : List ℕ) → 0 < length s → length s ≤ 16 → length (padded s) ≡ 16
padded_block s h k = simp (length-append, length-replicate) (omega arith)

-- ---- bytes

pub padded_below : (s : List ℕ) → Below 256 s → Below 256 (padded s)
padded_below s b = below_append 256 s (replicate ((16 - length s % 16) % 16) 0) b (zeros_row ((16 - length s % 16) % 16) 256 (lit< tt)).below

pub lengths_row : (d t : ℕ) → IsBlock (lengths d t)
lengths_row d t = row_append 256 8 8 (bigs_row 8 (d * 8)) (bigs_row 8 (t * 8))
