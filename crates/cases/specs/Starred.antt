-- The starred cases of document 01, "Trial bookings", in its order, with what document 02 puts in their place: one list of statements about the definitions,
-- and one statement that all of them hold. Bytes and cells are numbers; a block is a list of 16 bytes.
use Rattle.std.specs.Prelude.{ℕ, ◌^◌, ◌<◌, ◌≡◌, true, false, List, [], ◌∷◌, ◌++◌, drop, replicate}
use Rattle.words.specs.Bytes.{Row, IsBlock, littles}
use Rattle.words.specs.Sums.{◌⊞◌}
use Rattle.lfsr.specs.Cells.{alpha, alpha⁻¹, beta, beta⁻¹}
use Rattle.lfsr.specs.Clock.{snow_v, clock, Lfsr}
use Rattle.lfsr.specs.Unclock.{solved_v, unclock}
use Rattle.aes.specs.Round.{round}
use Rattle.ghash.specs.Hash.{◌•◌}
use Rattle.cipher.specs.Step.{z}
use Rattle.cipher.specs.Run.{forward, zs}
use Rattle.start.specs.Start.{Mode, load, sealed_keystream, blank}
use Rattle.page.specs.Page.{page_tag}
use Rattle.calendar.specs.Calendar.{date, day_of}
use Rattle.retention.specs.Keeping.{Verdict.decided, keeping}

-- every statement of a list holds
abbrev pub All : List (Type 0) → Type 0
All [] = Unit
All (p ∷ ps) = p × All ps

-- registers with x and y in one cell each of A and B and zeros in the others: the first cell, or the last
abbrev pub first : ℕ → ℕ → Lfsr
first x y = record { a = x ∷ replicate 15 0; b = y ∷ replicate 15 0 }

abbrev pub last : ℕ → ℕ → Lfsr
last x y = record { a = replicate 15 0 ++ (x ∷ []); b = replicate 15 0 ++ (y ∷ []) }

abbrev pub starred : List (Type 0)
starred =
    -- alpha 0x8000 = 0x990f; inverse-alpha 1 = 0xcc87; beta 0x8000 = 0xc963; inverse-beta 1 = 0xe4b1
    (alpha 0x8000 ≡ 0x990f)
    ∷ (alpha⁻¹ 1 ≡ 0xcc87)
    ∷ (beta 0x8000 ≡ 0xc963)
    ∷ (beta⁻¹ 1 ≡ 0xe4b1)
    -- only a0 = 1: a clock gives a15 = 2, b15 = 1, rest zero; back gives a0 = 1
    ∷ (clock snow_v (first 1 0) ≡ last 2 1)
    ∷ (unclock snow_v solved_v (last 2 1) ≡ first 1 0)
    -- round of sixteen 00 is sixteen 63
    ∷ (round (replicate 16 0x00) ≡ replicate 16 0x63)
    -- all-zero state: blocks all 00, all 63, all a5
    ∷ (zs forward 3 blank.registers ≡ replicate 16 0x00 ∷ replicate 16 0x63 ∷ replicate 16 0xa5 ∷ [])
    -- 0xffffffff + 1 in the low word is 0, the next word unchanged (and so are the others)
    ∷ ((b c d : ℕ) → b < 2 ^ 32 → c < 2 ^ 32 → d < 2 ^ 32
    → littles 4 (0xffffffff ∷ b ∷ c ∷ d ∷ []) ⊞ littles 4 (1 ∷ 0 ∷ 0 ∷ 0 ∷ []) ≡ littles 4 (0 ∷ b ∷ c ∷ d ∷ []))
    -- GHASH product: 80 00.. is the one; 00..01 times 40 00.. is e1 00..
    ∷ ((x : List ℕ) → IsBlock x → (x • (0x80 ∷ replicate 15 0) ≡ x) × ((0x80 ∷ replicate 15 0) • x ≡ x))
    ∷ ((replicate 15 0 ++ (0x01 ∷ [])) • (0x40 ∷ replicate 15 0) ≡ 0xe1 ∷ replicate 15 0)
    -- first z of every start is key bytes 16 to 31
    ∷ ((key iv : List ℕ) (m : Mode) → Row 32 256 key → z (load key iv m) ≡ drop 16 key)
    -- no data, no text: tag = end pad
    ∷ ((key iv : List ℕ) → Row 32 256 key → IsBlock iv → page_tag key iv [] [] ≡ sealed_keystream key iv 1)
    -- document 02, S-4, in place of "Day difference 548 kept, 549 not": a departure on 31 August 2024 is kept on 28 February 2026, and not on 1 March
    ∷ (keeping (day_of (date 2026 2 28)) (day_of (date 2024 8 31)) ≡ decided true)
    ∷ (keeping (day_of (date 2026 3 1)) (day_of (date 2024 8 31)) ≡ decided false)
    ∷ []
