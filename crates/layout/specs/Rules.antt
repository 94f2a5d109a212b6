-- The layout rules of a suspended session's block (document 01, "Sessions and parking"), each with the words that it renders. A block that
-- breaks one is refused with 8.
use Rattle.std.specs.Prelude.{ℕ, ◌%◌, Bool, not, ◌||◌, List, [], ◌∷◌, eqb, leb, length, drop}
use Rattle.scope.specs.Limits.{most_data, most_text}
use Rattle.scope.specs.Refusals.{pick}
use Rattle.words.specs.Bytes.{part}
use Rattle.fields.specs.Fields.{every, all_zero, check_holds}
use Rattle.layout.specs.Block.{read}

-- "the phase's length"
abbrev pub phase_length : (phase ad text : ℕ) → ℕ
phase_length phase ad text = pick (eqb phase 0) ad text

unfoldable pub rules : List ℕ → List Bool
rules b =
    -- "the block has 512 bytes"
    eqb (length b) 512
    -- "Phase is 0 or 1"
    ∷ leb (read b).phase 1
    -- "the lengths obey refusal 3"
    ∷ leb (read b).ad most_data
    ∷ leb (read b).text most_text
    -- zero "and so are .. the text length in phase 0"
    ∷ (not (eqb (read b).phase 0) || eqb (read b).text 0)
    -- zero "and so are bytes 144-159 past (the phase's length modulo 16)"
    ∷ all_zero (drop (phase_length (read b).phase (read b).ad (read b).text % 16) (part 144 16 b))
    -- "All other bytes are zero"
    ∷ all_zero (part 1 3 b)
    ∷ all_zero (part 12 4 b)
    ∷ all_zero (part 160 348 b)
    -- "508-511 check"
    ∷ check_holds b
    ∷ []

-- whether bytes obey all of them
abbrev pub well_laid : List ℕ → Bool
well_laid b = every (rules b)
