-- A block of a key store (document 02, S-6, whose word for the store is shelf): 512 bytes. What it keeps, its bytes, what is read from bytes, and the layout
-- rules. The check is that of a suspended session's block, `checked` of `fields`.
use Rattle.std.specs.Prelude.{ℕ, Bool, not, ◌||◌, List, [], ◌∷◌, ◌++◌, eqb, leb, length, get_or, replicate}
use Rattle.words.specs.Bytes.{part, zeros}
use Rattle.fields.specs.Fields.{every, all_zero, checked, check_holds}
use Rattle.page.specs.Page.{cipher_of, page_tag}

-- "a mark (0 empty, 1 held, 2 erased)"
abbrev pub empty : ℕ
empty = 0

abbrev pub held : ℕ
held = 1

abbrev pub erased : ℕ
erased = 2

-- ---- what stands in which bytes

-- "0 a mark"
abbrev pub mark_of : (block : List ℕ) → ℕ
mark_of b = get_or b 0 0

-- "16-31 the number": the stay number, an IV
abbrev pub iv_of : (block : List ℕ) → List ℕ
iv_of b = part 16 16 b

-- "32-63 the sealed key"
abbrev pub sealed_in : (block : List ℕ) → List ℕ
sealed_in b = part 32 32 b

-- "64-79 its tag"
abbrev pub tag_in : (block : List ℕ) → List ℕ
tag_in b = part 64 16 b

-- ---- the rules

unfoldable pub rules : (block : List ℕ) → List Bool
rules b =
    -- "Shelf blocks have 512 bytes"
    eqb (length b) 512
    -- "a mark (0 empty, 1 held, 2 erased)"
    ∷ leb (mark_of b) 2
    -- "an empty one is all zero"
    ∷ (not (eqb (mark_of b) empty) || all_zero b)
    -- "an erased one zero at key and tag"
    ∷ (not (eqb (mark_of b) erased) || all_zero (part 32 48 b))
    -- "else zeros"
    ∷ all_zero (part 1 15 b)
    ∷ all_zero (part 80 428 b)
    -- "508-511 the check of a parked block"
    ∷ check_holds b
    ∷ []

-- whether a block obeys all of them
abbrev pub well_laid : (block : List ℕ) → Bool
well_laid b = every (rules b)

-- ---- the bytes of a block

-- what a block says
pub record Entry : Type 0 where
  pub mark : ℕ
  pub iv : List ℕ
  pub sealed : List ℕ
  pub tag : List ℕ

-- bytes 0 to 507
unfoldable pub body : Entry → List ℕ
body e = (e.mark ∷ []) ++ replicate 15 0 ++ e.iv ++ e.sealed ++ e.tag ++ replicate 428 0

-- and the check
unfoldable pub block_of : Entry → List ℕ
block_of e = checked (body e)

-- what is read from bytes
unfoldable pub read : (block : List ℕ) → Entry
read b = record { mark = mark_of b; iv = iv_of b; sealed = sealed_in b; tag = tag_in b }

-- "Each stay gets its own key, sealed under the season key with the stay number as IV and no data": ciphertext and tag are those of a page whose text is the
-- stay's key
abbrev pub held_entry : (key iv stay-key : List ℕ) → Entry
held_entry key iv k = record { mark = held; iv = iv; sealed = cipher_of key iv k; tag = page_tag key iv [] k }

unfoldable pub held_block : (key iv stay-key : List ℕ) → List ℕ
held_block key iv k = block_of (held_entry key iv k)

-- "sets mark 2, zeros key and tag, and leaves the number"
abbrev pub erased_entry : (iv : List ℕ) → Entry
erased_entry iv = record { mark = erased; iv = iv; sealed = replicate 32 0; tag = zeros }

unfoldable pub erased_block : (iv : List ℕ) → List ℕ
erased_block iv = block_of (erased_entry iv)
