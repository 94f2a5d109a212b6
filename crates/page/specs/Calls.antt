-- Seal and open of a whole page (document 01, "Whole pages, keeping, program"): for each its number, 0 or that of the refusal in the call's
-- order, and what stands in the lent output afterwards.
use Rattle.std.specs.Prelude.{ℕ, List, ◌++◌, Bool, not, ◌||◌, eqb, ltb, length, drop}
use Rattle.scope.specs.Limits.{most_data, most_text}
use Rattle.scope.specs.Refusals.{refuse, granted, key_length, iv_length, too_long, short_output, bad_tag, tag_length}
use Rattle.words.specs.Bytes.{zeros, same}
use Rattle.page.specs.Page.{cipher_of, tag_for, page_tag}

-- 3: data or text over its limit
abbrev pub over_limit : (ad text : List ℕ) → Bool
over_limit d t = ltb most_data (length d) || ltb most_text (length t)

-- seal: 1, 2, 3, 4
unfoldable pub seal_number : (key iv ad text out : List ℕ) → ℕ
seal_number key iv d t out =
    refuse (not (eqb (length key) 32)) key_length
    (refuse (not (eqb (length iv) 16)) iv_length
    (refuse (over_limit d t) too_long (refuse (ltb (length out) (length t)) short_output 0)))

unfoldable pub seal_out : (key iv ad text out : List ℕ) → List ℕ
seal_out key iv d t out = granted (seal_number key iv d t out) (cipher_of key iv t ++ drop (length t) out) out

-- a refused seal gives zeros in the tag's place
unfoldable pub seal_tag : (key iv ad text out : List ℕ) → List ℕ
seal_tag key iv d t out = granted (seal_number key iv d t out) (page_tag key iv d t) zeros

-- open: 1, 2, 10, 3 (the ciphertext's length counts as the text's), 4, 5 (the tag is not the one that the definition gives)
unfoldable pub open_number : (key iv ad cipher tag out : List ℕ) → ℕ
open_number key iv d c tag out =
    refuse (not (eqb (length key) 32)) key_length
    (refuse (not (eqb (length iv) 16)) iv_length
    (refuse (not (eqb (length tag) 16)) tag_length
    (refuse (over_limit d c) too_long
    (refuse (ltb (length out) (length c)) short_output (refuse (not (same tag (tag_for key iv d c))) bad_tag 0)))))

-- the text, at the front of the output; a refusal writes nothing
unfoldable pub open_out : (key iv ad cipher tag out : List ℕ) → List ℕ
open_out key iv d c tag out = granted (open_number key iv d c tag out) (cipher_of key iv c ++ drop (length c) out) out
