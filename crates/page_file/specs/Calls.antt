-- Seal into a page file and open from it (document 02, S-1): for each its number, 0 or that of the refusal in the call's order, and what stands in the
-- lent bytes afterwards.
use Rattle.std.specs.Prelude.{ℕ, ◌*◌, not, ◌||◌, List, ◌++◌, eqb, leb, ltb, length, take, drop}
use Rattle.scope.specs.Limits.{most_page_text, last_day}
use Rattle.scope.specs.Refusals.{refuse, granted, key_length, iv_length, too_long, short_output, bad_tag, day_range, bad_file, bad_stay}
use Rattle.words.specs.Bytes.{same}
use Rattle.fields.specs.Fields.{all_zero}
use Rattle.fields.specs.Blocks.{whole, replaced}
use Rattle.page.specs.Page.{cipher_of, tag_for}
use Rattle.page_file.specs.Layout.{text_length, cipher_in, tag_in, iv_of, ad_of, sealed_page}
use Rattle.page_file.specs.File.{pages, in_order, of_stay, stay_in_order, named}

-- ---- seal

-- "Sealing tests 1, 2 (a stay of 12 bytes), 3 (over 474), 12, 13": the last for the file's length and for "a place past its end". The file's bytes are not
-- read: "Stored lengths and days are tested by opening only"
unfoldable pub seal_number : (key stay : List ℕ) → (day : ℕ) → (text file : List ℕ) → (place : ℕ) → ℕ
seal_number key stay day t f i =
    refuse (not (eqb (length key) 32)) key_length
    (refuse (not (eqb (length stay) 12)) iv_length
    (refuse (ltb most_page_text (length t)) too_long
    (refuse (ltb last_day day) day_range (refuse (not (whole f) || leb (length f) (512 * i)) bad_file 0))))

-- "Each page is sealed straight into its place in the lent file, place i from byte 512 times i, and no other page changes": the file afterwards
unfoldable pub seal_file : (key stay : List ℕ) → (n day : ℕ) → (text file : List ℕ) → (place : ℕ) → List ℕ
seal_file key stay n day t f i = granted (seal_number key stay day t f i) (replaced i (sealed_page key stay n day t) f) f

-- ---- open

-- what a page's ciphertext gives: the text and its padding
abbrev pub content : (key page : List ℕ) → List ℕ
content key b = cipher_of key (iv_of b) (cipher_in b)

-- of a page: "4, 5, and 13 for padding last"
unfoldable pub page_open_number : (key page : List ℕ) → (room : ℕ) → ℕ
page_open_number key b room =
    refuse (ltb room (text_length b)) short_output
    (refuse (not (same (tag_in b) (tag_for key (iv_of b) (ad_of b) (cipher_in b)))) bad_tag
    (refuse (not (all_zero (drop (text_length b) (content key b)))) bad_file 0))

-- "Opening names a stay and a page number, not a place"
unfoldable pub page_of : (stay : List ℕ) → (n : ℕ) → (file : List ℕ) → List ℕ
page_of stay n f = named n (of_stay stay (pages f))

-- "opening tests 1, 2, 13, 14, 4, 5, and 13 for padding last"; the output has room for that many bytes
unfoldable pub open_number : (key stay : List ℕ) → (n : ℕ) → (file : List ℕ) → (room : ℕ) → ℕ
open_number key stay n f room =
    refuse (not (eqb (length key) 32)) key_length
    (refuse (not (eqb (length stay) 12)) iv_length
    (refuse (not (in_order f)) bad_file
    (refuse (not (stay_in_order n (of_stay stay (pages f)))) bad_stay (page_open_number key (page_of stay n f) room))))

-- "as many text bytes as its stored length"
unfoldable pub open_text : (key stay : List ℕ) → (n : ℕ) → (file : List ℕ) → List ℕ
open_text key stay n f = take (text_length (page_of stay n f)) (content key (page_of stay n f))

-- the text, at the front of the output; a refusal writes nothing
unfoldable pub open_out : (key stay : List ℕ) → (n : ℕ) → (file out : List ℕ) → List ℕ
open_out key stay n f out =
    granted (open_number key stay n f (length out)) (open_text key stay n f ++ drop (text_length (page_of stay n f)) out) out

-- what an open answers: how many bytes of text it wrote, or a refusal
pub data Opened : Type 0 where
  written : (len : ℕ) → Opened
  refused : ℕ → Opened

unfoldable pub open_answer : (key stay : List ℕ) → (n : ℕ) → (file : List ℕ) → (room : ℕ) → Opened
open_answer key stay n f room =
    granted (open_number key stay n f room) (written (text_length (page_of stay n f))) (refused (open_number key stay n f room))
