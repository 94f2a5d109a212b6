-- A page of a page file (document 02, S-1, whose word for the file is stay book): 512 bytes, numbers low byte first. What stands in which bytes, and
-- the bytes that sealing a text gives. Ciphertext and tag are those of a whole page, `cipher_of` and `tag_for` of `page`.
use Rattle.std.specs.Prelude.{ℕ, ◌-◌, List, ◌++◌, length, replicate}
use Rattle.scope.specs.Limits.{most_page_text}
use Rattle.words.specs.Bytes.{little, number, part}
use Rattle.page.specs.Page.{cipher_of, page_tag}

-- ---- what stands in which bytes

-- "Bytes 0-11 are the stay"
abbrev pub stay_of : (page : List ℕ) → List ℕ
stay_of b = part 0 12 b

-- "12-15 the page number within the stay"
unfoldable pub page_number : (page : List ℕ) → ℕ
page_number b = number (part 12 4 b)

-- "16-19 the departure day"
unfoldable pub departure : (page : List ℕ) → ℕ
departure b = number (part 16 4 b)

-- "20-21 the text length (0 to 474)"
unfoldable pub text_length : (page : List ℕ) → ℕ
text_length b = number (part 20 2 b)

-- "22-495 the ciphertext of the text padded with zeros"
abbrev pub cipher_in : (page : List ℕ) → List ℕ
cipher_in b = part 22 474 b

-- "496-511 the tag"
abbrev pub tag_in : (page : List ℕ) → List ℕ
tag_in b = part 496 16 b

-- "Bytes 0-15 are the IV, bytes 0-21 the associated data"
abbrev pub iv_of : (page : List ℕ) → List ℕ
iv_of b = part 0 16 b

abbrev pub ad_of : (page : List ℕ) → List ℕ
ad_of b = part 0 22 b

-- ---- the bytes of a page that is sealed

-- bytes 0 to 21
unfoldable pub header : (stay : List ℕ) → (n day len : ℕ) → List ℕ
header stay n day len = stay ++ little 4 n ++ little 4 day ++ little 2 len

-- zeros behind a text up to 474 bytes
unfoldable pub padded_text : List ℕ → List ℕ
padded_text t = t ++ replicate (most_page_text - length t) 0

-- a header, the ciphertext and the tag under it
unfoldable pub sealed_under : (key head text : List ℕ) → List ℕ
sealed_under key h t = h ++ cipher_of key (iv_of h) (padded_text t) ++ page_tag key (iv_of h) (ad_of h) (padded_text t)

-- page n of a stay
unfoldable pub sealed_page : (key stay : List ℕ) → (n day : ℕ) → (text : List ℕ) → List ℕ
sealed_page key stay n day t = sealed_under key (header stay n day (length t)) t
