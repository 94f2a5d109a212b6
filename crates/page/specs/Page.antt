-- A whole page, as the SNOW-V paper, section 4, and SP 800-38D, section 7, define its ciphertext and tag (document 01, "Tag arithmetic"): block 0
-- of the keystream in sealed mode is H, block 1 the end pad, and the text uses block 2 on. Nothing here speaks of sessions or of the code.
use Rattle.std.specs.Prelude.{ℕ, ◌+◌, ◌/◌, ◌%◌, List, [], ◌∷◌, ◌++◌, get_or, length}
use Rattle.words.specs.Xor.{◌⊕◌, xors}
use Rattle.ghash.specs.Hash.{lengths, padded, ghash}
use Rattle.start.specs.Start.{sealed_keystream}

-- byte i of a text is xored with byte i mod 16 of block 2 + i / 16; here from byte i on
unfoldable pub encrypted : (key iv : List ℕ) → ℕ → List ℕ → List ℕ
encrypted key iv i [] = []
encrypted key iv i (b ∷ t) = (b ⊕ get_or (sealed_keystream key iv (2 + i / 16)) (i % 16) 0) ∷ encrypted key iv (i + 1) t

-- the ciphertext of a text, and the text of a ciphertext
abbrev pub cipher_of : (key iv text : List ℕ) → List ℕ
cipher_of key iv t = encrypted key iv 0 t

-- the tag of data and a ciphertext: the hash of both, each padded, and of their lengths, xor the end pad
unfoldable pub tag_for : (key iv ad cipher : List ℕ) → List ℕ
tag_for key iv d c =
    xors (ghash (sealed_keystream key iv 0) (padded d ++ padded c ++ lengths (length d) (length c))) (sealed_keystream key iv 1)

-- the tag of a page
abbrev pub page_tag : (key iv ad text : List ℕ) → List ℕ
page_tag key iv d t = tag_for key iv d (cipher_of key iv t)
