-- Document 02, S-9, "One altered block always shows" (the user's words stand in quotes). The claims speak of the page as the paper defines it, `tag_for` and
-- `cipher_of` (crates/page/specs/Page.antt), and of what the contracts of seal and open name. proofs/Shows.antt proves them.
-- Left out, and not claimed: anything where H is zero, of two altered blocks or more, of unequal lengths or under different keys or IVs, and how likely a forger is
-- to hit on a tag. Of the first three `Counterexamples` has pages with one tag; proofs/Counterexamples.antt proves it. That any key and IV have an H of zero is not
-- said.
use Rattle.std.specs.Prelude.{ℕ, ◌+◌, ◌*◌, ◌%◌, ◌≤◌, ◌≡◌, List, [], ◌∷◌, ◌++◌, length, replicate}
use Rattle.words.specs.Bytes.{part, IsBlock, zeros}
use Rattle.ghash.specs.Hash.{lengths, ◌•◌, ghash}
use Rattle.start.specs.Start.{sealed_keystream}
use Rattle.page.specs.Page.{cipher_of, tag_for, page_tag}
use Rattle.claims.specs.Lists.{Bytes}
use Rattle.claims.specs.Claims.{Keyed, InOrder, OpenRefused, sealed_text, sealed_tag}

-- ---- what differs

-- segment k of a string that is cut, from its start on, into segments of n bytes: the last "may be short", and behind it all are empty
abbrev pub segment : (n k : ℕ) → List ℕ → List ℕ
segment n k s = part (k * n) n s

-- s and t, so cut, differ in segment i and in no other
pub record JustOne (n i : ℕ) (s t : List ℕ) : Type 0 where
  pub here : ¬ (segment n i s ≡ segment n i t)
  pub elsewhere : (k : ℕ) → ¬ (k ≡ i) → segment n k s ≡ segment n k t

-- a page as it is tagged
pub record SealedPage : Type 0 where
  pub ad : Bytes
  pub cipher : Bytes

-- "with equal data lengths and equal text lengths": a ciphertext is as long as its text
pub record SameLengths (p q : SealedPage) : Type 0 where
  pub ad_lengths : length p.ad.list ≡ length q.ad.list
  pub cipher_lengths : length p.cipher.list ≡ length q.cipher.list

-- "whose data and ciphertext together differ in just one block of 16 bytes": in one of the data's, or in one of the ciphertext's. Each of the two is cut into
-- blocks by itself, as the hash has it, so that no block has bytes of both and the last block of either may be short.
pub data OneBlock (p q : SealedPage) : Type 0 where
  in_data : (i : ℕ) → JustOne 16 i p.ad.list q.ad.list → p.cipher.list ≡ q.cipher.list → OneBlock p q
  in_cipher : (i : ℕ) → p.ad.list ≡ q.ad.list → JustOne 16 i p.cipher.list q.cipher.list → OneBlock p q

-- ---- under a key and an IV

-- block 0 of the keystream in sealed mode
abbrev pub H : (key iv : Bytes) → List ℕ
H key iv = sealed_keystream key.list iv.list 0

abbrev pub HNotZero : (key iv : Bytes) → Type 0
HNotZero key iv = ¬ (H key iv ≡ zeros)

abbrev pub tag_under : (key iv : Bytes) → SealedPage → List ℕ
tag_under key iv p = tag_for key.list iv.list p.ad.list p.cipher.list

-- two texts of one length that differ in byte i alone
pub record OneByte (i : ℕ) (text text' : Bytes) : Type 0 where
  pub lengths : length text.list ≡ length text'.list
  pub differ : JustOne 1 i text.list text'.list

-- their ciphertexts are of one length and differ in that byte alone, and their tags differ
pub record Moves (key iv ad : Bytes) (i : ℕ) (text text' : Bytes) : Type 0 where
  pub cipher_lengths : length (cipher_of key.list iv.list text.list) ≡ length (cipher_of key.list iv.list text'.list)
  pub cipher : JustOne 1 i (cipher_of key.list iv.list text.list) (cipher_of key.list iv.list text'.list)
  pub tag : ¬ (page_tag key.list iv.list ad.list text.list ≡ page_tag key.list iv.list ad.list text'.list)

-- the page that a seal made: the data that it was lent, and the ciphertext that it wrote
pub record SealGave (key iv ad text out : Bytes) (p : SealedPage) : Type 0 where
  pub ad_is : p.ad.list ≡ ad.list
  pub cipher_is : p.cipher.list ≡ sealed_text key iv ad text out

-- ---- the claims

pub record OneBlockShows : Type 0 where
  -- "Under one key and stay number, with H not zero, two pages with equal data lengths and equal text lengths, whose data and ciphertext together differ in
  -- just one block of 16 bytes (the last may be short), never have the same tag." At every length, within the limits or not.
  pub tags : (key iv : Bytes) → Keyed key iv → HNotZero key iv → (p q : SealedPage) → SameLengths p q → OneBlock p q
      → ¬ (tag_under key iv p ≡ tag_under key iv q)
  -- "With H not zero and all else equal, one changed text byte moves just that ciphertext byte, and the tag."
  pub byte : (key iv : Bytes) → Keyed key iv → HNotZero key iv → (ad : Bytes) (i : ℕ) (text text' : Bytes) → OneByte i text text'
      → Moves key iv ad i text text'
  -- As an owner meets it, where H is not zero: open of a page that was altered in one block, its lengths kept and all that is lent of lengths in order, under the tag
  -- that the page had, is refused with 5 and writes nothing. Every page p with its tag, sealed here or not;
  pub refuses : (key iv : Bytes) → HNotZero key iv → (p q : SealedPage) → SameLengths p q → OneBlock p q → (into : Bytes)
      → InOrder key iv q.ad q.cipher into → OpenRefused key iv q.ad q.cipher.list (tag_under key iv p) into
  -- and a page that seal made, under the tag that seal gave.
  pub refuses_sealed : (key iv ad text out : Bytes) → InOrder key iv ad text out → HNotZero key iv → (p q : SealedPage) → SealGave key iv ad text out p
      → SameLengths p q → OneBlock p q → (into : Bytes) → length q.cipher.list ≤ length into.list
      → OpenRefused key iv q.ad q.cipher.list (sealed_tag key iv ad text out) into
  -- GHASH alone, under every block H but zero: strings of whole blocks that differ in just one block have different hashes.
  pub hashes : (h s t : Bytes) → length h.list ≡ 16 → ¬ (h.list ≡ zeros) → length s.list ≡ length t.list
      → length s.list % 16 ≡ 0 → (i : ℕ) → JustOne 16 i s.list t.list → ¬ (ghash h.list s.list ≡ ghash h.list t.list)
  -- What "just one block" takes in: other bytes in the place of some, with all before and behind them as it was, where these stand within the 16 bytes from
  -- 16 i on. So of a whole block and of less, and of the last block of the data, which may be short though a ciphertext follows.
  pub within_block : (i : ℕ) (front x x' behind : List ℕ) → i * 16 ≤ length front → length front + length x ≤ i * 16 + 16 → length x ≡ length x'
      → ¬ (x ≡ x') → JustOne 16 i (front ++ (x ++ behind)) (front ++ (x' ++ behind))
  -- And there are a key and an IV whose H is not zero: the key of 32 zero bytes and the IV of 16.
  pub some_h : (key iv : Bytes) → key.list ≡ replicate 32 0 → iv.list ≡ replicate 16 0 → HNotZero key iv

-- ---- pages with one tag

-- With two blocks, or with unequal lengths, the claim of tags is false under every key and IV that a line speaks of; and where H were zero it would be.
pub record Counterexamples : Type 0 where
  -- Where H is zero: every two pages.
  pub h_zero : (key iv : Bytes) → H key iv ≡ zeros → (p q : SealedPage) → tag_under key iv p ≡ tag_under key iv q
  -- Two blocks of the data, both of which differ where H is not zero: 32 zeros, and 80 00 .. 00 with H behind it, whatever the ciphertext.
  pub two_blocks : (key iv : Bytes) → Keyed key iv → (cipher : List ℕ)
      → tag_for key.list iv.list (zeros ++ zeros) cipher ≡ tag_for key.list iv.list ((0x80 ∷ replicate 15 0) ++ H key iv) cipher
  -- One block of the data and one of the ciphertext: 16 zeros and 16 zeros, and 80 00 .. 00 and H.
  pub one_of_each : (key iv : Bytes) → Keyed key iv
      → tag_for key.list iv.list zeros zeros ≡ tag_for key.list iv.list (0x80 ∷ replicate 15 0) (H key iv)
  -- Unequal lengths: the empty page, and one block of data, or of ciphertext, that times H is the block of the lengths.
  pub unequal_data : (key iv : Bytes) → Keyed key iv → ¬ (H key iv ≡ zeros)
      → (x : List ℕ) × IsBlock x × (x • H key iv ≡ lengths 16 0) × (tag_for key.list iv.list [] [] ≡ tag_for key.list iv.list x [])
  pub unequal_cipher : (key iv : Bytes) → Keyed key iv → ¬ (H key iv ≡ zeros)
      → (x : List ℕ) × IsBlock x × (x • H key iv ≡ lengths 0 16) × (tag_for key.list iv.list [] [] ≡ tag_for key.list iv.list [] x)
