-- What is claimed of page files (document 02, S-1), for every file and every place, over the definitions that the contracts of `page_file` name.
-- proofs/Claimed.antt proves it. A seal that is refused changes nothing.
use Rattle.std.specs.Prelude.{ℕ, ◌+◌, ◌*◌, ◌%◌, ◌^◌, ◌≤◌, ◌<◌, ◌↔◌, ◌≡◌, Bool, true, ◌&&◌, List, [], ◌∷◌, ◌++◌, map, eqb, leb, ltb, length, get_or, take, drop}
use Rattle.scope.specs.Limits.{most_page_text, last_day}
use Rattle.scope.specs.Refusals.{pick, short_output}
use Rattle.words.specs.Bytes.{little, part}
use Rattle.fields.specs.Fields.{every}
use Rattle.page_file.specs.Layout.{stay_of, page_number, departure, iv_of, sealed_page}
use Rattle.page_file.specs.File.{pages, in_range, in_order, of_stay, running, all_on, stay_in_order}
use Rattle.page_file.specs.Calls.{seal_number, seal_file, page_of, open_text, open_out, Opened.written, Opened.refused, open_answer}

-- opening page n of a stay gives t: the only refusal left is that of an output without room for it
pub record OpensTo (key stay : List ℕ) (n : ℕ) (file t : List ℕ) : Type 0 where
  pub answer : (room : ℕ) → open_answer key stay n file room ≡ pick (ltb room (length t)) (refused short_output) (written (length t))
  pub out : (o : List ℕ) → open_out key stay n file o ≡ pick (ltb (length o) (length t)) o (t ++ drop (length t) o)

-- ---- what a seal asks for

pub record Sealable (key stay : List ℕ) (day : ℕ) (t : List ℕ) : Type 0 where
  pub key_long : length key ≡ 32
  pub stay_long : length stay ≡ 12
  pub text_fits : length t ≤ most_page_text
  pub day_fits : day ≤ last_day

-- the file is whole pages, and place i is one of them
pub record Place (file : List ℕ) (i : ℕ) : Type 0 where
  pub whole : length file % 512 ≡ 0
  pub inside : 512 * i < length file

-- ---- a page sealed into a place

-- a file's pages before a place, and behind it
abbrev pub before : (place : ℕ) → (file : List ℕ) → List (List ℕ)
before i f = take i (pages f)

abbrev pub behind : (place : ℕ) → (file : List ℕ) → List (List ℕ)
behind i f = drop (i + 1) (pages f)

-- the other pages of a stay leave room for its page n of that day: the earlier ones are pages 0 to n - 1, the later ones go on from n + 1, and all hold
-- its day
unfoldable pub stay_fits : (n day : ℕ) → (earlier later : List (List ℕ)) → Bool
stay_fits n day us vs = eqb (length us) n && running 0 us && running (n + 1) vs && all_on day us && all_on day vs

module _ (key stay : List ℕ) (n day : ℕ) (t f : List ℕ) (i : ℕ) where
  -- the file afterwards
  abbrev pub after : List ℕ
  after = seal_file key stay n day t f i

  -- the page that stood in the place
  abbrev pub old : List ℕ
  old = part (512 * i) 512 f

  pub record Seals : Type 0 where
    -- no other page changes
    pub long : length after ≡ length f
    pub pages_after : pages after ≡ before i f ++ sealed_page key stay n day t ∷ behind i f
    -- so that every page but the one sealed and the one that stood there is, by its stay and number, the page that it was
    pub same_page : (s : List ℕ) (m : ℕ) → ¬ ((s ≡ stay) × (m ≡ n)) → ¬ ((s ≡ stay_of old) × (m ≡ page_number old)) → page_of s m after ≡ page_of s m f
    -- whether the file is in order afterwards is a matter of its other pages
    pub order : in_order after ≡ (every (map in_range (before i f)) && every (map in_range (behind i f)))
    -- and so is whether the stay's pages are
    pub stay_order : stay_in_order n (of_stay stay (pages after)) ≡ stay_fits n day (of_stay stay (before i f)) (of_stay stay (behind i f))
    -- if both are, the page opens to its text
    pub opens : in_order after ≡ true → stay_in_order n (of_stay stay (pages after)) ≡ true → OpensTo key stay n after t

  -- every page of every other stay opens, under every key, as it did. Other: neither the stay that is sealed nor that of the page which stood in the
  -- place, since that page is gone
  pub record OthersStay : Type 0 where
    pub order : in_order f ≡ true → in_order after ≡ true
    pub answer : (k s : List ℕ) (m room : ℕ) → in_order f ≡ true → ¬ (s ≡ stay) → ¬ (s ≡ stay_of old) → open_answer k s m after room ≡ open_answer k s m f room
    pub out : (k s : List ℕ) (m : ℕ) (o : List ℕ) → in_order f ≡ true → ¬ (s ≡ stay) → ¬ (s ≡ stay_of old) → open_out k s m after o ≡ open_out k s m f o

-- ---- the pages of one stay, sealed one after the other

pub record Entry : Type 0 where
  pub place : ℕ
  pub text : List ℕ

module _ (key stay : List ℕ) (day : ℕ) where
  -- the file after texts are sealed as pages n, n + 1, ..
  unfoldable pub seal_each : (n : ℕ) → List Entry → (file : List ℕ) → List ℕ
  seal_each n [] f = f
  seal_each n (e ∷ es) f = seal_each (n + 1) es (seal_file key stay n day e.text f e.place)

  -- whether each of these is accepted
  unfoldable pub each_accepted : (n : ℕ) → List Entry → (file : List ℕ) → Bool
  each_accepted n [] f = true
  each_accepted n (e ∷ es) f =
      eqb (seal_number key stay day e.text f e.place) 0 && each_accepted (n + 1) es (seal_file key stay n day e.text f e.place)

-- whether places rise, from k on
unfoldable pub rising : (k : ℕ) → List Entry → Bool
rising k [] = true
rising k (e ∷ es) = leb k e.place && rising (e.place + 1) es

-- ---- the claims

pub record FileClaims : Type 0 where
  -- a seal is accepted exactly if its lengths and its day are in order and the file has the place
  pub accepts : (key stay : List ℕ) (day : ℕ) (t f : List ℕ) (i : ℕ) → (seal_number key stay day t f i ≡ 0) ↔ Sealable key stay day t × Place f i
  -- an accepted seal changes its page and no other, and what was sealed opens to its text
  pub sealed_opens : (key stay : List ℕ) (n day : ℕ) (t f : List ℕ) (i : ℕ) → n < 2 ^ 32 → seal_number key stay day t f i ≡ 0 → Seals key stay n day t f i
  -- and leaves other stays alone
  pub others_stay : (key stay : List ℕ) (n day : ℕ) (t f : List ℕ) (i : ℕ) → seal_number key stay day t f i ≡ 0 → OthersStay key stay n day t f i
  -- in every file, however it came about, a page that is what sealing a text gives opens to it, if file and stay are in order
  pub page_opens : (key stay : List ℕ) (n day : ℕ) (t f : List ℕ) → Sealable key stay day t → page_of stay n f ≡ sealed_page key stay n day t
      → in_order f ≡ true → stay_in_order n (of_stay stay (pages f)) ≡ true → OpensTo key stay n f t
  -- and what opens is, byte for byte, what sealing its text gives (a lent file holds bytes: `known_bytes` of crates/words/proofs/Typed.antt)
  pub opened_sealed : (key stay : List ℕ) (n : ℕ) (f : List ℕ) (room len : ℕ) → ((i : ℕ) → get_or f i 0 < 256) → open_answer key stay n f room ≡ written len
      → (len ≡ length (open_text key stay n f)) × (page_of stay n f ≡ sealed_page key stay n (departure (page_of stay n f)) (open_text key stay n f))
  -- pages 0, 1, 2 .. of a stay that a file in order has no page of, sealed at rising places, each open
  pub each_opens : (key stay : List ℕ) (day : ℕ) (es : List Entry) (f : List ℕ) → length es ≤ 2 ^ 32 → in_order f ≡ true → of_stay stay (pages f) ≡ []
      → rising 0 es ≡ true → each_accepted key stay day 0 es f ≡ true → (k : ℕ) → k < length es
      → OpensTo key stay k (seal_each key stay day 0 es f) (get_or es k (record { place = 0; text = [] })).text
  -- two pages with one IV have one stay and one page number
  pub one_iv : (b c : List ℕ) → iv_of b ≡ iv_of c → (stay_of b ≡ stay_of c) × (page_number b ≡ page_number c)
  -- the IV of a page that is sealed, which is that of its header, is its stay and its number
  pub sealed_iv : (key stay : List ℕ) (n day : ℕ) (t : List ℕ) → length stay ≡ 12 → iv_of (sealed_page key stay n day t) ≡ stay ++ little 4 n
  -- so that two seals with different stay or page number have different IVs
  pub sealed_apart : (key key' stay stay' : List ℕ) (n n' day day' : ℕ) (t t' : List ℕ) → length stay ≡ 12 → length stay' ≡ 12 → n < 2 ^ 32 → n' < 2 ^ 32
      → iv_of (sealed_page key stay n day t) ≡ iv_of (sealed_page key' stay' n' day' t') → (stay ≡ stay') × (n ≡ n')
