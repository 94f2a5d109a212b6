-- Two keys stored for one number leave two stores that differ only in the new block's key, tag and check: what stands around the block is the store that both
-- were lent, and the first 32 bytes of the block and its zeros do not depend on the key.
use mathlib.Core.Path.{◌≡◌, refl, sym, ap, ap₂, ◌∙◌}
use mathlib.Core.Bool.{true}
use mathlib.Core.List.{List, [], ◌∷◌, ◌++◌, append_assoc, append-nil}
use Prim.Native.Nat.{ℕ, ◌+◌, ◌*◌, ◌%◌, ◌<◌}
use native.Mathlib.Omega.{arith}
use lib.Dec.{lit≤}
use lib.ListN.{length, take, drop, replicate, length-append}
use lib.Seq.{take-take, take-add}
use Rattle.words.specs.Bytes.{little, part, joined}
use Rattle.words.proofs.Parts.{At, down, here, part_part}
use Rattle.fields.specs.Fields.{check, checked}
use Rattle.fields.specs.Blocks.{blocks}
use Rattle.fields.proofs.Blocks.{replaced_before, replaced_at, replaced_behind}
use Rattle.page.specs.Page.{cipher_of, page_tag}
use Rattle.page.proofs.Ciphertext.{cipher_length}
use Rattle.page.proofs.TagLength.{tag_long}
use Rattle.key_store.specs.Layout.{held, body, block_of, held_block, held_entry}
use Rattle.key_store.specs.Store.{is_empty, holds, first}
use Rattle.key_store.specs.Calls.{store_number, store_after}
use Rattle.key_store.proofs.Obeying.{laid_long}
use Rattle.claims_keys.specs.Claims.{OneKeyApart, Storable}
use Rattle.claims_keys.proofs.Blocks.{held_laid, held_holds}
use Rattle.claims_keys.proofs.Putting.{kept, place_inside}
use Rattle.claims_keys.proofs.Accepting.{storing, stored}

-- ---- the new block

regroup : (h s t z c : List ℕ) → h ++ s ++ t ++ z ++ c ≡ joined (h ∷ (s ++ t) ∷ z ∷ c ∷ [])
regroup h s t z c = simp (append_assoc, append-nil)

-- mark and number
abbrev head : List ℕ → List ℕ
head iv = (held ∷ []) ++ replicate 15 0 ++ iv

module _ (key iv k : List ℕ) (l : length iv ≡ 16) (m : length k ≡ 32) where
  abbrev block : List ℕ
  block = held_block key iv k

  abbrev secret : List ℕ
  secret = cipher_of key iv k ++ page_tag key iv [] k

  parts : At block 0 (head iv ∷ secret ∷ replicate 428 0 ∷ little 4 (check (body (held_entry key iv k))) ∷ [])
  unfolding held_block block_of body checked
  parts =
      record { is = regroup (head iv) (cipher_of key iv k) (page_tag key iv [] k) (replicate 428 0) (little 4 (check (body (held_entry key iv k)))) }

  head_long : length (head iv) ≡ 32
  head_long = omega (arith, length-append ((held ∷ []) ++ replicate 15 0) iv)

  secret_long : length secret ≡ 48
  secret_long =
      length-append (cipher_of key iv k) (page_tag key iv [] k)
      ∙ ap₂ ◌+◌ (cipher_length key iv k ∙ m) (tag_long key iv [] (cipher_of key iv k))

  head_is : take 32 block ≡ head iv
  head_is = here parts 32 head_long

  zeros_are : part 80 428 block ≡ replicate 428 0
  zeros_are = here (down (down parts 32 head_long) 48 secret_long) 428 refl

-- ---- the store

module _ (key iv k s : List ℕ) (e : store_number key iv k s ≡ 0) where
  abbrev i : ℕ
  i = first is_empty (blocks s)

  abbrev new : List ℕ
  new = held_block key iv k

  abbrev after : List ℕ
  after = store_after key iv k s

  abbrev r : Storable key iv k s
  r = storing key iv k s e

  whole : length s % 512 ≡ 0
  whole = (kept s r.well).blocks_only

  inside : 512 * i < length s
  inside = place_inside is_empty s r.room

  long : length new ≡ 512
  long = laid_long new (held_laid key iv k r.iv_long r.stay_key_long)

  at_place : part (512 * i) 512 after ≡ new
  at_place = ap (part (512 * i) 512) (stored key iv k s e) ∙ replaced_at s i whole inside new long

  holder : holds iv (part (512 * i) 512 after) ≡ true
  holder = ap (holds iv) at_place ∙ held_holds key iv k r.iv_long r.stay_key_long

  before : take (512 * i + 32) after ≡ take (512 * i) s ++ head iv
  before =
      take-add (512 * i) 32 after
      ∙ ap₂ (λ (x y : List ℕ). x ++ y)
      (ap (take (512 * i)) (stored key iv k s e) ∙ replaced_before s i whole inside new long)
      (sym (take-take 32 512 (drop (512 * i) after) (lit≤ tt)) ∙ ap (take 32) at_place ∙ head_is key iv k r.iv_long r.stay_key_long)

  between : part (512 * i + 80) 428 after ≡ replicate 428 0
  between =
      sym (part_part after (512 * i) 512 80 428 (lit≤ tt)) ∙ ap (part 80 428) at_place ∙ zeros_are key iv k r.iv_long r.stay_key_long

  behind : drop (512 * i + 512) after ≡ drop (512 * i + 512) s
  behind = ap (drop (512 * i + 512)) (stored key iv k s e) ∙ replaced_behind s i whole inside new long

pub one_key_apart : (key iv k k' s : List ℕ) → store_number key iv k s ≡ 0 → store_number key iv k' s ≡ 0
    → OneKeyApart iv (store_after key iv k s) (store_after key iv k' s) (first is_empty (blocks s))
one_key_apart key iv k k' s e e' =
    record {
      holder = holder key iv k s e;
      before = before key iv k s e ∙ sym (before key iv k' s e');
      between = between key iv k s e ∙ sym (between key iv k' s e');
      behind = behind key iv k s e ∙ sym (behind key iv k' s e');
    }
