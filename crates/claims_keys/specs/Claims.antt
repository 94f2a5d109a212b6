-- What is claimed of key stores (document 02, S-6), for every store, every number and every list of calls, refused ones included, over the definitions that the
-- contracts of `key_store` name. proofs/Claimed.antt proves it.
use Rattle.std.specs.Prelude.{ℕ, suc, ◌+◌, ◌*◌, ◌↔◌, ◌≡◌, true, false, List, length, take, drop, replicate}
use Rattle.scope.specs.Refusals.{number_taken, no_key}
use Rattle.words.specs.Bytes.{part}
use Rattle.fields.specs.Blocks.{blocks}
use Rattle.key_store.specs.Store.{is_empty, present, holds, any, first, well_kept}
use Rattle.key_store.specs.Calls.{store_number, store_after, fetch_number, fetch_key, erase_number, erase_after}
use Rattle.claims_keys.specs.Lists.{Call, after, never_erases, never_names, accepted, apart, AllAlike}

-- ---- what a call asks for

pub record Storable (key iv k store : List ℕ) : Type 0 where
  pub key_long : length key ≡ 32
  pub stay_key_long : length k ≡ 32
  pub iv_long : length iv ≡ 16
  pub well : well_kept store ≡ true
  pub absent : any (present iv) (blocks store) ≡ false
  pub room : any is_empty (blocks store) ≡ true

pub record Erasable (iv store : List ℕ) : Type 0 where
  pub iv_long : length iv ≡ 16
  pub well : well_kept store ≡ true
  pub there : any (holds iv) (blocks store) ≡ true

-- ---- what is known of a number's key

-- a number's key is fetched from a store, and is k
pub record Fetches (key iv store k : List ℕ) : Type 0 where
  pub answer : fetch_number key iv store ≡ 0
  pub fetched : fetch_key key iv store ≡ k

-- under every key a number is fetched from two stores alike
pub record SameFetch (iv store store' : List ℕ) : Type 0 where
  pub answer : (key : List ℕ) → fetch_number key iv store ≡ fetch_number key iv store'
  pub fetched : (key : List ℕ) → fetch_key key iv store ≡ fetch_key key iv store'

-- a number has no key in a store and gets none again
pub record Gone (iv store : List ℕ) : Type 0 where
  pub fetch : (key : List ℕ) → length key ≡ 32 → fetch_number key iv store ≡ no_key
  pub erase : erase_number iv store ≡ no_key
  pub never_again : (key k : List ℕ) → length key ≡ 32 → length k ≡ 32 → store_number key iv k store ≡ number_taken

-- two stores differ only in a stay's key: block i of the first holds it, and all bytes but the sealed key (32-63), the tag (64-79) and the check (508-511) of
-- that block are those of the second
pub record OneKeyApart (iv store store' : List ℕ) (i : ℕ) : Type 0 where
  pub holder : holds iv (part (512 * i) 512 store) ≡ true
  pub before : take (512 * i + 32) store ≡ take (512 * i + 32) store'
  pub between : part (512 * i + 80) 428 store ≡ part (512 * i + 80) 428 store'
  pub behind : drop (512 * i + 512) store ≡ drop (512 * i + 512) store'

pub record KeyClaims : Type 0 where
  -- a key is stored exactly if both keys and the number have their lengths, the store obeys the rules, does not have the number and has an empty block; one is
  -- erased exactly if the number has its length, the store obeys the rules, and holds it
  pub stores : (key iv k s : List ℕ) → (store_number key iv k s ≡ 0) ↔ Storable key iv k s
  pub erases : (iv s : List ℕ) → (erase_number iv s ≡ 0) ↔ Erasable iv s
  -- zero blocks, as many as one likes, are a store that obeys the rules, and where there is one it takes a key
  pub empty_kept : (n : ℕ) → well_kept (replicate (512 * n) 0) ≡ true
  pub first_key : (n : ℕ) (key iv k : List ℕ) → length key ≡ 32 → length iv ≡ 16 → length k ≡ 32 → store_number key iv k (replicate (512 * suc n) 0) ≡ 0
  -- what calls leave is as long as what they were lent, and obeys the rules if that did
  pub same_length : (cs : List Call) (s : List ℕ) → length (after cs s) ≡ length s
  pub kept : (cs : List Call) (s : List ℕ) → well_kept s ≡ true → well_kept (after cs s) ≡ true
  -- what was stored is fetched, from every store and after every list of calls that does not erase it
  pub stored_fetched : (key iv k s : List ℕ) → store_number key iv k s ≡ 0 → (cs : List Call) → never_erases iv cs ≡ true
      → Fetches key iv (after cs (store_after key iv k s)) k
  -- what is done with other numbers changes no fetch
  pub others_stay : (iv : List ℕ) (cs : List Call) (s : List ℕ) → never_names iv cs ≡ true → SameFetch iv (after cs s) s
  -- so that after an erasure every other stay's fetch is as it was
  pub erase_others : (iv v s : List ℕ) → ¬ (v ≡ iv) → SameFetch v (erase_after iv s) s
  -- an erased number stays erased, whatever is called then
  pub erased_gone : (iv s : List ℕ) → erase_number iv s ≡ 0 → (cs : List Call) → Gone iv (after cs (erase_after iv s))
  -- erasing leaves nothing of the key: two stores that obey the rules and differ only in it are equal afterwards, byte for byte
  pub nothing_left : (iv s s' : List ℕ) (i : ℕ) → well_kept s ≡ true → well_kept s' ≡ true → OneKeyApart iv s s' i
      → (erase_number iv s ≡ 0) × ((erase_number iv s' ≡ 0) × (erase_after iv s ≡ erase_after iv s'))
  -- two keys stored for one number make two such stores,
  pub one_key_apart : (key iv k k' s : List ℕ) → store_number key iv k s ≡ 0 → store_number key iv k' s ≡ 0
      → OneKeyApart iv (store_after key iv k s) (store_after key iv k' s) (first is_empty (blocks s))
  -- and so, after an erasure, no byte of the store tells which key was stored: two lists of the same calls from one store, but for that stay's key, leave stores
  -- on which the erasure is answered alike and that are equal behind it
  pub same_after_erase : (iv : List ℕ) (cs cs' : List Call) → AllAlike iv cs cs' → (s : List ℕ)
      → (erase_number iv (after cs s) ≡ erase_number iv (after cs' s)) × (erase_after iv (after cs s) ≡ erase_after iv (after cs' s))
  -- no number is ever sealed twice in one store: accepted stores have different numbers, and none that was there before
  pub never_twice : (cs : List Call) (s : List ℕ) → apart (accepted cs s) ≡ true
  pub none_present : (cs : List Call) (s : List ℕ) → any (λ (v : List ℕ). any (present v) (blocks s)) (accepted cs s) ≡ false
