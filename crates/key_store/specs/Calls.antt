-- Store, fetch and erase (document 02, S-6; its word for store is shelve): for each its number, 0 or that of the refusal in the call's order ("all follow 1, 2
-- and 8"), its result, and what stands in the lent store afterwards.
use Rattle.std.specs.Prelude.{ℕ, not, ◌||◌, List, [], eqb, length, replicate}
use Rattle.scope.specs.Refusals.{refuse, granted, key_length, iv_length, short_output, bad_tag, bad_block, number_taken, no_key}
use Rattle.words.specs.Bytes.{same}
use Rattle.fields.specs.Blocks.{blocks, replaced}
use Rattle.page.specs.Page.{cipher_of, tag_for}
use Rattle.key_store.specs.Layout.{sealed_in, tag_in, held_block, erased_block}
use Rattle.key_store.specs.Store.{is_empty, present, holds, any, first, found, well_kept}

-- ---- store

-- 1 for either key, 2, 8, "shelving a number that is present with mark 1 or 2 gives 16, then 4 if no block is empty"
unfoldable pub store_number : (key iv stay-key store : List ℕ) → ℕ
store_number key iv k s =
    refuse (not (eqb (length key) 32) || not (eqb (length k) 32)) key_length
    (refuse (not (eqb (length iv) 16)) iv_length
    (refuse (not (well_kept s)) bad_block
    (refuse (any (present iv) (blocks s)) number_taken (refuse (not (any is_empty (blocks s))) short_output 0))))

-- "Shelving takes the first empty block and changes no other"
unfoldable pub store_after : (key iv stay-key store : List ℕ) → List ℕ
store_after key iv k s = granted (store_number key iv k s) (replaced (first is_empty (blocks s)) (held_block key iv k) s) s

-- ---- fetch

-- the block that holds a number's key
abbrev pub block_for : (iv store : List ℕ) → List ℕ
block_for iv s = found (holds iv) (blocks s)

-- 1, 2, 8, "fetching or erasing one that is absent or erased gives 17, fetching then 5"
unfoldable pub fetch_number : (key iv store : List ℕ) → ℕ
fetch_number key iv s =
    refuse (not (eqb (length key) 32)) key_length
    (refuse (not (eqb (length iv) 16)) iv_length
    (refuse (not (well_kept s)) bad_block
    (refuse (not (any (holds iv) (blocks s))) no_key
    (refuse (not (same (tag_in (block_for iv s)) (tag_for key iv [] (sealed_in (block_for iv s))))) bad_tag 0))))

-- "fetching returns the key's 32 bytes as its result"; a refused fetch gives zeros in their place
unfoldable pub fetch_key : (key iv store : List ℕ) → List ℕ
fetch_key key iv s = granted (fetch_number key iv s) (cipher_of key iv (sealed_in (block_for iv s))) (replicate 32 0)

-- ---- erase

-- 2, 8, 17; "Erasing takes no key"
unfoldable pub erase_number : (iv store : List ℕ) → ℕ
erase_number iv s =
    refuse (not (eqb (length iv) 16)) iv_length
    (refuse (not (well_kept s)) bad_block (refuse (not (any (holds iv) (blocks s))) no_key 0))

-- "sets mark 2, zeros key and tag, and leaves the number and all other blocks"
unfoldable pub erase_after : (iv store : List ℕ) → List ℕ
erase_after iv s = granted (erase_number iv s) (replaced (first (holds iv) (blocks s)) (erased_block iv) s) s
