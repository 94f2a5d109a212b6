-- What the types of the code say of bytes and of blocks: every value of a list of bytes is one, so is what a function knows of a slice that it was lent, and
-- the words of every block have 32 bits.
use Rattle.std.proofs.Common.{◌≡◌, ℕ, List, get_or, w8, w32, Fits, rules}
use borrow.Author.Rules.{elem_Fits}
use mir.Val.{Val}
use denote.Array.{each}
use denote.Plain.{UInt}
use denote.Shadow.{shadow}
use Rattle.words.specs.declared.Block.{Block}
use Rattle.words.specs.Machine.{bytes_of}
use Rattle.words.specs.contracts.Block.{the_row}
use Rattle.words.proofs.Rows.{Below}
use Rattle.words.proofs.Blocks.{Words, bytes_of_one}

-- lent slices of bytes are lists of such values
pub every_byte : (s : List ℕ) (vs : List Val) → shadow (each ℕ (UInt w8).own_val s vs) → Below 256 s
every_byte s vs h i = (elem_Fits w8 w8 s vs i h tt).fits

-- the same from what is known at the entry of a function that was lent the slice
pub known_bytes : (s : List ℕ) → ((i : ℕ) → Fits w8 (get_or s i 0)) → Below 256 s
known_bytes s k i = (k i).fits

pub every_block : (x : Block) (vs : List Val) → shadow (the_row.own_val x vs) → Words x
every_block x vs h =
    let f0 : Fits w32 x.w0 = search rules in
    let f1 : Fits w32 x.w1 = search rules in
    let f2 : Fits w32 x.w2 = search rules in
    let f3 : Fits w32 x.w3 = search rules in
    record { in_0 = f0.fits; in_1 = f1.fits; in_2 = f2.fits; in_3 = f3.fits }

-- the view determines the block
pub block_one : (x y : Block) (vs ws : List Val) → shadow (the_row.own_val x vs) → shadow (the_row.own_val y ws) → bytes_of x ≡ bytes_of y → x ≡ y
block_one x y vs ws p q = bytes_of_one x y (every_block x vs p) (every_block y ws q)
