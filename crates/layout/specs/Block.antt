-- The block of a suspended session (document 01, "Sessions and parking": "Park (7, 4) writes 512 bytes, numbers low byte first"): what it keeps,
-- its bytes, and what is read from bytes. Cells and blocks are as in a cipher state, hash and bytes not yet hashed as in `digest`. Which bytes
-- are a block of this kind is said by the layout rules, in Rules.antt.
use Rattle.std.specs.Prelude.{ℕ, List, [], ◌∷◌, ◌++◌, get_or, replicate}
use Rattle.words.specs.Bytes.{little, number, littles, numbers, part}
use Rattle.fields.specs.Fields.{checked}
use Rattle.cipher.specs.Registers.{Registers}
use Rattle.digest.specs.Sum.{Sum}

-- what a block says of a session: the IV, H, the end pad and the current keystream block are not in it, since they come from walking back
pub record Suspended : Type 0 where
  -- 0 data, 1 text
  pub phase : ℕ
  -- bytes of associated data and of text so far
  pub ad : ℕ
  pub text : ℕ
  pub registers : Registers
  -- the hash so far, and the bytes not yet hashed
  pub sum : Sum

-- a0 to a15, b0 to b15, R1, R2, R3: 112 bytes
unfoldable pub registers_bytes : Registers → List ℕ
registers_bytes s = littles 2 s.lfsr.a ++ littles 2 s.lfsr.b ++ s.r1 ++ s.r2 ++ s.r3

-- the registers that 112 bytes list
unfoldable pub registers_at : List ℕ → Registers
registers_at s =
    record {
      lfsr = record { a = numbers 2 16 (part 0 32 s); b = numbers 2 16 (part 32 32 s) };
      r1 = part 64 16 s;
      r2 = part 80 16 s;
      r3 = part 96 16 s;
    }

-- bytes 0 to 507: 0 phase; 4-7 data length; 8-11 text length; 16-127 the registers; 128-143 hash so far; 144-159 bytes not yet hashed, from
-- the left. "All other bytes are zero."
unfoldable pub body : Suspended → List ℕ
body k =
    (k.phase ∷ [])
    ++ replicate 3 0
    ++ little 4 k.ad
    ++ little 4 k.text
    ++ replicate 4 0
    ++ registers_bytes k.registers
    ++ k.sum.hash
    ++ k.sum.pending
    ++ replicate 348 0

-- and 508-511 check
unfoldable pub block_of : Suspended → List ℕ
block_of k = checked (body k)

-- what is read from bytes
unfoldable pub read : List ℕ → Suspended
read b =
    record {
      phase = get_or b 0 0;
      ad = number (part 4 4 b);
      text = number (part 8 4 b);
      registers = registers_at (part 16 112 b);
      sum = record { hash = part 128 16 b; pending = part 144 16 b };
    }
