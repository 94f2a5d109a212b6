-- Sealing in one pass (document 02, S-3): a text is gone over once, and each block of its ciphertext is written and hashed as it is made. Ciphertext and hash are
-- those of the SNOW-V paper, section 4, and of SP 800-38D, sections 6.4 and 7.1; which they are of a page, crates/page/specs/OnePass.antt says. Nothing here speaks
-- of a session.
use Rattle.std.specs.Prelude.{ℕ, ◌+◌, ◌*◌, ◌%◌, ◌≡◌, List, ◌++◌, length, take}
use Rattle.std.proofs.lemmas.List.Edits.{sets}
use Rattle.words.specs.Xor.{xors}
use Rattle.words.specs.Bytes.{part}
use Rattle.ghash.specs.Hash.{hash_from, padded}
use Rattle.cipher.specs.Registers.{Registers, IsRegisters}
use Rattle.cipher.specs.Run.{forward, blocks}

-- What a pass is to make.
pub record Pass : Type 0 where
  -- H
  pub h : List ℕ
  -- the hash from which it goes on, and what is hashed from there before the ciphertext: on a page the zero block and the padded data
  pub hash : List ℕ
  pub before : List ℕ
  -- the whole ciphertext
  pub cipher : List ℕ
  -- the output as it was lent, and the place in it where the ciphertext goes
  pub lent : List ℕ
  pub at : ℕ

-- After n blocks of it, with the output `out` and the hash y.
pub record SoFar (p : Pass) (n : ℕ) (out y : List ℕ) : Type 0 where
  -- the ciphertext written so far is the front of the whole, and no other byte of the output has changed
  pub written : out ≡ sets p.lent p.at (take (16 * n) p.cipher)
  -- the hash so far is that of what comes before and of this front, padded where its last block is short
  pub hashed : y ≡ hash_from p.h p.hash (p.before ++ padded (take (16 * n) p.cipher))

-- n blocks of a text, from place `from` on, under the keystream from the registers s on, are the blocks of a pass from its block b on. The last of them may be
-- short.
pub record Next (p : Pass) (b : ℕ) (h : List ℕ) (s : Registers) (text : List ℕ) (from n : ℕ) : Type 0 where
  -- the same H
  pub same_h : p.h ≡ h
  -- what is hashed before is whole blocks
  pub whole : length p.before % 16 ≡ 0
  -- the place in the text is the place in the output
  pub place : from ≡ p.at + 16 * b
  -- their ciphertext is the text under the keystream
  pub cipher : part (16 * b) (16 * n) p.cipher ≡ xors (part from (16 * n) text) (blocks forward n s)

-- What the loops that seal keep true after every block, and what they end in: i of those n blocks are made, the output and the hash were out₀ and y₀ and are then
-- out and y. Of every pass whose next blocks these are, if b blocks were done, then b + i are.
abbrev pub Sealed : (h : List ℕ) (s : Registers) (text : List ℕ) (from n : ℕ) (out₀ y₀ : List ℕ) (i : ℕ) (out y : List ℕ) → Type 0
Sealed h s text from n out₀ y₀ i out y = (p : Pass) (b : ℕ) → Next p b h s text from n → SoFar p b out₀ y₀ → SoFar p (b + i) out y

-- There always is one, these blocks by themselves; so that `Sealed` settles output and hash after every block. Proved: `sealed_settles`,
-- crates/pass/proofs/Sealing.antt.
abbrev pub Settles : Type 0
Settles =
    (h : List ℕ) (s : Registers) → IsRegisters s → (text : List ℕ) (from n : ℕ) (out₀ y₀ : List ℕ) (i : ℕ) (out y : List ℕ)
    → Sealed h s text from n out₀ y₀ i out y
    → (out ≡ sets out₀ from (take (16 * i) (xors (part from (16 * n) text) (blocks forward n s))))
    × (y ≡ hash_from h y₀ (padded (take (16 * i) (xors (part from (16 * n) text) (blocks forward n s)))))
