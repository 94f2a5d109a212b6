-- S-3 of document 02: sealing goes over a page once, and after every block ciphertext and hash so far are the defined ones. What is defined is Page.antt's; what a
-- pass is, and the invariant of the loops that seal, `Sealed`, is crates/pass/specs/Pass.antt's.
use Rattle.std.specs.Prelude.{ℕ, ◌+◌, ◌*◌, ◌≤◌, ◌≡◌, List, ◌++◌, length, take, drop}
use Rattle.words.specs.Bytes.{Row, IsBlock, zeros}
use Rattle.ghash.specs.Hash.{ceil16, padded, ghash}
use Rattle.cipher.specs.Run.{forward, moves}
use Rattle.start.specs.Start.{Mode.sealed, start, sealed_keystream}
use Rattle.pass.specs.Pass.{Pass, SoFar, Sealed}
use Rattle.page.specs.Page.{cipher_of}

-- the pass over a page, into the front of the output: GHASH goes from the zero block over the padded data, and then over the page's ciphertext
abbrev pub page_pass : (key iv ad text out : List ℕ) → Pass
page_pass key iv d t out =
    record { h = sealed_keystream key iv 0; hash = zeros; before = padded d; cipher = cipher_of key iv t; lent = out; at = 0 }

-- what S-3 says of one page and the output lent for it
pub record Passes (key iv ad text out : List ℕ) : Type 0 where
  -- before the first block nothing is written, and the padded data are hashed
  pub begins : SoFar (page_pass key iv ad text out) 0 out (ghash (sealed_keystream key iv 0) (padded ad))
  -- after every block: b blocks were done when a loop began on the next n, under the keystream from block 2 + b on, and of these i are made; then b + i are done
  pub every_block : (b n i : ℕ) → b + n ≤ ceil16 (length text) → (out₀ y₀ out₁ y₁ : List ℕ)
      → Sealed (sealed_keystream key iv 0) (moves forward (2 + b) (start key iv sealed)) text (16 * b) n out₀ y₀ i out₁ y₁
      → SoFar (page_pass key iv ad text out) b out₀ y₀ → SoFar (page_pass key iv ad text out) (b + i) out₁ y₁
  -- which says, at every count of blocks, a short last one included: the front of the page's ciphertext is written and nothing behind it, and the hash is GHASH of
  -- the padded data and that front
  pub says : (n : ℕ) → length text ≤ length out → (out₁ y₁ : List ℕ) → SoFar (page_pass key iv ad text out) n out₁ y₁
      → (out₁ ≡ take (16 * n) (cipher_of key iv text) ++ drop (length (take (16 * n) text)) out)
      × (y₁ ≡ ghash (sealed_keystream key iv 0) (padded ad ++ padded (take (16 * n) (cipher_of key iv text))))

-- every page, whatever its data, its text and the output. Proved: `one_pass`, crates/page/proofs/OnePass.antt
abbrev pub OnePass : Type 0
OnePass = (key iv ad text out : List ℕ) → Row 32 256 key → IsBlock iv → Passes key iv ad text out
