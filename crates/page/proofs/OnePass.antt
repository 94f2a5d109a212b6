-- The ciphertext of a page, block by block, is the text under as many blocks of keystream; so the blocks that a seal makes are those of the page's pass, and after every
-- one of them the pass has come one block on.
use mathlib.Core.Path.{◌≡◌, refl, sym, ap, ap₂, ◌∙◌}
use mathlib.Core.List.{List, [], ◌∷◌, ◌++◌, append-nil}
use Prim.Native.Nat.{ℕ, zero, suc, ◌+◌, ◌*◌, ◌/◌, ◌%◌, ◌≤◌, ◌<◌, min}
use native.Mathlib.Omega.{arith}
use lib.ListN.{length, take, drop, length-take, length-drop, take-append-drop}
use lib.Seq.{drop-cons, take_all, length-take-le}
use Rattle.words.specs.Xor.{xors}
use Rattle.words.specs.Bytes.{Row, IsBlock, zeros}
use Rattle.words.proofs.Rows.{xors_append}
use Rattle.words.proofs.Writing.{put_front}
use Rattle.ghash.specs.Hash.{lengths, eat, hash_from, ceil16, padded, ghash}
use Rattle.ghash.proofs.Padding.{padded_whole}
use Rattle.cipher.specs.Registers.{Registers}
use Rattle.cipher.specs.Step.{z}
use Rattle.cipher.specs.Run.{forward, made, moves, zs, blocks}
use Rattle.cipher.proofs.Moves.{moves_add, blocks_more, blocks_length}
use Rattle.start.specs.Start.{Mode.sealed, start, sealed_keystream}
use Rattle.start.proofs.Undo.{drawn_good}
use Rattle.pass.specs.Pass.{SoFar, Next}
use Rattle.pass.proofs.Sealing.{next_part}
use Rattle.page.specs.Page.{encrypted, cipher_of, page_tag}
use Rattle.page.specs.OnePass.{page_pass, Passes, OnePass}
use Rattle.page.proofs.Ciphertext.{encrypted_append, cipher_length, stream_block}
use Rattle.page.proofs.Tags.{tag_by_hash}

module _ (key iv : List ℕ) (k : Row 32 256 key) (v : IsBlock iv) where
  -- where the text's first block is drawn
  abbrev first : Registers
  first = moves forward 2 (start key iv sealed)

  -- within block j, from its byte r on
  inside : (j r : ℕ) (t : List ℕ) → r + length t ≤ 16 → encrypted key iv (16 * j + r) t ≡ xors t (drop r (sealed_keystream key iv (2 + j)))
  unfolding encrypted xors
  inside j r [] h = refl
  inside j r (b ∷ t) h =
      let e : (16 * j + r) / 16 ≡ j = omega arith in
      let f : (16 * j + r) % 16 ≡ r = omega arith in
      let g : 16 * j + r + 1 ≡ 16 * j + suc r = omega arith in
      let l = (stream_block key iv k v (2 + j)).long in
      rw (e, f, g, drop-cons (sealed_keystream key iv (2 + j)) r 0 (omega arith), inside j (suc r) t (omega arith))

  -- n blocks, the last of which may be short
  cipher_blocks : (n : ℕ) (t : List ℕ) → length t ≤ 16 * n → 16 * n < length t + 16 → cipher_of key iv t ≡ xors t (blocks forward n first)
  unfolding encrypted blocks zs xors made
  cipher_blocks zero [] h g = refl
  cipher_blocks zero (b ∷ t) h g = absurd (omega arith)
  cipher_blocks (suc n) t h g =
      let a = take (16 * n) t in
      let b = drop (16 * n) t in
      let la : length a ≡ 16 * n = length-take-le (16 * n) t (omega arith) in
      let lb : length b ≤ 16 = simp length-drop (omega arith) in
      let e : 0 + length a ≡ 16 * n + 0 = omega arith in
      let q = drawn_good key k iv sealed v 2 in
      ap (cipher_of key iv) (sym (take-append-drop (16 * n) t))
      ∙ encrypted_append key iv 0 a b
      ∙ ap₂ (λ (x y : List ℕ). x ++ y) (cipher_blocks n a (omega arith) (omega arith))
      (ap (λ (i : ℕ). encrypted key iv i b) e ∙ inside n 0 b (omega arith) ∙ ap (λ (s : Registers). xors b (z s)) (sym (moves_add forward 2 n (start key iv sealed))))
      ∙ sym (xors_append a (blocks forward n first) b (made forward (moves forward n first)) (la ∙ sym (blocks_length forward n first q)))
      ∙ ap₂ xors (take-append-drop (16 * n) t) (sym (blocks_more forward n first))

  module _ (d t out : List ℕ) where
    all_blocks : Next (page_pass key iv d t out) 0 (sealed_keystream key iv 0) first t 0 (ceil16 (length t))
    all_blocks =
        let n = cipher_length key iv t in
        record {
          same_h = refl;
          whole = padded_whole d;
          place = refl;
          cipher = take_all (16 * ceil16 (length t)) (cipher_of key iv t) (omega arith)
              ∙ cipher_blocks (ceil16 (length t)) t (omega arith) (omega arith)
              ∙ ap (λ (l : List ℕ). xors l (blocks forward (ceil16 (length t)) first)) (sym (take_all (16 * ceil16 (length t)) t (omega arith)));
        }

    next : (b n : ℕ) → b + n ≤ ceil16 (length t) → Next (page_pass key iv d t out) b (sealed_keystream key iv 0) (moves forward (2 + b) (start key iv sealed)) t (16 * b) n
    next b n h =
        let e : b ≡ 0 + b = omega arith in
        let f : 16 * b ≡ 0 + 16 * b = omega arith in
        next_part (drawn_good key k iv sealed v 2) all_blocks b n h e f (sym (moves_add forward 2 b (start key iv sealed)))

    pub passes : Passes key iv d t out
    passes =
        record {
          begins = record { written = refl; hashed = ap (hash_from (sealed_keystream key iv 0) zeros) (sym (append-nil (padded d))) };
          every_block = λ b n i h out₀ y₀ out₁ y₁ sealed begun. sealed (page_pass key iv d t out) b (next b n h) begun;
          says = λ n room out₁ y₁ so.
              let l = cipher_length key iv t in
              let e : length (take (16 * n) (cipher_of key iv t)) ≡ length (take (16 * n) t) = simp length-take (ap (λ (m : ℕ). min (16 * n) m) l) in
              let f : length (take (16 * n) t) ≤ length out = simp length-take (omega arith) in
              (so.written ∙ put_front out (take (16 * n) (cipher_of key iv t)) (length (take (16 * n) t)) e f, so.hashed);
        }

-- all blocks done: the ciphertext stands at the front of the output, and one block more makes the tag of the hash
pub pass_ends : (key iv : List ℕ) → Row 32 256 key → IsBlock iv → (d t out out₁ y : List ℕ) → length t ≤ length out
    → SoFar (page_pass key iv d t out) (0 + ceil16 (length t)) out₁ y
    → (out₁ ≡ cipher_of key iv t ++ drop (length t) out)
    × (xors (eat (sealed_keystream key iv 0) y (lengths (length d) (length t))) (sealed_keystream key iv 1) ≡ page_tag key iv d t)
pass_ends key iv k v d t out out₁ y room so =
    let c = cipher_of key iv t in
    let l = cipher_length key iv t in
    let n = 0 + ceil16 (length t) in
    let ec : take (16 * n) c ≡ c = take_all (16 * n) c (omega arith) in
    let et : take (16 * n) t ≡ t = take_all (16 * n) t (omega arith) in
    let w = (passes key iv k v d t out).says n room out₁ y so in (
      w.0 ∙ ap₂ (λ (x u : List ℕ). x ++ drop (length u) out) ec et,
      ap (λ (m : ℕ). xors (eat (sealed_keystream key iv 0) y (lengths (length d) m)) (sealed_keystream key iv 1)) (sym l)
          ∙ sym (tag_by_hash key iv d c y (w.1 ∙ ap (λ (x : List ℕ). ghash (sealed_keystream key iv 0) (padded d ++ padded x)) ec)),
    )

pub one_pass : OnePass
one_pass key iv d t out k v = passes key iv k v d t out
