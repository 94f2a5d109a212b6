-- Text under keystream, as a loop writes it: byte by byte, and block by block.
use mathlib.Core.Path.{◌≡◌, refl, sym, ap, ap₂, ◌∙◌}
use mathlib.Core.List.{List}
use Prim.Native.Nat.{ℕ, ◌+◌, ◌*◌, ◌≤◌, ◌<◌, zero-le}
use native.Mathlib.Numerals.{add-one}
use native.Mathlib.Omega.{arith}
use lib.ListN.{length, take, drop, get_or, set}
use lib.Seq.{sets, drop-cons, slice, slice-cons, slice_empty, take-add}
use Rattle.words.specs.Xor.{◌⊕◌, xors}
use Rattle.words.specs.Bytes.{part}
use Rattle.words.proofs.Rows.{xors_length, xors_append}
use Rattle.words.proofs.Parts.{part_long, part_more}
use Rattle.words.proofs.Writing.{put_next, read_written}
use Rattle.cipher.specs.Registers.{Registers, IsRegisters}
use Rattle.cipher.specs.Run.{forward, blocks}
use Rattle.cipher.proofs.Moves.{blocks_length}
use Rattle.digest.proofs.Slices.{slice_take}
use Rattle.pass.specs.Inner.{under_blocks}

-- ---- byte by byte: into l from place j on, text from place i on, under key bytes from place k on

pub mask_turn : (l p key : List ℕ) (j k i to c : ℕ) → k < length key → i < to → to ≤ length p → c ≡ get_or p i 0 ⊕ get_or key k 0
    → sets (set l j c) (j + 1) (xors (slice (i + 1) to p) (drop (k + 1) key)) ≡ sets l j (xors (slice i to p) (drop k key))
unfolding xors
mask_turn l p key j k i to c hk hi ht e = rw (add-one j, add-one k, add-one i, slice-cons i to p 0 hi ht, drop-cons key k 0 hk, e)

pub mask_end : (l p key : List ℕ) (j k to : ℕ) → sets l j (xors (slice to to p) (drop k key)) ≡ l
unfolding xors
mask_end l p key j k to = rw (slice_empty to p)

-- ---- blocks of the input under keystream

-- of the n blocks from a place on i are done
pub record Under (p key o : List ℕ) (from n i : ℕ) (out : List ℕ) : Type 0 where
  pub at_most : i ≤ n
  pub written : out ≡ sets o from (xors (part from (16 * i) p) (take (16 * i) key))

module _ (p key o : List ℕ) (from n : ℕ) where
  pub under_none : Under p key o from n 0 o
  unfolding xors
  under_none = record { at_most = zero-le; written = refl }

  pub under_turn : from + 16 * n ≤ length p → 16 * n ≤ length key → (i : ℕ) {out c out' : List ℕ} → i < n → Under p key o from n i out
      → c ≡ xors (part (from + 16 * i) 16 p) (part (16 * i) 16 key) → out' ≡ sets out (from + 16 * i) c → Under p key o from n (i + 1) out'
  under_turn read long i {out} {c} {out'} lt m ec eo =
      let at = from + 16 * i in
      let v = xors (part from (16 * i) p) (take (16 * i) key) in
      let kp = part_long p from (16 * i) (omega arith) in
      let kk = part_long key 0 (16 * i) (omega arith) in
      let kv : length v ≡ 16 * i = xors_length (part from (16 * i) p) (take (16 * i) key) (kp ∙ sym kk) ∙ kp in
      let e : 16 * (i + 1) ≡ 16 * i + 16 = omega arith in
      record {
        at_most = omega arith;
        written = put_next o v (xors (part at 16 p) (part (16 * i) 16 key)) from at (omega arith) m.written (eo ∙ ap (sets out at) ec)
            ∙ ap (sets o from) (sym (xors_append (part from (16 * i) p) (take (16 * i) key) (part at 16 p) (part (16 * i) 16 key) (kp ∙ sym kk))
            ∙ ap₂ xors (sym (part_more p from (16 * i) 16)) (sym (take-add (16 * i) 16 key))
            ∙ ap (λ (k : ℕ). xors (part from k p) (take k key)) (sym e));
      }

-- under k blocks that were drawn
pub under_drawn : (p o key : List ℕ) (r : Registers) (i k : ℕ) {key₁ o₁ : List ℕ} → IsRegisters r → 16 * k ≤ length key
    → key₁ ≡ sets key 0 (blocks forward k r) → o₁ ≡ sets o i (xors (part i (16 * k) p) (take (16 * k) key₁))
    → o₁ ≡ sets o i (under_blocks r k (slice i (i + 16 * k) p))
under_drawn p o key r i k {key₁} {o₁} g room ek eo =
    let stands : take (16 * k) key₁ ≡ blocks forward k r = ap (take (16 * k)) ek ∙ read_written key 0 (16 * k) (blocks forward k r) (blocks_length forward k r g) (omega arith) in
    eo ∙ ap₂ (λ (l v : List ℕ). sets o i (xors l v)) (sym (slice_take i (16 * k) p)) stands
