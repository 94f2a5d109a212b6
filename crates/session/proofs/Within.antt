-- Bytes within one block, taken at once: the block is drawn if need be, the bytes are masked and held, and a whole block is sent on. Each part
-- of the session is followed by itself; the hash goes as the digest of the ciphertext does. A whole block is the case from place 0.
use mathlib.Core.Path.{◌≡◌, refl, sym, ap, ◌∙◌}
use mathlib.Core.List.{List, [], ◌∷◌}
use Prim.Native.Nat.{ℕ, suc, ◌+◌, ◌%◌, ◌≤◌, ◌<◌}
use native.Mathlib.Omega.{arith}
use borrow.Author.Tests.{ne_eqb}
use lib.ListN.{length, drop, get_or}
use lib.Seq.{sets, drop-cons}
use Rattle.words.specs.Xor.{◌⊕◌, xors}
use Rattle.cipher.specs.Step.{z}
use Rattle.cipher.specs.Run.{forward}
use Rattle.cipher.specs.State.{moved}
use Rattle.digest.specs.Sum.{Sum}
use Rattle.digest.specs.Digest.{absorb}
use Rattle.digest.proofs.Pieces.{absorb_inside, absorb_fills}
use Rattle.session.specs.Session.{Session}
use Rattle.session.specs.Pieces.{byte_current, byte_out, byte_taken, text_taken, text_out}
use Rattle.session.specs.Inner.{ready, masked, counted, sent_on, held}
use Rattle.session.proofs.Pieces.{out_length, text_count, text_phase, text_ad, text_h, text_pad, text_iv, text_sum}

-- ---- the block in use

pub ready_text : (s : Session) → (ready s).text ≡ s.text
unfolding ready
ready_text s = refl

pub ready_inside : (s : Session) → (s.text % 16 ≡ 0 → ⊥) → ready s ≡ s
unfolding ready byte_current
ready_inside s e = rw (ne_eqb (s.text % 16) 0 e)

-- a session with a block drawn
abbrev pub drawn : Session → Session
drawn s =
    record {
      phase = s.phase;
      ad = s.ad;
      text = s.text;
      state = moved forward 1 s.state;
      h = s.h;
      pad = s.pad;
      current = z s.state.registers;
      sum = s.sum;
      iv = s.iv;
    }

pub ready_start : (s : Session) → s.text % 16 ≡ 0 → ready s ≡ drawn s
unfolding ready byte_current
ready_start s e = rw e

-- ---- byte by byte within it

-- a block is drawn for the first byte at most
pub drawn_once : (s : Session) (p : List ℕ) → 0 < length p → s.text % 16 + length p ≤ 16
    → ((text_taken s p).state ≡ (ready s).state) × ((text_taken s p).current ≡ (ready s).current)
unfolding text_taken byte_taken ready
drawn_once s [] z h = absurd (omega arith)
drawn_once s (b ∷ []) z h = (refl, refl)
drawn_once s (b ∷ d ∷ p) z h =
    let u = byte_taken s b in
    let e = drawn_once u (d ∷ p) (omega arith) (omega arith) in
    let f = ready_inside u (omega arith) in
    (e.0 ∙ ap (λ (v : Session). v.state) f, e.1 ∙ ap (λ (v : Session). v.current) f)

mask_cons : (s : Session) (b : ℕ) (p : List ℕ) → length s.current ≡ 16
    → masked s (b ∷ p) ≡ (b ⊕ get_or s.current (s.text % 16) 0) ∷ xors p (drop (suc (s.text % 16)) s.current)
unfolding xors
mask_cons s b p n = rw (drop-cons s.current (s.text % 16) 0 (omega arith))

pub within_out : (s : Session) (p : List ℕ) → 0 < length p → length (ready s).current ≡ 16 → s.text % 16 + length p ≤ 16
    → text_out s p ≡ masked (ready s) p
unfolding text_out byte_out byte_taken ready xors
within_out s [] z n h = absurd (omega arith)
within_out s (b ∷ []) z n h = sym (mask_cons (ready s) b [] n)
within_out s (b ∷ d ∷ p) z n h =
    let u = byte_taken s b in
    let f = ready_inside u (omega arith) in
    let m : (s.text + 1) % 16 ≡ suc (s.text % 16) = omega arith in
    ap (λ (l : List ℕ). byte_out s b ∷ l)
    (within_out u (d ∷ p) (omega arith) (ap (λ (v : Session). length v.current) f ∙ n) (omega arith) ∙ ap (λ (v : Session). masked v (d ∷ p)) f ∙ rw m)
    ∙ sym (mask_cons (ready s) b (d ∷ p) n)

-- ---- at once

module _ (s : Session) (p : List ℕ) (some : 0 < length p) (long : length (ready s).current ≡ 16) (inside : s.text % 16 + length p ≤ 16) where
  -- all but the hash
  all_but : (y : Sum) → (text_taken s p).sum ≡ y → text_taken s p ≡ counted (ready s) (s.text + length p) y
  unfolding ready
  all_but y e =
      let d = drawn_once s p some inside in
      λ i. record {
        phase = text_phase s p i;
        ad = text_ad s p i;
        text = text_count s p i;
        state = d.0 i;
        h = text_h s p i;
        pad = text_pad s p i;
        current = d.1 i;
        sum = e i;
        iv = text_iv s p i;
      }

  hashed : (text_taken s p).sum ≡ absorb s.h s.sum s.text (masked (ready s) p)
  hashed = text_sum s p ∙ ap (absorb s.h s.sum s.text) (within_out s p some long inside)

  pub masked_long : length (masked (ready s) p) ≡ length p
  masked_long = ap length (sym (within_out s p some long inside)) ∙ out_length s p

  -- the block stays open
  pub within_few : s.text % 16 + length p < 16 → text_taken s p ≡ held (ready s) p
  unfolding held ready
  within_few h = all_but _ (hashed ∙ absorb_inside s.h s.sum s.text (masked (ready s) p) (rw masked_long h))

  -- the block is full
  pub within_full : s.text % 16 + length p ≡ 16
      → text_taken s p ≡ sent_on (ready s) (sets (ready s).sum.pending ((ready s).text % 16) (masked (ready s) p)) (length p)
  unfolding ready
  within_full h = all_but _ (hashed ∙ absorb_fills s.h s.sum s.text (masked (ready s) p) (rw masked_long h))

-- ---- a whole block

module _ (s : Session) (p : List ℕ) (start : s.text % 16 ≡ 0) (n : length p ≡ 16) (long : length (z s.state.registers) ≡ 16) where
  at_start : ready s ≡ drawn s
  at_start = ready_start s start

  drawn_long : length (ready s).current ≡ 16
  drawn_long = ap (λ (v : Session). length v.current) at_start ∙ long

  pub block_out : text_out s p ≡ xors p (z s.state.registers)
  block_out = within_out s p (omega arith) drawn_long (omega arith) ∙ ap (λ (v : Session). masked v p) at_start ∙ rw start
