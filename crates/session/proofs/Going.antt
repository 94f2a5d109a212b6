-- A piece on its way, done up to place i: session and output are what the definition makes of its front. The loop over blocks and the chain of
-- head, blocks and tail both go by it.
use mathlib.Core.Path.{◌≡◌, refl, sym, ap, ap₂, ◌∙◌}
use mathlib.Core.List.{List, ◌++◌}
use Prim.Native.Nat.{ℕ, ◌+◌, ◌-◌, ◌*◌, ◌/◌, ◌%◌, ◌≤◌, ◌<◌}
use native.Mathlib.Nat.{zero-add, le_refl, le_trans}
use native.Mathlib.Omega.{arith}
use lib.ListN.{length, drop}
use lib.Seq.{sets, sets-eq, length-sets, slice, slice_empty, length-slice}
use Rattle.words.proofs.Rows.{sets_append}
use Rattle.digest.proofs.Slices.{slice_split, slice_all, head_of, tail_of}
use Rattle.session.specs.Session.{Session}
use Rattle.session.specs.Pieces.{text_taken, text_out}
use Rattle.session.proofs.Pieces.{text_none, out_none, text_append, out_append, out_length, text_count, draws_few, text_h}

-- the session was s and the output o; they are u and out
pub record Going (s : Session) (p o : List ℕ) (from to : ℕ) (out : List ℕ) (u : Session) (i : ℕ) : Type 0 where
  pub since : from ≤ i
  pub bound : i ≤ to
  pub counts : u.text + (to - i) ≡ s.text + (to - from)
  pub draws : u.state.count + (to - i) ≤ s.state.count + (to - from)
  pub key : u.h ≡ s.h
  pub size : length out ≡ length o
  pub session : u ≡ text_taken s (slice from i p)
  pub output : out ≡ sets o from (text_out s (slice from i p))

pub none : (s : Session) (p o : List ℕ) (from to : ℕ) → from ≤ to → Going s p o from to o s from
none s p o from to h =
    record {
      since = le_refl from;
      bound = h;
      counts = refl;
      draws = le_refl _;
      key = refl;
      size = refl;
      session = sym (ap (text_taken s) (slice_empty from p) ∙ text_none s);
      output = sym (ap (sets o from) (ap (text_out s) (slice_empty from p) ∙ out_none s));
    }

module _ {s : Session} {p o : List ℕ} {from to : ℕ} {out : List ℕ} {u : Session} {i : ℕ} (g : Going s p o from to out u i) where
  -- the part from i up to m is done
  pub more : (out' : List ℕ) (u' : Session) (m : ℕ) → i ≤ m → m ≤ to → to ≤ length p → u' ≡ text_taken u (slice i m p)
      → out' ≡ sets out i (text_out u (slice i m p)) → Going s p o from to out' u' m
  more out' u' m him hmt ht eu eo =
      let a = slice from i p in
      let b = slice i m p in
      let cut : slice from m p ≡ a ++ b = slice_split from i m p g.since him (le_trans hmt ht) in
      let n : length b ≡ m - i = length-slice i m p (omega arith) in
      let w : length (text_out s a) ≡ i - from = out_length s a ∙ length-slice from i p (omega (arith, g.bound)) in
      let at : i ≡ from + length (text_out s a) = omega (arith, g.since) in
      let x : u'.text ≡ u.text + (m - i) = ap (λ (v : Session). v.text) eu ∙ text_count u b ∙ ap (λ (k : ℕ). u.text + k) n in
      let f = draws_few u b in
      let y : u'.state.count ≤ u.state.count + (m - i) = rw (ap (λ (v : Session). v.state.count) eu, ← n) f in
      record {
        since = le_trans g.since him;
        bound = hmt;
        counts = omega (arith, x, g.counts, g.bound);
        draws = omega (arith, y, g.draws, g.bound);
        key = ap (λ (v : Session). v.h) eu ∙ text_h u b ∙ g.key;
        size = ap length eo ∙ length-sets out i (text_out u b) ∙ g.size;
        session = eu ∙ ap (λ (v : Session). text_taken v b) g.session ∙ sym (text_append s a b) ∙ ap (text_taken s) (sym cut);
        output = eo ∙ ap₂ (λ (l : List ℕ) (v : Session). sets l i (text_out v b)) g.output g.session
            ∙ ap (λ (j : ℕ). sets (sets o from (text_out s a)) j (text_out (text_taken s a) b)) at
            ∙ sym (sets_append o from (text_out s a) (text_out (text_taken s a) b)) ∙ ap (sets o from) (sym (out_append s a b) ∙ ap (text_out s) (sym cut));
      }

  pub all_session : i ≡ to → u ≡ text_taken s (slice from to p)
  all_session e = g.session ∙ ap (λ (k : ℕ). text_taken s (slice from k p)) e

  pub all_output : i ≡ to → out ≡ sets o from (text_out s (slice from to p))
  all_output e = g.output ∙ ap (λ (k : ℕ). sets o from (text_out s (slice from k p))) e

-- ---- head, blocks and tail of a piece of n bytes, at text length t

-- the length stays a u64 up to any place m
pub counted : (u t i m n k : ℕ) → i ≤ m → m ≤ n → u + (n - i) ≡ t + (n - 0) → t + (n - 0) < k → u + (m - i) < k
counted u t i m n k h g e f = omega arith

-- and so does the count
pub drawing : (u t i m n k : ℕ) → i ≤ m → m ≤ n → u + (n - i) ≤ t + (n - 0) → t + n < k → u + (m - i) < k
drawing u t i m n k h g e f = omega arith

pub record Parts (t n : ℕ) : Type 0 where
  pub at_start : (t + head_of t) % 16 ≡ 0
  pub head_tail : head_of t ≤ tail_of t n
  pub blocks : (tail_of t n - head_of t) % 16 ≡ 0
  pub tail_end : tail_of t n ≤ n
  pub tail_few : n - tail_of t n < 16

pub parts : (t n : ℕ) → head_of t ≤ n → Parts t n
parts t n h =
    let q = (n - head_of t) / 16 in
    let e : q * 16 ≤ n - head_of t = omega arith in
    let f : n - head_of t < q * 16 + 16 = omega arith in
    record { at_start = omega arith; head_tail = omega arith; blocks = omega arith; tail_end = omega arith; tail_few = omega arith }

-- u is the length once the head is done: a block's start
pub begins : (t u n : ℕ) → Parts t n → u + (n - head_of t) ≡ t + (n - 0) → u % 16 ≡ 0
begins t u n q e =
    let z = q.at_start in
    let h : head_of t ≤ n = le_trans q.head_tail q.tail_end in
    let k : u ≡ t + head_of t = omega arith in
    rw k z

-- v is the length once the blocks are done: what is left stays within a block
pub ends : (t v n : ℕ) → Parts t n → v + (n - tail_of t n) ≡ t + (n - 0) → v % 16 + (n - tail_of t n) < 16
ends t v n q e =
    let h : head_of t ≤ n = le_trans q.head_tail q.tail_end in
    let k : v ≡ t + head_of t + (n - head_of t) / 16 * 16 = omega (arith, q.tail_end) in
    let m : v % 16 ≡ 0 = rw k (omega (arith, q.at_start)) in
    omega (arith, q.tail_few)

-- ---- all of the piece, and the output behind it

pub whole : {s : Session} {p o : List ℕ} {out : List ℕ} {u : Session} {i : ℕ} → Going s p o 0 (length p) out u i → i ≡ length p → length p ≤ length o
    → (u ≡ text_taken s p) × (out ≡ text_out s p ++ drop (length p) o)
whole {s} {p} {o} g e h =
    let n = out_length s p in (
      all_session g e ∙ ap (text_taken s) (slice_all p),
      all_output g e ∙ ap (λ (l : List ℕ). sets o 0 (text_out s l)) (slice_all p) ∙ sets-eq (text_out s p) o 0 (omega arith)
          ∙ ap (λ (k : ℕ). text_out s p ++ drop k o) (zero-add (length (text_out s p)) ∙ n),
    )
