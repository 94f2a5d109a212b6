-- What is read from a place's bytes is the stay's, and what is lent of a place is back.
use mathlib.Core.Path.{◌≡◌, sym, ap, ap₂, ◌∙◌}
use mathlib.Core.List.{List, [], ◌++◌, append-nil, append_assoc}
use Prim.Native.Nat.{ℕ, ◌+◌, ◌*◌, ◌≤◌}
use native.Mathlib.Omega.{arith}
use borrow.Rule.Slice.PartMut.{put_mid}
use lib.ListN.{length, take, drop, drop_of_length-le}
use lib.Seq.{sets, sets-eq, drop-drop, take-take}
use Rattle.words.specs.Bytes.{part, number}
use Rattle.words.proofs.Parts.{part_long, part_part}
use Rattle.bytes_c.specs.SessionBytes.{session_in}
use Rattle.scheduler.specs.Scheduler.{iv_of}
use Rattle.scheduler.specs.Bytes.{stay_in}
use Rattle.scheduler.specs.Inner.{stay_at}

module _ (b : List ℕ) (i : ℕ) where
  -- a place, counted from behind the head
  pub place_there : stay_in (part (256 * i) 256 (drop 16 b)) ≡ stay_at b i
  place_there = ap (λ (r : List ℕ). stay_in (take 256 r)) (drop-drop (256 * i) 16 b)

  pub at_iv : part (16 + 256 * i + 224) 16 b ≡ iv_of (stay_at b i)
  unfolding stay_in session_in
  at_iv =
      sym (part_part b (16 + 256 * i) 240 224 16 (omega arith))
      ∙ ap (part 224 16) (sym (part_part b (16 + 256 * i) 256 0 240 (omega arith) ∙ ap (λ (k : ℕ). part k 240 b) (let e : 16 + 256 * i + 0 ≡ 16 + 256 * i = omega arith in e)))

  pub at_left : number (part (16 + 256 * i + 240) 8 b) ≡ (stay_at b i).left
  unfolding stay_in
  at_left = ap number (sym (part_part b (16 + 256 * i) 256 240 8 (omega arith)))

  pub at_mark : number (part (16 + 256 * i + 248) 8 b) ≡ (stay_at b i).mark
  unfolding stay_in
  at_mark = ap number (sym (part_part b (16 + 256 * i) 256 248 8 (omega arith)))

  pub at_session : part (16 + 256 * i) 240 b ≡ (stay_at b i).session
  unfolding stay_in
  at_session = sym (take-take 240 256 (drop (16 + 256 * i) b) (omega arith))

-- k bytes that were lent, with v in their front, where v fills them
pub filled : (s v y : List ℕ) (at k : ℕ) → k ≡ 240 → at + 240 ≤ length s → y ≡ v ++ drop 240 (take k (drop at s)) → length y ≡ length (take k (drop at s))
    → (put_mid at k s y ≡ sets s at v) × (length v ≡ 240)
filled s v y at k e h p l =
    let n : length (part at 240 s) ≡ 240 = part_long s at 240 h in
    let none : drop 240 (take k (drop at s)) ≡ [] = ap (λ (m : ℕ). drop 240 (take m (drop at s))) e ∙ drop_of_length-le (part at 240 s) {i = 240} (omega (arith, n)) in
    let q : y ≡ v = p ∙ ap (λ (r : List ℕ). v ++ r) none ∙ append-nil v in
    let m : length v ≡ 240 = ap length (sym q) ∙ l ∙ ap (λ (j : ℕ). length (take j (drop at s))) e ∙ n in (
      ap₂ (λ (r : List ℕ) (j : ℕ). take at s ++ (r ++ drop j (drop at s))) q (e ∙ sym m)
          ∙ ap (λ (r : List ℕ). take at s ++ (v ++ r)) (drop-drop (length v) at s)
          ∙ sym (append_assoc (take at s) v (drop (at + length v) s))
          ∙ sym (sets-eq v s at (omega (arith, m))),
      m,
    )
