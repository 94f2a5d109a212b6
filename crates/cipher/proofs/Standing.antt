-- R1 and R2 in lanes of bytes, and R3 beside them: a turn that makes the next R1 to R3 from where the lanes stand and writes them behind leaves the
-- registers of the next step, and z comes from where they stood. Only R1 to R3 are looked at, so that a step of a start, which takes z into A as well,
-- goes by the same law.
use mathlib.Core.Path.{◌≡◌, refl, sym, ap, ap₂, subst, ◌∙◌}
use mathlib.Core.List.{List}
use Prim.Native.Nat.{ℕ, zero, suc, ◌+◌, ◌*◌, ◌≤◌, ◌<◌}
use native.Mathlib.Omega.{arith}
use native.Mathlib.Numerals.{add-one}
use lib.ListN.{length, take, drop}
use lib.Seq.{sets, length-sets, slice, length-slice, take_all}
use borrow.Author.Count.{below_more}
use Rattle.words.specs.Xor.{xors}
use Rattle.words.specs.Bytes.{littles, part}
use Rattle.words.specs.Sums.{◌⊞◌}
use Rattle.aes.specs.Round.{round}
use Rattle.lfsr.specs.Clock.{Lfsr, IsLfsr, snow_v, clocks}
use Rattle.lfsr.proofs.SnowV.{lawful_v}
use Rattle.lfsr.proofs.Back.{good_clocks}
use Rattle.cipher.specs.Registers.{Registers, IsRegisters}
use Rattle.cipher.specs.Step.{sigma, T1, T2, z, step}
use Rattle.cipher.specs.Run.{forward, move, made, moves}
use Rattle.cipher.specs.Inner.{clocked, Tapped, in_lanes}
use Rattle.cipher.proofs.Inverse.{step_good}
use Rattle.cipher.proofs.Moves.{moves_good}
use Rattle.words.proofs.Writing.{read_before, read_written}

-- the lanes hold R1 and R2 of s at a place, and r3 is its R3
pub record Standing (s : Registers) (at : ℕ) (l1 l2 r3 : List ℕ) : Type 0 where
  pub long1 : length l1 ≡ 272
  pub long2 : length l2 ≡ 272
  pub in_r1 : part at 16 l1 ≡ s.r1
  pub in_r2 : part at 16 l2 ≡ s.r2
  pub in_r3 : r3 ≡ s.r3

-- they are those that can be read there
pub standing_read : {s : Registers} {at : ℕ} {l1 l2 r3 : List ℕ} (l : Lfsr) → Standing s at l1 l2 r3 → l ≡ s.lfsr → in_lanes l l1 l2 at r3 ≡ s
standing_read l st e = λ i. record { lfsr = e i; r1 = st.in_r1 i; r2 = st.in_r2 i; r3 = st.in_r3 i }

-- what is stored at the front
pub standing_first : (s : Registers) → IsRegisters s → (l1 l2 m1 m2 : List ℕ) → length l1 ≡ 272 → length l2 ≡ 272
    → m1 ≡ sets l1 0 s.r1 → m2 ≡ sets l2 0 s.r2 → Standing s 0 m1 m2 s.r3
standing_first s g l1 l2 m1 m2 e1 e2 p q =
    record {
      long1 = ap length p ∙ length-sets l1 0 s.r1 ∙ e1;
      long2 = ap length q ∙ length-sets l2 0 s.r2 ∙ e2;
      in_r1 = ap (part 0 16) p ∙ read_written l1 0 16 s.r1 g.in_r1.long (omega arith);
      in_r2 = ap (part 0 16) q ∙ read_written l2 0 16 s.r2 g.in_r2.long (omega arith);
      in_r3 = refl;
    }

-- what the calls of a turn at a place of the lanes make: R1 to R3 of the next step, of which two are written behind, R1 before R2 is made and both before z
pub record Turned (at : ℕ) (l1 l2 r3 t1 t2 : List ℕ) (m1 m2 n3 block : List ℕ) : Type 0 where
  pub n1 : List ℕ
  pub n2 : List ℕ
  pub makes1 : n1 ≡ sigma (part at 16 l2 ⊞ xors r3 t2)
  pub makes2 : n2 ≡ round (part at 16 m1)
  pub makes3 : n3 ≡ round (part at 16 l2)
  pub writes1 : m1 ≡ sets l1 (at + 16) n1
  pub writes2 : m2 ≡ sets l2 (at + 16) n2
  pub gives : block ≡ xors (part at 16 m1 ⊞ t1) (part at 16 m2)

-- the same, by what the taps are
pub turned_by : {at : ℕ} {l1 l2 r3 t1 t2 m1 m2 n3 block : List ℕ} {u1 u2 : List ℕ} → t1 ≡ u1 → t2 ≡ u2
    → Turned at l1 l2 r3 t1 t2 m1 m2 n3 block → Turned at l1 l2 r3 u1 u2 m1 m2 n3 block
turned_by {at} {l1} {l2} {r3} {t1} {t2} {m1} {m2} {n3} {block} {u1} {u2} e1 e2 t =
    subst (λ (x : List ℕ). Turned at l1 l2 r3 x u2 m1 m2 n3 block) e1 (subst (λ (x : List ℕ). Turned at l1 l2 r3 t1 x m1 m2 n3 block) e2 t)

module _ (s : Registers) (g : IsRegisters s) (at : ℕ) {l1 l2 r3 m1 m2 n3 block : List ℕ} (st : Standing s at l1 l2 r3) (room : at + 32 ≤ 272)
    (t : Turned at l1 l2 r3 (T1 s) (T2 s) m1 m2 n3 block) where
  old_r1 : part at 16 m1 ≡ s.r1
  old_r1 = ap (part at 16) t.writes1 ∙ read_before l1 at 16 (at + 16) t.n1 (omega arith) ∙ st.in_r1

  pub turn_z : block ≡ z s
  unfolding z
  turn_z =
      t.gives
      ∙ ap₂ xors
      (ap (λ (x : List ℕ). x ⊞ T1 s) old_r1)
      (ap (part at 16) t.writes2 ∙ read_before l2 at 16 (at + 16) t.n2 (omega arith) ∙ st.in_r2)

  pub turn_stands : Standing (step s) (at + 16) m1 m2 n3
  unfolding step
  turn_stands =
      let h = step_good s g in
      let r1 : t.n1 ≡ (step s).r1 = t.makes1 ∙ ap₂ (λ (x y : List ℕ). sigma (x ⊞ y)) st.in_r2 (ap (λ (x : List ℕ). xors x (T2 s)) st.in_r3) in
      let r2 : t.n2 ≡ (step s).r2 = t.makes2 ∙ ap round old_r1 in
      let k1 : length t.n1 ≡ 16 = ap length r1 ∙ h.in_r1.long in
      let k2 : length t.n2 ≡ 16 = ap length r2 ∙ h.in_r2.long in
      let q1 = st.long1 in
      let q2 = st.long2 in
      record {
        long1 = ap length t.writes1 ∙ length-sets l1 (at + 16) t.n1 ∙ st.long1;
        long2 = ap length t.writes2 ∙ length-sets l2 (at + 16) t.n2 ∙ st.long2;
        in_r1 = ap (part (at + 16) 16) t.writes1 ∙ read_written l1 (at + 16) 16 t.n1 k1 (omega arith) ∙ r1;
        in_r2 = ap (part (at + 16) 16) t.writes2 ∙ read_written l2 (at + 16) 16 t.n2 k2 (omega arith) ∙ r2;
        in_r3 = t.makes3 ∙ ap round st.in_r2;
      }

-- ---- the sweep of A and B

pub tapped_none : (l : Lfsr) (t1 t2 : List ℕ) → length t1 ≡ 128 → length t2 ≡ 128 → Tapped l 0 t1 t2
tapped_none l t1 t2 e1 e2 = record { long1 = e1; long2 = e2; first = λ i h. absurd (omega arith); second = λ i h. absurd (omega arith) }

-- eight cells more in a lane
leave_more : (t t' v : List ℕ) (f : ℕ → List ℕ) (i : ℕ) → length t ≡ 128 → i < 16 → length v ≡ 8 → ((j : ℕ) → j < i → part (8 * j) 8 t ≡ f j)
    → t' ≡ sets t (8 * i) v → v ≡ f i → (j : ℕ) → j < i + 1 → part (8 * j) 8 t' ≡ f j
leave_more t t' v f i long h k before e now =
    below_more (λ (j : ℕ). part (8 * j) 8 t' ≡ f j) i
    (λ j l. ap (part (8 * j) 8) e ∙ read_before t (8 * j) 8 (8 * i) v (omega arith) ∙ before j l)
    (ap (part (8 * i) 8) e ∙ read_written t (8 * i) 8 v k (omega arith) ∙ now)

clocked_good : (n : ℕ) (l : Lfsr) → IsLfsr l → IsLfsr (clocked n l)
unfolding clocked
clocked_good zero l g = g
clocked_good (suc n) l g = good_clocks lawful_v 8 (clocked n l) (clocked_good n l g)

pub tapped_more : (l m : Lfsr) (t1 t2 u1 u2 : List ℕ) (i : ℕ) → i < 16 → IsLfsr l → Tapped l i t1 t2 → m ≡ clocked i l
    → u1 ≡ sets t1 (8 * i) (slice 8 16 m.b) → u2 ≡ sets t2 (8 * i) (slice 0 8 m.a) → Tapped l (i + 1) u1 u2
tapped_more l m t1 t2 u1 u2 i h g p e e1 e2 =
    let ka : length m.a ≡ 16 = ap (λ (n : Lfsr). length n.a) e ∙ (clocked_good i l g).in_a.long in
    let kb : length m.b ≡ 16 = ap (λ (n : Lfsr). length n.b) e ∙ (clocked_good i l g).in_b.long in
    let high : slice 8 16 m.b ≡ drop 8 m.b = ap (drop 8) (take_all 16 m.b (omega arith)) in
    record {
      long1 = ap length e1 ∙ length-sets t1 (8 * i) (slice 8 16 m.b) ∙ p.long1;
      long2 = ap length e2 ∙ length-sets t2 (8 * i) (slice 0 8 m.a) ∙ p.long2;
      first = leave_more t1 u1 (slice 8 16 m.b) (λ j. drop 8 (clocked j l).b) i p.long1 h (length-slice 8 16 m.b (omega arith)) p.first e1
          (high ∙ ap (λ (n : Lfsr). drop 8 n.b) e);
      second = leave_more t2 u2 (slice 0 8 m.a) (λ j. take 8 (clocked j l).a) i p.long2 h (length-slice 0 8 m.a (omega arith)) p.second e2
          (ap (λ (n : Lfsr). take 8 n.a) e);
    }

pub clocked_none : (l : Lfsr) → l ≡ clocked 0 l
unfolding clocked
clocked_none l = refl

pub clocked_more : (i : ℕ) (l m n : Lfsr) → m ≡ clocked i l → n ≡ clocks snow_v 8 m → n ≡ clocked (i + 1) l
unfolding clocked
clocked_more i l m n e f = rw (add-one i) (f ∙ ap (clocks snow_v 8) e)

pub moves_lfsr : (n : ℕ) (s : Registers) → (moves forward n s).lfsr ≡ clocked n s.lfsr
unfolding moves move step clocked
moves_lfsr zero s = refl
moves_lfsr (suc n) s = ap (clocks snow_v 8) (moves_lfsr n s)

module _ (s : Registers) (n : ℕ) (t1 t2 : List ℕ) (p : Tapped s.lfsr n t1 t2) (i : ℕ) (h : i < n) where
  pub tapped_1 : littles 2 (part (8 * i) 8 t1) ≡ T1 (moves forward i s)
  unfolding T1
  tapped_1 = ap (littles 2) (p.first i h ∙ ap (λ (l : Lfsr). drop 8 l.b) (sym (moves_lfsr i s)))

  pub tapped_2 : littles 2 (part (8 * i) 8 t2) ≡ T2 (moves forward i s)
  unfolding T2
  tapped_2 = ap (littles 2) (p.second i h ∙ ap (λ (l : Lfsr). take 8 l.a) (sym (moves_lfsr i s)))

-- ---- a batch, n steps from s on: step i has the taps that the first pass left, and a turn at 16 i leads to 16 (i + 1)

pub next_moves : (i : ℕ) (s : Registers) → moves forward (i + 1) s ≡ move forward (moves forward i s)
unfolding moves
next_moves i s = rw (add-one i)

module _ (s : Registers) (g : IsRegisters s) (n : ℕ) {t1 t2 : List ℕ} (p : Tapped s.lfsr n t1 t2) (i : ℕ) (h : i < n) (most : n ≤ 16)
    {l1 l2 r3 m1 m2 n3 block : List ℕ} (st : Standing (moves forward i s) (16 * i) l1 l2 r3)
    (t : Turned (16 * i) l1 l2 r3 (littles 2 (part (8 * i) 8 t1)) (littles 2 (part (8 * i) 8 t2)) m1 m2 n3 block) where
  its_turn : Turned (16 * i) l1 l2 r3 (T1 (moves forward i s)) (T2 (moves forward i s)) m1 m2 n3 block
  its_turn = turned_by (tapped_1 s n t1 t2 p i h) (tapped_2 s n t1 t2 p i h) t

  pub batch_z : block ≡ made forward (moves forward i s)
  unfolding made
  batch_z = turn_z (moves forward i s) (moves_good forward i s g) (16 * i) st (omega arith) its_turn

  pub batch_stands : Standing (moves forward (i + 1) s) (16 * (i + 1)) m1 m2 n3
  unfolding move
  batch_stands =
      let e : 16 * i + 16 ≡ 16 * (i + 1) = omega arith in
      rw (next_moves i s) (subst (λ (k : ℕ). Standing (step (moves forward i s)) k m1 m2 n3) e
      (turn_stands (moves forward i s) (moves_good forward i s g) (16 * i) st (omega arith) its_turn))
