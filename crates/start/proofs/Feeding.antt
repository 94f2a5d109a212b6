-- The steps of a start in lanes: a turn as in `cipher`, of the taps that one step of the registers leaves, and then z goes into register A.
use mathlib.Core.Path.{◌≡◌, ap, ap₂, subst, ◌∙◌}
use mathlib.Core.List.{List}
use Prim.Native.Nat.{ℕ, ◌+◌, ◌*◌, ◌<◌}
use native.Mathlib.Omega.{arith}
use native.Mathlib.Numerals.{add-one}
use Rattle.words.specs.Bytes.{littles, part}
use Rattle.lfsr.specs.Clock.{Lfsr, snow_v, clocks}
use Rattle.cipher.specs.Registers.{Registers, IsRegisters}
use Rattle.cipher.specs.Step.{T1, T2, step}
use Rattle.cipher.specs.Run.{moves}
use Rattle.cipher.specs.Inner.{clocked, Tapped}
use Rattle.cipher.proofs.Standing.{Standing, Turned, turned_by, tapped_1, tapped_2, turn_z, turn_stands}
use Rattle.start.specs.Start.{into_a, initial, initials}
use Rattle.start.specs.Inner.{fed}
use Rattle.start.proofs.Undo.{initials_good}

-- after i steps the lanes stand at them, and l are the registers A and B
pub record Fed (s : Registers) (i : ℕ) (l1 l2 r3 : List ℕ) (l : Lfsr) : Type 0 where
  pub stands : Standing (initials i s) (16 * i) l1 l2 r3
  pub lfsr : l ≡ (initials i s).lfsr

module _ (s : Registers) (g : IsRegisters s) (i : ℕ) (h : i < 16) {l1 l2 r3 m1 m2 n3 block t1 t2 : List ℕ} {l m k : Lfsr} (st : Fed s i l1 l2 r3 l)
    (p : Tapped l 1 t1 t2)
    (t : Turned (16 * i) l1 l2 r3 (littles 2 (part 0 8 t1)) (littles 2 (part 0 8 t2)) m1 m2 n3 block)
    (em : m ≡ clocked 1 l) (ek : k ≡ fed block m) where
  abbrev here : Registers
  here = initials i s

  its : Tapped here.lfsr 1 t1 t2
  its = subst (λ (x : Lfsr). Tapped x 1 t1 t2) st.lfsr p

  its_turn : Turned (16 * i) l1 l2 r3 (T1 here) (T2 here) m1 m2 n3 block
  unfolding moves
  its_turn = turned_by (tapped_1 here 1 t1 t2 its 0 (omega arith)) (tapped_2 here 1 t1 t2 its 0 (omega arith)) t

  pub fed_more : Fed s (i + 1) m1 m2 n3 k
  unfolding clocked initials initial into_a step
  fed_more =
      let good = initials_good i s g in
      let u : Standing (step here) (16 * i + 16) m1 m2 n3 = turn_stands here good (16 * i) st.stands (omega arith) its_turn in
      let e : 16 * i + 16 ≡ 16 * (i + 1) = omega arith in
      rw (add-one i)
      (record {
        stands = subst (λ (n : ℕ). Standing (initial here) n m1 m2 n3) (e ∙ ap (λ (n : ℕ). 16 * n) (add-one i))
            (record { long1 = u.long1; long2 = u.long2; in_r1 = u.in_r1; in_r2 = u.in_r2; in_r3 = u.in_r3 });
        lfsr = ek ∙ ap₂ fed (turn_z here good (16 * i) st.stands (omega arith) its_turn) (em ∙ ap (clocks snow_v 8) st.lfsr);
      })
