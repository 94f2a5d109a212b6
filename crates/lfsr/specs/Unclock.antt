-- One clock back. The documents only say that the clock is one-to-one (document 01, "Round, step and step back"; SNOW-V paper, appendix A),
-- so that this is believed not by reading but by `OneToOne` of Laws.antt: a clock and a clock back undo each other, either way round.
-- Registers and cells are those of the clock.
use Rattle.std.specs.Prelude.{ℕ, zero, suc, ◌-◌, ◌*◌, ◌/◌, ◌%◌, ◌^◌, List, ◌∷◌, take}
use Rattle.words.specs.Xor.{◌⊕◌}
use Rattle.lfsr.specs.Clock.{Lfsr, Taps, cell}

-- x shifted left by k, dropping what does not fit a cell
unfoldable pub shl : ℕ → ℕ → ℕ
shl k x = x * 2 ^ k % 2 ^ 16

-- y and y shifted by two, by four and so on, added up
unfoldable pub spread : ℕ → ℕ
spread y = let p = y ⊕ shl 2 y in let q = p ⊕ shl 4 p in q ⊕ shl 8 q

-- The x with x ⊕ beta (alpha x) ≡ y. Beta after alpha shifts by two and adds a constant for each of the two bits that fall off; so x is
-- `spread y`, but for one constant, k and l, for each of its two top bits.
unfoldable pub solve : ℕ → ℕ → ℕ → ℕ
solve k l y = (spread y ⊕ (spread y / 2 ^ 14 % 2 * k)) ⊕ (spread y / 2 ^ 15 % 2 * l)

-- with SNOW-V's alpha and beta
abbrev pub solved_v : ℕ → ℕ
solved_v = solve 0x3d1f 0x5a06

-- cells 0 before the clock, where p is b0 ⊕ alpha a0 and q is a0 ⊕ beta b0
unfoldable pub old_a : Taps → (ℕ → ℕ) → ℕ → ℕ → ℕ
old_a t solved p q = solved (q ⊕ t.beta p)

unfoldable pub old_b : Taps → (ℕ → ℕ) → ℕ → ℕ → ℕ
old_b t solved p q = p ⊕ t.alpha (old_a t solved p q)

-- p and q: the last cell of a register less what its tap gave, which found at j what is now at j - 1
abbrev pub untapped : ((ℕ → ℕ) → ℕ) → List ℕ → ℕ
untapped tap l = cell l 15 ⊕ tap (λ j. cell l (j - 1))

-- one clock back
unfoldable pub unclock : Taps → (ℕ → ℕ) → Lfsr → Lfsr
unclock t solved s =
    let p = untapped t.tap_a s.a in
    let q = untapped t.tap_b s.b in
    record { a = old_a t solved p q ∷ take 15 s.a; b = old_b t solved p q ∷ take 15 s.b }

-- n clocks back
unfoldable pub unclocks : Taps → (ℕ → ℕ) → ℕ → Lfsr → Lfsr
unclocks t solved zero s = s
unclocks t solved (suc n) s = unclocks t solved n (unclock t solved s)
