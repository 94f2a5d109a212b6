-- What C is told of a search, by what it found and by the room in the four buffers.
use mathlib.Core.Path.{◌≡◌, refl, ◌∙◌}
use mathlib.Core.List.{List, [], ◌∷◌, ◌++◌}
use Prim.Native.Nat.{ℕ, ◌≤◌, ◌<◌}
use borrow.Author.Tests.{eq-eqb, ne_eqb}
use lib.ListN.{length, drop}
use Rattle.words.specs.Bytes.{little}
use Rattle.start.specs.Start.{Mode}
use Rattle.search.specs.Search.{Searched, Searched.found, Searched.refused}
use Rattle.bytes_c.specs.Order.{room, buffer_after}
use Rattle.bytes_c.specs.Modes.{mode_byte}
use Rattle.tulvekas.specs.Search.{search_room, search_answer, search_count, search_iv, search_sealed, search_steps}
use Rattle.bytes_c.proofs.Answering.{never, unwritten, accepted, short, fits}

module _ (count iv flag steps : List ℕ) where
  -- what the code answers, and leaves in the four buffers
  abbrev pub Told : Searched → ℕ → (count' iv' flag' steps' : List ℕ) → Type 0
  Told a r count' iv' flag' steps' =
      (r ≡ search_answer a count iv flag steps)
      × ((count' ≡ search_count a count iv flag steps)
      × ((iv' ≡ search_iv a count iv flag steps) × ((flag' ≡ search_sealed a count iv flag steps) × (steps' ≡ search_steps a count iv flag steps))))

  module _ {a : Searched} {k n : ℕ} (e : a ≡ refused k n) where
    pub told_refused : ¬ (k ≡ 6) → Told a k count iv flag steps
    unfolding search_answer search_count search_iv search_sealed search_steps
    told_refused h = rw (e, ne_eqb k 6 h) (refl, (refl, (refl, (refl, refl))))

    -- 6, with its steps
    pub told_none : k ≡ 6 → {steps' : List ℕ} → steps' ≡ buffer_after (room 8 steps 0) 8 (little 8 n) steps → Told a k count iv flag steps'
    unfolding search_answer search_count search_iv search_sealed search_steps
    told_none h f = rw (e, eq-eqb k 6 h) (refl, (refl, (refl, (refl, f))))

  module _ {a : Searched} {c : ℕ} {v : List ℕ} {m : Mode} {n : ℕ} (e : a ≡ found c v m n) where
    told_short : 4 ≡ search_room count iv flag steps → Told a 4 count iv flag steps
    unfolding search_answer search_count search_iv search_sealed search_steps
    told_short h =
        rw e (
          h,
          (
            unwritten h 8 (little 8 c) count (never 3),
            (unwritten h 16 v iv (never 3), (unwritten h 1 (mode_byte m ∷ []) flag (never 3), unwritten h 8 (little 8 n) steps (never 3))),
          ),
        )

    pub short_count : length count < 8 → Told a 4 count iv flag steps
    short_count h = told_short (short 8 count _ h)

    module _ (h : 8 ≤ length count) where
      pub short_iv : length iv < 16 → Told a 4 count iv flag steps
      short_iv i = told_short (short 16 iv _ i ∙ fits 8 count _ h)

      module _ (i : 16 ≤ length iv) where
        pub short_sealed : length flag < 1 → Told a 4 count iv flag steps
        short_sealed j = told_short (short 1 flag _ j ∙ fits 16 iv _ i ∙ fits 8 count _ h)

        module _ (j : 1 ≤ length flag) where
          pub short_steps : length steps < 8 → Told a 4 count iv flag steps
          short_steps l = told_short (short 8 steps 0 l ∙ fits 1 flag _ j ∙ fits 16 iv _ i ∙ fits 8 count _ h)

          pub told_found : 8 ≤ length steps → {count' iv' flag' steps' : List ℕ} → count' ≡ little 8 c ++ drop 8 count → iv' ≡ v ++ drop 16 iv
              → flag' ≡ (mode_byte m ∷ []) ++ drop 1 flag → steps' ≡ little 8 n ++ drop 8 steps → Told a 0 count' iv' flag' steps'
          unfolding search_answer search_count search_iv search_sealed search_steps
          told_found l ec ei ef es =
              let z : 0 ≡ search_room count iv flag steps = fits 8 steps 0 l ∙ fits 1 flag _ j ∙ fits 16 iv _ i ∙ fits 8 count _ h in
              rw e (
                z,
                (
                  ec ∙ accepted z (little 8 c ++ drop 8 count) count,
                  (
                    ei ∙ accepted z (v ++ drop 16 iv) iv,
                    (ef ∙ accepted z ((mode_byte m ∷ []) ++ drop 1 flag) flag, es ∙ accepted z (little 8 n ++ drop 8 steps) steps),
                  ),
                ),
              )
