-- The numbers of a seal by what it finds, and what a refused one leaves.
use mathlib.Core.Path.{◌≡◌, sym, ◌∙◌}
use mathlib.Core.List.{List}
use Prim.Native.Nat.{ℕ, ◌*◌, ◌/◌, ◌%◌, ◌≤◌, ◌<◌}
use native.Mathlib.Omega.{arith}
use borrow.Author.Tests.{eq-eqb, ne_eqb, lt-ltb, le-ltb, le-leb, lt-leb}
use lib.ListN.{length}
use Rattle.scope.specs.Limits.{most_page_text, last_day}
use Rattle.fields.specs.Blocks.{replaced}
use Rattle.page_file.specs.Layout.{sealed_page}
use Rattle.page_file.specs.Calls.{seal_number, seal_file}

module _ (key stay : List ℕ) (n day : ℕ) (t f : List ℕ) (i : ℕ) where
  -- what a refused one gives and leaves
  kept : {m : ℕ} → m ≡ seal_number key stay day t f i → ¬ (m ≡ 0) → (m ≡ seal_number key stay day t f i) × (f ≡ seal_file key stay n day t f i)
  unfolding seal_file
  kept e h = (e, rw (ne_eqb (seal_number key stay day t f i) 0 (λ z. h (e ∙ z))))

  pub no_key : ¬ (length key ≡ 32) → (1 ≡ seal_number key stay day t f i) × (f ≡ seal_file key stay n day t f i)
  unfolding seal_number
  no_key h = kept (rw (ne_eqb (length key) 32 h)) (λ z. omega arith)

  module _ (k : length key ≡ 32) where
    pub no_stay : ¬ (length stay ≡ 12) → (2 ≡ seal_number key stay day t f i) × (f ≡ seal_file key stay n day t f i)
    unfolding seal_number
    no_stay h = kept (rw (eq-eqb (length key) 32 k, ne_eqb (length stay) 12 h)) (λ z. omega arith)

    module _ (s : length stay ≡ 12) where
      pub long_text : most_page_text < length t → (3 ≡ seal_number key stay day t f i) × (f ≡ seal_file key stay n day t f i)
      unfolding seal_number
      long_text h = kept (rw (eq-eqb (length key) 32 k, eq-eqb (length stay) 12 s, lt-ltb most_page_text (length t) h)) (λ z. omega arith)

      module _ (l : length t ≤ most_page_text) where
        pub late_day : last_day < day → (12 ≡ seal_number key stay day t f i) × (f ≡ seal_file key stay n day t f i)
        unfolding seal_number
        late_day h =
            kept (rw (eq-eqb (length key) 32 k, eq-eqb (length stay) 12 s, le-ltb most_page_text (length t) l, lt-ltb last_day day h)) (λ z. omega arith)

        module _ (d : day ≤ last_day) where
          pub not_whole : ¬ (length f % 512 ≡ 0) → (13 ≡ seal_number key stay day t f i) × (f ≡ seal_file key stay n day t f i)
          unfolding seal_number
          not_whole h =
              kept
              (rw (
                eq-eqb (length key) 32 k,
                eq-eqb (length stay) 12 s,
                le-ltb most_page_text (length t) l,
                le-ltb last_day day d,
                ne_eqb (length f % 512) 0 h,
              ))
              (λ z. omega arith)

          module _ (w : length f % 512 ≡ 0) where
            pub past_end : length f / 512 ≤ i → (13 ≡ seal_number key stay day t f i) × (f ≡ seal_file key stay n day t f i)
            unfolding seal_number
            past_end h =
                kept
                (rw (
                  eq-eqb (length key) 32 k,
                  eq-eqb (length stay) 12 s,
                  le-ltb most_page_text (length t) l,
                  le-ltb last_day day d,
                  eq-eqb (length f % 512) 0 w,
                  le-leb (length f) (512 * i) (omega arith),
                ))
                (λ z. omega arith)

            module _ (h : i < length f / 512) where
              accepted : seal_number key stay day t f i ≡ 0
              unfolding seal_number
              accepted =
                  rw (
                    eq-eqb (length key) 32 k,
                    eq-eqb (length stay) 12 s,
                    le-ltb most_page_text (length t) l,
                    le-ltb last_day day d,
                    eq-eqb (length f % 512) 0 w,
                    lt-leb (length f) (512 * i) (omega arith),
                  )

              pub in_place : {g : List ℕ} → g ≡ replaced i (sealed_page key stay n day t) f → (0 ≡ seal_number key stay day t f i) × (g ≡ seal_file key stay n day t f i)
              unfolding seal_file
              in_place e = (sym accepted, e ∙ rw accepted)
