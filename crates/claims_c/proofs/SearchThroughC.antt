-- The search through C: in any four buffers C is told the answer below, of which `Searches` says what it is, and the claims about the search what it
-- finds of where lists ended.
use mathlib.Core.Path.{◌≡◌, refl, sym, subst, ◌∙◌}
use mathlib.Core.Logic.{◌⊎◌, ◌⊎◌.inl, ◌⊎◌.inr, ⊎_elim}
use mathlib.Core.Bool.{Bool, true, false, ◌&&◌}
use mathlib.Core.List.{List, [], ◌∷◌, ◌++◌}
use Prim.Native.Nat.{ℕ, ◌≤◌}
use native.Mathlib.Omega.{arith}
use native.Mathlib.Decide.{dec_lt}
use borrow.Author.Tests.{le-leb, lt-leb}
use lib.Dec.{eqb, leb}
use lib.ListN.{length, drop}
use Rattle.scope.specs.Refusals.{pick}
use Rattle.words.specs.Bytes.{little}
use Rattle.search.specs.Search.{Searched, Searched.found, Searched.refused, Searches}
use Rattle.search.specs.Counts.{search}
use Rattle.claims.specs.Lists.{Bytes, History, key_of, Accepted}
use Rattle.claims_search.specs.Claims.{DumpOf}
use Rattle.claims_search.proofs.Claimed.{search_claims}
use Rattle.bytes_c.specs.Order.{room, buffer_after}
use Rattle.bytes_c.specs.Modes.{mode_byte}
use Rattle.tulvekas.specs.Search.{search_room, search_answer, search_count, search_iv, search_sealed, search_steps}
use Rattle.bytes_c.proofs.Answering.{never, short, fits, unwritten, accepted}
use Rattle.claims_c.specs.ThroughC.{Roomy, ToldSearched, SearchesThroughC, FindsThroughC}

-- a buffer has room, or 4 is answered
room_or_short : (k : ℕ) (out : List ℕ) {later : ℕ} {P : Type 0} → (k ≤ length out → (later ≡ 4) ⊎ P) → (room k out later ≡ 4) ⊎ P
room_or_short k out {later} f =
    elim (dec_lt (length out) k) [
      | yes h ↦ inl (sym (short k out later h))
      | no h ↦ ⊎_elim (λ e. inl (sym (fits k out later (omega arith)) ∙ e)) inr (f (omega arith))
    ]

module _ (count iv sb steps : List ℕ) where
  roomy_or_short : (search_room count iv sb steps ≡ 4) ⊎ Roomy count iv sb steps
  roomy_or_short =
      room_or_short 8 count
      (λ h. room_or_short 16 iv
      (λ i. room_or_short 1 sb (λ j. room_or_short 8 steps (λ l. inr (record { for_count = h; for_iv = i; for_mode = j; for_steps = l })))))

  roomy : Roomy count iv sb steps → 0 ≡ search_room count iv sb steps
  roomy r = fits 8 steps 0 r.for_steps ∙ fits 1 sb _ r.for_mode ∙ fits 16 iv _ r.for_iv ∙ fits 8 count _ r.for_count

  not_roomy : ¬ Roomy count iv sb steps → 4 ≡ search_room count iv sb steps
  not_roomy h = ⊎_elim sym (λ r. absurd (h r)) roomy_or_short

  -- the steps of a refusal, by their room
  six_steps : (b : Bool) (k : ℕ) → pick b (buffer_after (room 8 steps 0) 8 (little 8 k) steps) steps ≡ pick (b && leb 8 (length steps)) (little 8 k ++ drop 8 steps) steps
  six_steps false k = refl
  six_steps true k =
      elim (dec_lt (length steps) 8) [
        | yes h ↦ sym (unwritten (short 8 steps 0 h) 8 (little 8 k) steps (never 3)) ∙ rw (lt-leb 8 (length steps) h)
        | no h ↦ let l : 8 ≤ length steps = omega arith in
            sym (accepted (fits 8 steps 0 l) (little 8 k ++ drop 8 steps) steps) ∙ rw (le-leb 8 (length steps) l)
      ]

  told : (a : Searched)
      → ToldSearched a count iv sb steps (search_answer a count iv sb steps) (search_count a count iv sb steps) (search_iv a count iv sb steps)
      (search_sealed a count iv sb steps) (search_steps a count iv sb steps)
  unfolding search_answer search_count search_iv search_sealed search_steps
  told (found c v m k) = (
    λ r. let z = roomy r in (
      sym z,
      (
        sym (accepted z (little 8 c ++ drop 8 count) count),
        (sym (accepted z (v ++ drop 16 iv) iv), (sym (accepted z (mode_byte m ∷ drop 1 sb) sb), sym (accepted z (little 8 k ++ drop 8 steps) steps))),
      ),
    ),
    λ h. let e = not_roomy h in (
      sym e,
      (
        sym (unwritten e 8 (little 8 c) count (never 3)),
        (
          sym (unwritten e 16 v iv (never 3)),
          (sym (unwritten e 1 (mode_byte m ∷ []) sb (never 3)), sym (unwritten e 8 (little 8 k) steps (never 3))),
        ),
      ),
    ),
  )
  told (refused n k) = (refl, (refl, (refl, (refl, six_steps (eqb n 6) k))))

tells : (dump key : List ℕ) (lowest highest : ℕ) {a : Searched} → search dump key lowest highest ≡ a → SearchesThroughC dump key lowest highest a
tells dump key lowest highest e count iv sb steps =
    subst
    (λ (a : Searched).
    ToldSearched a count iv sb steps (search_answer (search dump key lowest highest) count iv sb steps) (search_count (search dump key lowest highest) count iv sb steps)
    (search_iv (search dump key lowest highest) count iv sb steps) (search_sealed (search dump key lowest highest) count iv sb steps)
    (search_steps (search dump key lowest highest) count iv sb steps)) e
    (told count iv sb steps (search dump key lowest highest))

pub searches : (dump key : Bytes) (lowest highest : ℕ)
    → let a = search dump.list key.list lowest highest in
    Searches dump.list key.list lowest highest a × SearchesThroughC dump.list key.list lowest highest a
searches dump key lowest highest = (search_claims.answers dump key lowest highest, tells dump.list key.list lowest highest refl)

pub finds_dump : (h : History) → Accepted h → (dump : Bytes) → DumpOf h dump → FindsThroughC h dump.list
finds_dump h e dump d lowest highest from up_to_lem within none =
    tells dump.list (key_of h) lowest highest ((search_claims.reached h e dump d lowest highest from up_to_lem within).itself.1 none)
