-- A state whose parts have their sizes has bytes that list it, so that a run through C from them is the run from it. An accepted run keeps the sizes, since
-- its count is at most 65,538 then. So every list of runs from start on leaves the bytes of the state that it leaves below, and a run there and back
-- leaves the very bytes.
use mathlib.Core.Path.{◌≡◌, refl, sym, ap, ap₂, subst, ◌∙◌}
use mathlib.Core.Bool.{Bool, true, false, not}
use mathlib.Core.List.{List, [], ◌∷◌, ◌++◌, append-nil}
use Prim.Native.Nat.{◌+◌, ℕ, ◌*◌, ◌≤◌}
use native.Mathlib.Nat.{lt_of_le_of_lt}
use native.Mathlib.Omega.{arith}
use borrow.Author.Tests.{eqb-true, eqb-false, le-ltb}
use lib.Dec.{eqb, lit<}
use lib.ListN.{length, drop}
use lib.Seq.{drop-length}
use Rattle.scope.specs.Limits.{most_blocks}
use Rattle.scope.specs.Refusals.{granted}
use Rattle.words.specs.Bytes.{Row}
use Rattle.cipher.specs.Run.{forward, backward}
use Rattle.cipher.specs.State.{State, counted, moved, steps_number, run_number, run_state, run_part}
use Rattle.cipher.specs.Laws.{steps, NoneRefused}
use Rattle.cipher.proofs.Moves.{moves_good}
use Rattle.cipher.proofs.Counting.{count_fits, room_on, run_counts, run_after}
use Rattle.cipher.proofs.CountedSteps.{steps_counted, as_run}
use Rattle.start.specs.Start.{started, blank, start_number}
use Rattle.start.proofs.Answers.{both_right}
use Rattle.start.proofs.Undo.{start_good}
use Rattle.claims.specs.Lists.{Bytes, Run, Course, runs, course}
use Rattle.claims.specs.Claims.{Keyed}
use Rattle.claims.proofs.Within.{row_of}
use Rattle.bytes_c.specs.StateBytes.{state_bytes, state_in}
use Rattle.bytes_c.specs.Modes.{mode_named}
use Rattle.bytes_c.proofs.Sizes.{SizedState}
use Rattle.bytes_c.proofs.StateLaws.{state_row, state_whole, listed_back, listed_sized}
use Rattle.tulvekas.specs.Cipher.{back_named, start_answer, run_answer, run_writes}
use Rattle.tulvekas.proofs.CipherAnswers.{start_right, run_below, run_written, run_unwritten}
use Rattle.claims_c.specs.Lists.{left_state, c_run, c_runs, c_course}
use Rattle.claims_c.specs.ThroughC.{StandsState}

-- 120 bytes are filled by a state's
pub stored_state : (u : State) (b : List ℕ) → length b ≡ 120 → left_state 0 u b ≡ state_bytes u
stored_state u b e =
    let none : drop 120 b ≡ [] = ap (λ (k : ℕ). drop k b) (sym e) ∙ drop-length b in
    ap (λ (r : List ℕ). state_bytes u ++ r) none ∙ append-nil (state_bytes u)

-- ---- sizes

counted_fits : (d : Bool) (n c : ℕ) → steps_number d n c ≡ 0 → counted d n c ≤ most_blocks
counted_fits true n c e = let h = count_fits backward n c e in omega (arith, h)
counted_fits false n c e = room_on n c e

moved_sized : (d : Bool) (n : ℕ) (s : State) → SizedState s → steps_number d n s.count ≡ 0 → SizedState (moved d n s)
moved_sized d n s g e =
    record {
      registers_good = moves_good d n s.registers g.registers_good;
      count_fits = lt_of_le_of_lt (counted_fits d n s.count e) (lit< tt);
    }

run_sized : (d : Bool) (s : State) → SizedState s → (len n : ℕ) → SizedState (run_state d s len n)
unfolding run_state
run_sized d s g len n = go (eqb (run_number d s.count len n) 0) refl
  where
    go : (b : Bool) → eqb (run_number d s.count len n) 0 ≡ b → SizedState (granted (run_number d s.count len n) (moved d n s) s)
    go true e = rw e (moved_sized d n s g (run_counts d s.count len n (eqb-true (run_number d s.count len n) 0 e)))
    go false e = rw e g

-- ---- runs on the bytes of a state

module _ (s : State) (g : SizedState s) where
  long : length (state_bytes s) ≡ 120
  long = (state_row s g).long

  module _ (n back : ℕ) (out : List ℕ) where
    d : Bool
    d = back_named back

    number : ℕ
    number = run_number d s.count (length out) n

    pub run_answers : run_answer (state_bytes s) n back out ≡ run_number (back_named back) s.count (length out) n
    run_answers = sym (run_below (state_bytes s) n back out long (sym (state_whole s g)) refl)

    run_output : let blocks = run_part (back_named back) s (length out) n in run_writes (state_bytes s) n back out ≡ blocks ++ drop (length blocks) out
    unfolding d number
    run_output = go (eqb number 0) refl
      where
        go : (v : Bool) → eqb number 0 ≡ v
            → run_writes (state_bytes s) n back out ≡ run_part d s (length out) n ++ drop (length (run_part d s (length out) n)) out
        go true e = sym (run_written (state_bytes s) n back out long (sym (state_whole s g)) refl refl (eqb-true number 0 e) g.registers_good)
        go false e = sym (run_unwritten (state_bytes s) n back out long (sym (state_whole s g)) refl refl (eqb-false number 0 e))

    -- the bytes of the state that an accepted run leads to, and the same where it is refused
    pub run_left : c_run (state_bytes s) n back out ≡ state_bytes (run_state (back_named back) s (length out) n)
    unfolding d number run_state
    run_left =
        ap₂ (λ (i : ℕ) (u : State). left_state i (moved d n u) (state_bytes s)) run_answers (state_whole s g) ∙ go (eqb number 0) refl
      where
        go : (v : Bool) → eqb number 0 ≡ v → left_state number (moved d n s) (state_bytes s) ≡ state_bytes (granted number (moved d n s) s)
        go true e = rw e (stored_state (moved d n s) (state_bytes s) long)
        go false e = rw e

  pub stands_state : StandsState (state_bytes s) s
  stands_state = record { bytes = refl; lists = state_whole s g; run_answers = run_answers; run_output = run_output; run_left = run_left }

-- ---- lists of runs

-- where one run more leads
abbrev onward : Course → Run → Course
onward c r =
    let len = length r.out.list in
    record {
      state = run_state forward c.state len r.n;
      sum = c.sum + granted (run_number forward c.state.count len r.n) r.n 0;
    }

runs_sized : (c : Course) → SizedState c.state → (rs : List Run) → SizedState (runs c rs).state
unfolding runs
runs_sized c g [] = g
runs_sized c g (r ∷ rs) = runs_sized (onward c r) (run_sized forward c.state g (length r.out.list) r.n) rs

runs_left : (c : Course) → SizedState c.state → (rs : List Run) → c_runs (state_bytes c.state) rs ≡ state_bytes (runs c rs).state
unfolding runs c_runs
runs_left c g [] = refl
runs_left c g (r ∷ rs) =
    ap (λ (b : List ℕ). c_runs b rs) (run_left c.state g r.n 0 r.out.list)
    ∙ runs_left (onward c r) (run_sized forward c.state g (length r.out.list) r.n) rs

-- from start on
module _ (key iv : Bytes) (l : Keyed key iv) (mode : ℕ) (state : List ℕ) (room-120 : length state ≡ 120) where
  first : State
  first = started key.list iv.list (mode_named mode)

  accepted : start_number key.list iv.list ≡ 0
  accepted = both_right key.list iv.list l.key_long l.iv_long

  first_sized : SizedState first
  unfolding first
  first_sized =
      record {
        registers_good = start_good key.list (row_of key l.key_long) iv.list (mode_named mode) (row_of iv l.iv_long);
        count_fits = lit< tt;
      }

  begun : left_state (start_answer key.list iv.list state) first state ≡ state_bytes first
  begun =
      let n = start_right key.list iv.list state refl accepted (omega arith) in
      ap (λ (n : ℕ). left_state n first state) (sym n) ∙ stored_state first state room-120

  at_start : Course
  at_start = record { state = first; sum = 0 }

  module _ (rs : List Run) where
    course_is : runs at_start rs ≡ course key iv (mode_named mode) rs
    unfolding first at_start
    course_is = ap (λ (n : ℕ). runs (record { state = granted n first blank; sum = 0 }) rs) (sym accepted)

    pub course_sized : SizedState (course key iv (mode_named mode) rs).state
    unfolding at_start
    course_sized = subst (λ (c : Course). SizedState c.state) course_is (runs_sized at_start first_sized rs)

    pub course_left : c_course key iv mode state rs ≡ state_bytes (course key iv (mode_named mode) rs).state
    unfolding first at_start
    course_left =
        ap (λ (b : List ℕ). c_runs b rs) begun
        ∙ runs_left at_start first_sized rs
        ∙ ap (λ (c : Course). state_bytes c.state) course_is

    pub stands_course : StandsState (c_course key iv mode state rs) (course key iv (mode_named mode) rs).state
    stands_course =
        let c : State = (course key iv (mode_named mode) rs).state in
        subst (λ (b : List ℕ). StandsState b c) (sym course_left) (stands_state c course_sized)

-- ---- there and back

module _ (s : State) (g : SizedState s) (n back there : ℕ) (other : back_named there ≡ not (back_named back)) (out into : List ℕ)
    (z : run_number (back_named back) s.count (length out) n ≡ 0) (room : 16 * n ≤ length into) where
  way : Bool
  way = back_named back

  far : State
  far = moved way n s

  goes : steps_number way n s.count ≡ 0
  unfolding way
  goes = run_counts way s.count (length out) n z

  none_refused : NoneRefused way n s
  none_refused = (steps_counted.none_refused way n s (count_fits way n s.count goes)).1 goes

  stepped : steps way n s ≡ far
  unfolding far
  stepped = as_run way n s none_refused

  -- the way back is not refused and returns the state
  back_none : NoneRefused (not way) n far
  back_none = subst (NoneRefused (not way) n) stepped (steps_counted.returns way n s g.registers_good none_refused).1

  returns : moved (not way) n far ≡ s
  returns =
      sym (as_run (not way) n far back_none)
      ∙ ap (steps (not way) n) (sym stepped)
      ∙ (steps_counted.returns way n s g.registers_good none_refused).0

  goes_back : steps_number (not way) n far.count ≡ 0
  unfolding far
  goes_back = (steps_counted.none_refused (not way) n far (counted_fits way n s.count goes)).0 back_none

  accepts : run_number (back_named there) far.count (length into) n ≡ 0
  unfolding way
  accepts = rw other (run_after (not way) far.count (length into) n ∙ rw (goes_back, le-ltb (length into) (16 * n) room))

  far_sized : SizedState far
  unfolding far
  far_sized = moved_sized way n s g goes

  far_left : c_run (state_bytes s) n back out ≡ state_bytes far
  unfolding way far run_state
  far_left = run_left s g n back out ∙ rw z

  back_left : c_run (state_bytes far) n there into ≡ state_bytes s
  unfolding way run_state
  back_left = run_left far far_sized n there into ∙ rw accepts (rw other (ap state_bytes returns))

  there_and_back : (run_answer (c_run (state_bytes s) n back out) n there into ≡ 0)
      × (c_run (c_run (state_bytes s) n back out) n there into ≡ state_bytes s)
  there_and_back = (
    ap (λ (b : List ℕ). run_answer b n there into) far_left ∙ run_answers far far_sized n there into ∙ accepts,
    ap (λ (b : List ℕ). c_run b n there into) far_left ∙ back_left,
  )

pub returned : (state : Bytes) → length state.list ≡ 120 → (n back there : ℕ) → back_named there ≡ not (back_named back) → (out into : List ℕ)
    → run_answer state.list n back out ≡ 0 → 16 * n ≤ length into
    → (run_answer (c_run state.list n back out) n there into ≡ 0) × (c_run (c_run state.list n back out) n there into ≡ state.list)
returned state long n back there other out into z room =
    let row : Row 120 256 state.list = row_of state long in
    let s : State = state_in state.list in
    let g : SizedState (state_in state.list) = listed_sized state.list row in
    let e : state_bytes (state_in state.list) ≡ state.list = listed_back state.list row in
    let z' = sym (run_answers s g n back out) ∙ ap (λ (b : List ℕ). run_answer b n back out) e ∙ z in
    subst (λ (b : List ℕ). (run_answer (c_run b n back out) n there into ≡ 0) × (c_run (c_run b n back out) n there into ≡ b)) e
    (there_and_back s g n back there other out into z' room)
