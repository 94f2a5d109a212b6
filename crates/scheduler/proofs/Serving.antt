-- A numbered turn and a joining, as their code writes them: a stay written in its place or taken out, and then the head.
use mathlib.Core.Path.{◌≡◌, sym, ap, ap₂, subst, ◌∙◌}
use mathlib.Core.List.{List, [], ◌∷◌, ◌++◌}
use mathlib.Core.Bool.{Bool, true, false}
use Prim.Native.Nat.{ℕ, suc, ◌+◌, ◌-◌, ◌*◌, ◌^◌, ◌<◌}
use native.Mathlib.Omega.{arith}
use borrow.Author.Tests.{eq-eqb, ne_eqb}
use lib.Dec.{eqb, lit<}
use lib.ListN.{length, drop}
use lib.Seq.{sets, length-sets}
use Rattle.scope.specs.Limits.{most_turns}
use Rattle.scope.specs.Refusals.{pick}
use Rattle.words.specs.Bytes.{number, part}
use Rattle.words.proofs.Rows.{Below, below_take, below_drop}
use Rattle.words.proofs.Bytes.{number_lt}
use Rattle.words.proofs.Parts.{part_long}
use Rattle.session.specs.Session.{Session}
use Rattle.bytes_c.specs.SessionBytes.{session_bytes}
use Rattle.scheduler.specs.Scheduler.{Stay}
use Rattle.scheduler.specs.Calls.{rest, put}
use Rattle.scheduler.specs.Bytes.{stay_bytes, head, stays_in, how_many, scheduler_in, Leaves}
use Rattle.scheduler.specs.Inner.{stay_at, removed, ServedBytes}
use Rattle.scheduler.proofs.Places.{FitStay, stay_fits}
use Rattle.scheduler.proofs.Listing.{FitScheduler}
use Rattle.scheduler.proofs.Leaving.{few, leaves, joined_fit, joined_long, joined, put_fit, put_long, stayed, gone, removed_long}

module _ (b : List ℕ) (w : Below 256 b) (long : length b ≡ 8208) where
  -- a new stay, and how many there are then
  pub joining : (x : Stay) → FitStay x → how_many b < 32 → {t m : ℕ} {b1 b2 : List ℕ} → t ≡ number (part 0 8 b) → m ≡ how_many b + 1
      → b1 ≡ sets b (16 + 256 * how_many b) (stay_bytes x) → b2 ≡ sets b1 0 (head t m)
      → Leaves true (record { turns = number (part 0 8 b); stays = (scheduler_in b).stays ++ (x ∷ []) }) b b2
  unfolding scheduler_in
  joining x f h {t} {m} {b1} te me p q =
      let l = stays_in (how_many b) (drop 16 b) ++ (x ∷ []) in
      let n = joined_long b w long x f h in
      let fits : FitScheduler (record { turns = number (part 0 8 b); stays = l }) =
      record {
        turns_fit = number_lt 8 (part 0 8 b) (record { long = part_long b 0 8 (omega arith); below = below_take 256 8 b (lit< tt) w });
        few = omega (arith, n);
        each = joined_fit b w long x f h;
      } in
      leaves b w long b1 (number (part 0 8 b)) l (ap length p ∙ length-sets b (16 + 256 * how_many b) (stay_bytes x) ∙ long) fits
      (ap (drop 16) p ∙ joined b w long x f h)
      (q ∙ ap₂ (λ (j k : ℕ). sets b1 0 (head j k)) te (me ∙ sym n))

  module _ (i : ℕ) (h : i < how_many b) (more : number (part 0 8 b) < most_turns) (u : Session) where
    left_fits : rest (stay_at b i) < 256 ^ 8
    left_fits =
        let g = few b w long in
        let f = stay_fits (part (16 + 256 * i) 256 b)
        (record { long = part_long b (16 + 256 * i) 256 (omega arith); below = below_take 256 256 (drop (16 + 256 * i) b) (lit< tt) (below_drop 256 (16 + 256 * i) b w) }) in
        omega (arith, f.left_fits)

    pub staying : {t m r : ℕ} {b1 b2 : List ℕ} → t ≡ suc (number (part 0 8 b)) → m ≡ how_many b → r ≡ rest (stay_at b i) → ¬ (r ≡ 0)
        → length (session_bytes u) ≡ 240 → b1 ≡ sets b (16 + 256 * i) (stay_bytes (record { session = session_bytes u; left = r; mark = t }))
        → b2 ≡ sets b1 0 (head t m) → ServedBytes b i u b2
    unfolding scheduler_in
    staying {t} {m} {r} {b1} {b2} te me re some s p q =
        let y : Stay = record { session = session_bytes u; left = rest (stay_at b i); mark = suc (number (part 0 8 b)) } in
        let f : FitStay y = record { session_long = s; left_fits = left_fits; mark_fits = omega arith } in
        let l = put (stays_in (how_many b) (drop 16 b)) i (y ∷ []) in
        let n = put_long b w long i h (y ∷ []) in
        let g = few b w long in
        let fits : FitScheduler (record { turns = suc (number (part 0 8 b)); stays = l }) =
        record { turns_fit = omega arith; few = omega (arith, n); each = put_fit b w long i h (y ∷ []) (f, tt) } in
        let p1 : b1 ≡ sets b (16 + 256 * i) (stay_bytes y) =
        p ∙ ap₂ (λ (j k : ℕ). sets b (16 + 256 * i) (stay_bytes (record { session = session_bytes u; left = j; mark = k }))) re te in
        let e : eqb (rest (stay_at b i)) 0 ≡ false = ne_eqb (rest (stay_at b i)) 0 (λ z. some (re ∙ z)) in
        subst (λ (d : Bool). Leaves true (record { turns = suc (number (part 0 8 b)); stays = put (stays_in (how_many b) (drop 16 b)) i (pick d [] (y ∷ [])) }) b b2) (sym e)
        (leaves b w long b1 (suc (number (part 0 8 b))) l (ap length p1 ∙ length-sets b (16 + 256 * i) (stay_bytes y) ∙ long) fits
        (ap (drop 16) p1 ∙ stayed b w long i h y f)
        (q ∙ ap₂ (λ (j k : ℕ). sets b1 0 (head j k)) te (let z : m ≡ length l = omega (arith, n) in z)))

    pub leaving : {t m r : ℕ} {b1 b2 : List ℕ} → t ≡ suc (number (part 0 8 b)) → m ≡ how_many b → r ≡ rest (stay_at b i) → r ≡ 0
        → b1 ≡ removed i m b → b2 ≡ sets b1 0 (head t (m - 1)) → ServedBytes b i u b2
    unfolding scheduler_in
    leaving {t} {m} {r} {b1} {b2} te me re none p q =
        let y : Stay = record { session = session_bytes u; left = rest (stay_at b i); mark = suc (number (part 0 8 b)) } in
        let l = put (stays_in (how_many b) (drop 16 b)) i [] in
        let n = put_long b w long i h [] in
        let g = few b w long in
        let fits : FitScheduler (record { turns = suc (number (part 0 8 b)); stays = l }) =
        record { turns_fit = omega arith; few = omega (arith, n); each = put_fit b w long i h [] tt } in
        let p1 : b1 ≡ removed i (how_many b) b = p ∙ ap (λ (k : ℕ). removed i k b) me in
        let e : eqb (rest (stay_at b i)) 0 ≡ true = eq-eqb (rest (stay_at b i)) 0 (sym re ∙ none) in
        subst (λ (d : Bool). Leaves true (record { turns = suc (number (part 0 8 b)); stays = put (stays_in (how_many b) (drop 16 b)) i (pick d [] (y ∷ [])) }) b b2) (sym e)
        (leaves b w long b1 (suc (number (part 0 8 b))) l (ap length p1 ∙ removed_long b w long i h) fits
        (ap (drop 16) p1 ∙ gone b w long i h)
        (q ∙ ap₂ (λ (j k : ℕ). sets b1 0 (head j k)) te (let z : m - 1 ≡ length l = omega (arith, n) in z)))
