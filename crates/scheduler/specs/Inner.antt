-- What the private functions compute: their contracts name it.
use Rattle.std.specs.Prelude.{ℕ, suc, ◌+◌, ◌-◌, ◌*◌, ◌≡◌, true, false, not, Option, None, Some, Result, List, [], ◌∷◌, ◌++◌, eqb, leb, take, drop, replicate}
use Rattle.scope.specs.Limits.{most_turns}
use Rattle.scope.specs.Refusals.{pick, refuse, too_long, count_too_high}
use Rattle.scope.specs.Machine.{Answers}
use Rattle.scope.specs.declared.Refusal.{Refusal}
use Rattle.words.specs.Bytes.{part}
use Rattle.session.specs.Session.{Session}
use Rattle.session.specs.Calls.{finish_call}
use Rattle.bytes_c.specs.SessionBytes.{session_bytes}
use Rattle.scheduler.specs.Scheduler.{Stay, Scheduler, none, iv_of, scheduler_order, place, next, due}
use Rattle.scheduler.specs.Calls.{rest, put}
use Rattle.scheduler.specs.Bytes.{scheduler_in, stay_in, whole, Leaves}
use Rattle.scheduler.specs.declared.Turned.{Turned}

-- the stay that the bytes of place i list
abbrev pub stay_at : (scheduler : List ℕ) → (i : ℕ) → Stay
stay_at b i = stay_in (part (16 + 256 * i) 256 b)

-- place i taken out of n: those behind it a place further down, and zeros at the end
unfoldable pub removed : (i n : ℕ) → List ℕ → List ℕ
removed i n b =
    take (16 + 256 * i) b ++ (part (16 + 256 * suc i) (256 * (n - suc i)) b ++ (replicate 256 0 ++ drop (16 + 256 * n) b))

-- the refusals of a turn before its session is asked: 8, 9, 3
unfoldable pub looked_number : (scheduler : List ℕ) → (n : ℕ) → ℕ
looked_number b n =
    whole b
    (pick (none (scheduler_in b).stays) 0
    (refuse (leb most_turns (scheduler_in b).turns) count_too_high (refuse (not (eqb n (due (next scheduler_order (scheduler_in b))))) too_long 0)))

-- whether anybody is there, and the place of the next
abbrev pub Stands : (scheduler : List ℕ) → Option ℕ → Type 0
Stands b None = none (scheduler_in b).stays ≡ true
Stands b (Some i) = (none (scheduler_in b).stays ≡ false) × (i ≡ place scheduler_order (scheduler_in b).stays)

abbrev pub Looks : (scheduler : List ℕ) → (n : ℕ) → Result (Option ℕ) Refusal → Type 0
Looks b n r = Answers r (looked_number b n) (Stands b)

-- a numbered turn of the stay at place i, whose session is u then: what there is of it afterwards, and what the turn says
abbrev pub goes_on_as : (scheduler : List ℕ) → (i : ℕ) → Session → Scheduler
goes_on_as b i u =
    let t = suc (scheduler_in b).turns in
    let x = stay_at b i in
    record {
      turns = t;
      stays = put (scheduler_in b).stays i (pick (eqb (rest x) 0) [] (record { session = session_bytes u; left = rest x; mark = t } ∷ []));
    }

abbrev pub ServedBytes : (before : List ℕ) → (i : ℕ) → Session → (after : List ℕ) → Type 0
ServedBytes b i u after = Leaves true (goes_on_as b i u) b after

pub record Serves (b : List ℕ) (i : ℕ) (u : Session) (r : Turned) : Type 0 where
  pub turn : r.turn ≡ suc (scheduler_in b).turns
  pub iv : r.iv ≡ iv_of (stay_at b i)
  pub tag : r.tag ≡ pick (eqb (rest (stay_at b i)) 0) (Some (finish_call u).tag) None
