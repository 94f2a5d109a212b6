-- The calls of a session (document 01, "Sessions and parking"; document 02, S-5): for each its number, 0 or that of the refusal in the call's order, and what an
-- accepted call makes of the session. A refused call hands the session back as it was. Pieces and outputs are lists of bytes.
use Rattle.std.specs.Prelude.{ℕ, ◌+◌, List, [], ◌++◌, Bool, not, eqb, ltb, length, drop}
use Rattle.scope.specs.Limits.{most_data, most_text}
use Rattle.scope.specs.Refusals.{refuse, granted, out_of_phase, too_long, count_too_high, short_output}
use Rattle.words.specs.Bytes.{zeros}
use Rattle.cipher.specs.Step.{z}
use Rattle.cipher.specs.Run.{forward, moves}
use Rattle.cipher.specs.State.{State, moved, too_far}
use Rattle.start.specs.Start.{Mode.sealed, started, start_number, blank}
use Rattle.digest.specs.Sum.{fresh}
use Rattle.session.specs.Session.{Session, drawn_by}
use Rattle.session.specs.Pieces.{data_taken, closed, text_taken, text_out, tag_of}

-- ---- begin: 1, 2 (the numbers of a start)

-- a session begun where a start leads: two blocks are drawn, H and the end pad; it carries the IV that it was handed
abbrev pub begun_from : State → (iv : List ℕ) → Session
begun_from s iv =
    record {
      phase = 0;
      ad = 0;
      text = 0;
      state = moved forward 2 s;
      h = z s.registers;
      pad = z (moves forward 1 s.registers);
      current = z (moves forward 1 s.registers);
      sum = fresh zeros;
      iv = iv;
    }

-- the session that an accepted begin gives
unfoldable pub begun : (key iv : List ℕ) → Session
begun key iv = begun_from (started key iv sealed) iv

-- what a refused begin hands out in a session's place: it is finished, so that every call gives 7
abbrev pub no_session : Session
no_session = record { phase = 2; ad = 0; text = 0; state = blank; h = zeros; pad = zeros; current = zeros; sum = fresh zeros; iv = zeros }

-- ---- data: 7, 3

unfoldable pub data_number : Session → (piece : List ℕ) → ℕ
data_number s p = refuse (not (eqb s.phase 0)) out_of_phase (refuse (ltb most_data (s.ad + length p)) too_long 0)

-- ---- text: 7, 3, 9, 4

-- 9: the blocks that the piece draws would lead the state past 65,538, or, as for a run of no block, it stands past it. In a session that was begun or
-- resumed the text is full before the count (`never_too_far` of crates/claims/specs/Claims.antt); one that a caller made up is answered by the count that its
-- state has.
abbrev pub text_too_far : Session → (piece : List ℕ) → Bool
text_too_far s p = too_far forward (drawn_by s.text (length p)) s.state.count

unfoldable pub text_number : Session → (piece out : List ℕ) → ℕ
text_number s p out =
    refuse (not (ltb s.phase 2)) out_of_phase
    (refuse (ltb most_text (s.text + length p)) too_long
    (refuse (text_too_far s p) count_too_high (refuse (ltb (length out) (length p)) short_output 0)))

-- ---- finish: 7

unfoldable pub finish_number : Session → ℕ
finish_number s = refuse (not (ltb s.phase 2)) out_of_phase 0

unfoldable pub finished : Session → Session
finished s =
    record { phase = 2; ad = s.ad; text = s.text; state = s.state; h = s.h; pad = s.pad; current = s.current; sum = s.sum; iv = s.iv }

-- ---- each call as a whole: its number, what stands in the lent output afterwards, and the session handed back

pub record Given : Type 0 where
  pub number : ℕ
  pub out : List ℕ
  pub session : Session

unfoldable pub begin_call : (key iv : List ℕ) → Given
begin_call key iv = record { number = start_number key iv; out = []; session = granted (start_number key iv) (begun key iv) no_session }

unfoldable pub data_call : Session → (piece : List ℕ) → Given
data_call s p = record { number = data_number s p; out = []; session = granted (data_number s p) (data_taken s p) s }

unfoldable pub text_call : Session → (piece out : List ℕ) → Given
text_call s p out =
    record {
      number = text_number s p out;
      out = granted (text_number s p out) (text_out (closed s) p ++ drop (length p) out) out;
      session = granted (text_number s p out) (text_taken (closed s) p) s;
    }

-- finish gives the tag and the IV that the session carries (document 02, S-5); a refused one zeros in the place of each
pub record Finished : Type 0 where
  pub number : ℕ
  pub tag : List ℕ
  pub iv : List ℕ
  pub session : Session

unfoldable pub finish_call : Session → Finished
finish_call s =
    record {
      number = finish_number s;
      tag = granted (finish_number s) (tag_of s) zeros;
      iv = granted (finish_number s) s.iv zeros;
      session = granted (finish_number s) (finished s) s;
    }
