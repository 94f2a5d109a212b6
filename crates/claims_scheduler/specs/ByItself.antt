-- "its ciphertext and tag are what it would have had by itself" (document 02, S-10), and demand 3 of the scheduler's places: about every whole list of calls, for any order among
-- equal marks. Ciphertext and tag are the page's (crates/page/specs/Page.antt); what a stay's session is, is said by demand 2's and demand 3's lists of a session's calls
-- (crates/claims/specs/Lists.antt). proofs/ByItself.antt proves `ByItself`, proofs/Places.antt `PlacesApart`.
use Rattle.std.specs.Prelude.{ℕ, ◌+◌, ◌<◌, List, [], ◌∷◌, ◌++◌, Bool, true, false, not, ◌||◌, ◌≡◌, eqb, ltb, leb, length, drop}
use Rattle.scope.specs.Limits.{most_turns}
use Rattle.scope.specs.Refusals.{pick, refuse, too_long, short_output, count_too_high}
use Rattle.words.specs.Bytes.{same}
use Rattle.start.specs.Start.{Mode.sealed}
use Rattle.start.specs.Leads.{Traced.origin}
use Rattle.start.specs.Trace.{trace}
use Rattle.session.specs.Calls.{begin_call}
use Rattle.page.specs.Page.{cipher_of, page_tag}
use Rattle.claims.specs.Lists as Sessions
use Rattle.claims.specs.Lists.{Bytes, History, History.in_session, cipher_state, drawn}
use Rattle.scheduler.specs.Scheduler.{Scheduler, none, session_for, iv_of, Order, at, next, due}
use Rattle.scheduler.specs.Calls.{join_number, Service, answer, turn_call}
use Rattle.claims_scheduler.specs.Lists.{Call, Call.join, after}

-- ---- what turns did for one stay

-- the services of a number, up to and with the one with which it left. (A number may come back: that is another stay.)
unfoldable pub own : (iv : List ℕ) → List Service → List Service
own iv [] = []
own iv (v ∷ l) = pick (same v.iv iv) (v ∷ pick (eqb v.left 0) [] (own iv l)) (own iv l)

-- their pieces, joined, and what was written for them, joined
unfoldable pub text_of : List Service → List ℕ
text_of [] = []
text_of (v ∷ l) = v.piece ++ text_of l

unfoldable pub written_of : List Service → List ℕ
written_of [] = []
written_of (v ∷ l) = v.written ++ written_of l

-- the stay has left, and the tag with which it did: that of its last service
unfoldable pub has_left : List Service → Bool
has_left [] = false
has_left (v ∷ l) = eqb v.left 0 || has_left l

unfoldable pub last_tag : List Service → List ℕ
last_tag [] = []
last_tag (v ∷ []) = v.tag
last_tag (v ∷ w ∷ l) = last_tag (w ∷ l)

-- ---- by itself

-- A stay that joined with n bytes to seal, and the services l that it has had: it has left, all its text sealed, with its page's tag, without data; or it is there, and has the rest
-- to seal.
pub data StandsOrLeft (key iv : Bytes) (n : ℕ) (l : List Service) (s : Scheduler) : Type 0 where
  left : has_left l ≡ true → length (text_of l) ≡ n → last_tag l ≡ page_tag key.list iv.list [] (text_of l) → StandsOrLeft key iv n l s
  stands : has_left l ≡ false → (i : ℕ) → i < length s.stays → iv_of (at s.stays i) ≡ iv.list
      → length (text_of l) + (at s.stays i).left ≡ n → StandsOrLeft key iv n l s

-- the services of a stay since its joining, behind the list cs: those of its number among the turns that follow
abbrev pub services : Order → (cs : List Call) (c : Call) (ds : List Call) → (iv : List ℕ) → List Service
services o cs c ds iv = own iv (drop (after o cs).scheduler.turns (after o (cs ++ (c ∷ ds))).log)

pub record SealedByItself (o : Order) (cs : List Call) (key iv : Bytes) (n : ℕ) (ds : List Call) : Type 0 where
  -- the pieces written for it join to the ciphertext of its pieces, under its key and number, whatever the others did
  pub cipher : written_of (services o cs (join key iv n) ds iv.list) ≡ cipher_of key.list iv.list (text_of (services o cs (join key iv n) ds iv.list))
  pub comes_to : StandsOrLeft key iv n (services o cs (join key iv n) ds iv.list) (after o (cs ++ (join key iv n ∷ ds))).scheduler

pub record ByItself (o : Order) : Type 0 where
  -- every joining that is accepted, behind any list, and any calls that follow
  pub page : (cs : List Call) (key iv : Bytes) (n : ℕ) (ds : List Call) → join_number (after o cs).scheduler key.list iv.list n ≡ 0
      → SealedByItself o cs key iv n ds
  -- after every list a turn is answered by the scheduler's numbers alone: its session never refuses a piece that the scheduler takes
  pub answers : (cs : List Call) (piece out : Bytes)
      → let s = (after o cs).scheduler in
      answer (turn_call o s piece.list out.list).outcome
      ≡ pick (none s.stays) 0
      (refuse (leb most_turns s.turns) count_too_high
      (refuse (not (eqb (length piece.list) (due (next o s)))) too_long (refuse (ltb (length out.list) (length piece.list)) short_output 0)))

-- ---- demand 3, of the scheduler's places

-- the turn of the last of some services, or the given number where there is none
unfoldable pub last_turn : ℕ → List Service → ℕ
last_turn n [] = n
last_turn n (v ∷ l) = last_turn v.turn l

-- The stay at a place: the key and the number that it joined with, by a call of the list that was accepted, and a list of a session's calls, from begin on, whose session it has.
pub record Held (o : Order) (cs : List Call) (i : ℕ) : Type 0 where
  pub key : Bytes
  pub iv : Bytes
  pub text : ℕ
  -- where its joining stands in the list: one that was accepted, and behind which it has not left
  pub before : List Call
  pub behind : List Call
  pub is : cs ≡ before ++ (join key iv text ∷ behind)
  pub accepted : join_number (after o before).scheduler key.list iv.list text ≡ 0
  pub not_left : has_left (services o before (join key iv text) behind iv.list) ≡ false
  pub number : iv_of (at (after o cs).scheduler.stays i) ≡ iv.list
  -- "the .. turn of its last service, or, if not yet served, the number of turns done when it joined"
  pub mark : (at (after o cs).scheduler.stays i).mark ≡ last_turn (after o before).scheduler.turns (services o before (join key iv text) behind iv.list)
  -- what it has left to seal is all that its services since then have not sealed
  pub left : length (text_of (services o before (join key iv text) behind iv.list)) + (at (after o cs).scheduler.stays i).left ≡ text
  pub begun : (begin_call key.list iv.list).number ≡ 0
  pub calls : List Sessions.Call
  pub session : session_for (at (after o cs).scheduler.stays i) ≡ (Sessions.after key iv calls).session
  -- they sealed the pieces of its services and nothing else, without data
  pub no_data : (Sessions.after key iv calls).ad ≡ []
  pub sealed_text : (Sessions.after key iv calls).text ≡ text_of (services o before (join key iv text) behind iv.list)

-- the list of a session's calls that a place has come to: one of demand 3's
abbrev pub history : (o : Order) (cs : List Call) (i : ℕ) → Held o cs i → History
history o cs i a = in_session a.key a.iv a.calls

pub record PlacesApart (o : Order) : Type 0 where
  -- Every place in use has one, its joining is one call alone, and the places are in joining order.
  pub every_place : (cs : List Call) (i : ℕ) → i < length (after o cs).scheduler.stays → Held o cs i
  pub one_joining : (cs : List Call) (i : ℕ) → (a b : Held o cs i) → a.before ≡ b.before
  pub in_order : (cs : List Call) (i j : ℕ) → i < j → j < length (after o cs).scheduler.stays → (a : Held o cs i) (b : Held o cs j)
      → length a.before < length b.before
  -- Different stays under one key, of one scheduler or of two, at one time or at two, are in different cipher states where they have drawn equally many blocks. (The numbers at two
  -- places of one scheduler differ: `distinct` of Fairness.antt.)
  pub apart : (cs ds : List Call) (i j : ℕ) → (a : Held o cs i) (b : Held o ds j) → a.key.list ≡ b.key.list → ¬ (a.iv.list ≡ b.iv.list)
      → drawn (history o cs i a) ≡ drawn (history o ds j b)
      → ¬ (cipher_state (session_for (at (after o cs).scheduler.stays i)) ≡ cipher_state (session_for (at (after o ds).scheduler.stays j)))
  -- The state at a place has the registers of its cipher state, and its own count is the blocks drawn;
  pub registers_kept : (cs : List Call) (i : ℕ) → Held o cs i
      → (session_for (at (after o cs).scheduler.stays i)).state.registers ≡ cipher_state (session_for (at (after o cs).scheduler.stays i))
  pub counted : (cs : List Call) (i : ℕ) → (a : Held o cs i) → (session_for (at (after o cs).scheduler.stays i)).state.count ≡ drawn (history o cs i a)
  -- and it names its stay.
  pub names : (cs : List Call) (i : ℕ) → (a : Held o cs i)
      → trace (session_for (at (after o cs).scheduler.stays i)).state a.key.list ≡ origin a.iv.list sealed
