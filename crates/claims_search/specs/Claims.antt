-- What is claimed of the search (document 02, S-8), for every dump, reached or not, every key and every range, over the definitions that the contract of
-- `search::search` names, and of every list of demand 3. proofs/Claimed.antt proves it.
use Rattle.std.specs.Prelude.{ℕ, ◌+◌, ◌≤◌, ◌<◌, ◌≡◌, ◌↔◌, List, eqb, length}
use Rattle.scope.specs.Limits.{most_blocks}
use Rattle.scope.specs.Refusals.{pick, no_origin}
use Rattle.words.specs.Bytes.{part}
use Rattle.start.specs.Start.{Mode}
use Rattle.start.specs.Leads.{Traced, Traced.origin, Traced.refused}
use Rattle.start.specs.Trace.{trace}
use Rattle.layout.specs.Block.{registers_at, registers_bytes}
use Rattle.search.specs.Search.{Searched, Searched.found, Searched.refused, steps_to, NoneLeads, Least, Searchable, Searches}
use Rattle.search.specs.Counts.{search}
use Rattle.claims.specs.Lists.{Bytes, Call, Run, History, History.in_session, History.in_runs, key_of, iv_of, mode_of, Accepted, end, drawn, state_after}
use Rattle.claims.specs.Claims.{suspended_number, suspended_out}

-- a trace's answer at count c as the answer of a search there: c steps and 16 more are walked, and none where trace refuses without a walk
abbrev pub as_search : (c : ℕ) → Traced → Searched
as_search c (origin iv m) = found c iv m (c + 16)
as_search c (Traced.refused n) = refused n (pick (eqb n no_origin) (c + 16) 0)

-- a dump of where a list ended: 112 bytes that list the cipher state there
pub record DumpOf (a : History) (dump : Bytes) : Type 0 where
  pub long : length dump.list ≡ 112
  pub lists : registers_at dump.list ≡ end a

-- no lesser count of the range leads where a list ended
abbrev pub NoLesserCount : History → (lowest : ℕ) → Type 0
NoLesserCount a lowest = (c : ℕ) → lowest ≤ c → c < drawn a → NoneLeads (key_of a) (end a) c

-- What is found of where a list ended, in a range that holds its count. The request asks for the least count: a lesser one in the range that leads there too
-- stands before the list's own.
pub record FoundAgain (a : History) (dump : Bytes) (lowest highest : ℕ) : Type 0 where
  -- Something is found, at the list's own count or a lesser one;
  pub some : (c : ℕ) × (iv : List ℕ) × (m : Mode) × (c ≤ drawn a) × (search dump.list (key_of a) lowest highest ≡ found c iv m (steps_to lowest c))
  -- the list's own count, stay number and mode exactly if no lesser count of the range leads there,
  pub itself : (search dump.list (key_of a) lowest highest ≡ found (drawn a) (iv_of a) (mode_of a) (steps_to lowest (drawn a))) ↔ NoLesserCount a lowest
  -- as in every range that begins at its own count;
  pub from_there : lowest ≡ drawn a → search dump.list (key_of a) lowest highest ≡ found (drawn a) (iv_of a) (mode_of a) (drawn a + 16)
  -- and at its own count nothing but these.
  pub own : (iv : List ℕ) (m : Mode) → search dump.list (key_of a) lowest highest ≡ found (drawn a) iv m (steps_to lowest (drawn a))
      → (iv ≡ iv_of a) × (m ≡ mode_of a)

pub record SearchClaims : Type 0 where
  -- Found exactly if it is the least count of the range at which an IV and mode lead there, and these are the ones; 6 exactly if at none in the range any do; each
  -- other number exactly if its condition holds and no earlier one does; each with its steps.
  pub answers : (dump key : Bytes) (lowest highest : ℕ)
      → Searches dump.list key.list lowest highest (search dump.list key.list lowest highest)
  -- Nothing else meets that.
  pub settles : (dump key : Bytes) (lowest highest : ℕ) (a : Searched) → Searches dump.list key.list lowest highest a
      → a ≡ search dump.list key.list lowest highest
  -- There is one least count, with one IV and mode.
  pub one_least : (dump key : Bytes) (lowest highest c d : ℕ) (iv v : List ℕ) (m w : Mode) → Searchable dump.list key.list lowest highest
      → Least key.list (registers_at dump.list) lowest highest c iv m → Least key.list (registers_at dump.list) lowest highest d v w
      → (c ≡ d) × ((iv ≡ v) × (m ≡ w))
  -- In a range of one count the search is trace, at that count.
  pub one_count : (dump key : Bytes) → length dump.list ≡ 112 → (c : ℕ)
      → search dump.list key.list c c ≡ as_search c (trace (record { registers = registers_at dump.list; count = c }) key.list)
  -- Bytes 16 to 127 of what an accepted suspend wrote are a dump of where its list ended, and so are the bytes of the registers that a list of runs left.
  pub suspended : (key iv : Bytes) (cs : List Call) → Accepted (in_session key iv cs) → (out dump : Bytes) → suspended_number key iv cs out ≡ 0
      → dump.list ≡ part 16 112 (suspended_out key iv cs out) → DumpOf (in_session key iv cs) dump
  pub ran : (key iv : Bytes) (m : Mode) (rs : List Run) → Accepted (in_runs key iv m rs) → (dump : Bytes)
      → dump.list ≡ registers_bytes (state_after (in_runs key iv m rs)).registers → DumpOf (in_runs key iv m rs) dump
  -- After every list of demand 3, refused calls included, a dump of where it ended is found in every range up to 65,538 that holds the count of blocks drawn.
  pub reached : (a : History) → Accepted a → (dump : Bytes) → DumpOf a dump → (lowest highest : ℕ) → lowest ≤ drawn a → drawn a ≤ highest
      → highest ≤ most_blocks → FoundAgain a dump lowest highest
