-- The search for a state whose count is only roughly known (document 02, S-8), by "leads to" alone. "An old crash dump holds the 112 bytes of a parked block
-- from 16 to 127 and no count": such bytes list registers, as in the block of a suspended session (`registers_at`), and it is these that an IV and mode lead to.
use Rattle.std.specs.Prelude.{ℕ, ◌+◌, ◌*◌, ◌-◌, ◌≤◌, ◌<◌, ◌≡◌, ◌↔◌, List, length}
use Rattle.scope.specs.Limits.{most_blocks}
use Rattle.scope.specs.Refusals.{key_length, no_origin, bad_block, count_too_high, range_order}
use Rattle.cipher.specs.Registers.{Registers}
use Rattle.start.specs.Start.{Mode}
use Rattle.start.specs.Leads.{LeadsTo}
use Rattle.layout.specs.Block.{registers_at}

-- "The result carries the steps walked: c + 16 times (c - lowest + 1) where c is found, and with the highest for c where none is."
abbrev pub steps_to : (lowest c : ℕ) → ℕ
steps_to lowest c = c + 16 * (c - lowest + 1)

-- What a search answers: count, IV and mode, "all three", with the steps walked; or a refusal. "Here 6 means no count in the range fits, and carries the steps
-- too"; the others return their number only, and 0 stands in the place of steps, of which none were walked.
pub data Searched : Type 0 where
  found : (count : ℕ) (iv : List ℕ) (m : Mode) (steps : ℕ) → Searched
  refused : (number steps : ℕ) → Searched

-- no IV and mode lead to registers at a count
abbrev pub NoneLeads : (key : List ℕ) → Registers → (c : ℕ) → Type 0
NoneLeads key s c = (iv : List ℕ) (m : Mode) → ¬ LeadsTo key c iv m s

-- "the least count between them, both included, at which a stay number and mode lead there", with these
pub record Least (key : List ℕ) (s : Registers) (lowest highest c : ℕ) (iv : List ℕ) (m : Mode) : Type 0 where
  pub from : lowest ≤ c
  pub up_to : c ≤ highest
  pub leads : LeadsTo key c iv m s
  pub none_before : (d : ℕ) → lowest ≤ d → d < c → NoneLeads key s d

-- no count between them, both included, at which any lead there
abbrev pub NoneBetween : (key : List ℕ) → Registers → (lowest highest : ℕ) → Type 0
NoneBetween key s lowest highest = (c : ℕ) → lowest ≤ c → c ≤ highest → NoneLeads key s c

-- neither 1, 8, 9 nor 18
pub record Searchable (dump key : List ℕ) (lowest highest : ℕ) : Type 0 where
  pub key_long : length key ≡ 32
  pub dump_long : length dump ≡ 112
  pub within : highest ≤ most_blocks
  pub ordered : lowest ≤ highest

-- What a search answers, in the order 1, 8, 9, 18, 6. It settles the answer: no other one meets it (`settles` of crates/claims_search/specs/Claims.antt).
pub record Searches (dump key : List ℕ) (lowest highest : ℕ) (a : Searched) : Type 0 where
  pub wrong_key : (a ≡ refused key_length 0) ↔ ¬ (length key ≡ 32)
  -- "A dump of another length gives 8, a highest past the limit 9, a lowest above the highest 18"
  pub wrong_dump : (a ≡ refused bad_block 0) ↔ (length key ≡ 32) × (¬ (length dump ≡ 112))
  pub too_far : (a ≡ refused count_too_high 0) ↔ (length key ≡ 32) × (length dump ≡ 112) × (most_blocks < highest)
  pub wrong_order : (a ≡ refused range_order 0) ↔ (length key ≡ 32) × (length dump ≡ 112) × (highest ≤ most_blocks) × (highest < lowest)
  -- "Find the least count between them, both included, at which a stay number and mode lead there, and name all three."
  pub found_least : (c : ℕ) (iv : List ℕ) (m : Mode)
      → (a ≡ found c iv m (steps_to lowest c)) ↔ Searchable dump key lowest highest × Least key (registers_at dump) lowest highest c iv m
  pub found_none :
      (a ≡ refused no_origin (steps_to lowest highest)) ↔ Searchable dump key lowest highest × NoneBetween key (registers_at dump) lowest highest
