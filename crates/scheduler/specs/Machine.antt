-- What the code answers, in the terms of the definitions: who is next, and what a turn says. Zeros for what there is not.
use Rattle.std.specs.Prelude.{ℕ, List, Bool, true, false, Option, None, Some, Result, Ok, Err}
use Rattle.scope.specs.declared.Refusal.{Refusal}
use Rattle.words.specs.Bytes.{zeros}
use Rattle.scheduler.specs.declared.NextStay.{NextStay}
use Rattle.scheduler.specs.declared.Turned.{Turned}

-- ---- who is next

abbrev pub found_of : Result (Option NextStay) Refusal → Bool
found_of (Ok (Some s)) = true
found_of (Ok None) = false
found_of (Err e) = false

abbrev pub next_iv_of : Result (Option NextStay) Refusal → List ℕ
next_iv_of (Ok (Some s)) = s.iv
next_iv_of (Ok None) = zeros
next_iv_of (Err e) = zeros

abbrev pub next_due_of : Result (Option NextStay) Refusal → ℕ
next_due_of (Ok (Some s)) = s.due
next_due_of (Ok None) = 0
next_due_of (Err e) = 0

-- ---- a turn

-- whether a tag is there, and the tag
abbrev pub tagged : Option (List ℕ) → Bool
tagged (Some t) = true
tagged None = false

abbrev pub tag_or_zeros : Option (List ℕ) → List ℕ
tag_or_zeros (Some t) = t
tag_or_zeros None = zeros

-- whether the turn is numbered
abbrev pub served_of : Result (Option Turned) Refusal → Bool
served_of (Ok (Some t)) = true
served_of (Ok None) = false
served_of (Err e) = false

abbrev pub turn_of : Result (Option Turned) Refusal → ℕ
turn_of (Ok (Some t)) = t.turn
turn_of (Ok None) = 0
turn_of (Err e) = 0

abbrev pub whom_of : Result (Option Turned) Refusal → List ℕ
whom_of (Ok (Some t)) = t.iv
whom_of (Ok None) = zeros
whom_of (Err e) = zeros

-- a stay that has finished has a tag
abbrev pub finished_of : Result (Option Turned) Refusal → Bool
finished_of (Ok (Some t)) = tagged t.tag
finished_of (Ok None) = false
finished_of (Err e) = false

abbrev pub tag_of : Result (Option Turned) Refusal → List ℕ
tag_of (Ok (Some t)) = tag_or_zeros t.tag
tag_of (Ok None) = zeros
tag_of (Err e) = zeros
