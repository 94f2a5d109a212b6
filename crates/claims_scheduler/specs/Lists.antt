-- Lists of the scheduler's calls, from an empty one on (document 02, S-10: "From an empty desk on, by its calls alone"). Each call gets the scheduler that the one before it left, and
-- all else that it is handed is arbitrary; refused ones stand in the list too. Asking who is next only reads, so that it stands in no list. Every call is the definition that its
-- contract names, for any order among equal marks.
use Rattle.std.specs.Prelude.{ℕ, ◌-◌, List, [], ◌∷◌, ◌++◌, get_or}
use Rattle.scheduler.specs.Scheduler.{Scheduler, empty, Order}
use Rattle.scheduler.specs.Calls.{join_call, Service, Outcome, Outcome.idle, Outcome.refused, Outcome.served, turn_call}
use Rattle.claims.specs.Lists.{Bytes}

-- a call, and all that it is handed beside the scheduler
pub data Call : Type 0 where
  join : (key iv : Bytes) (text : ℕ) → Call
  turn : (piece out : Bytes) → Call

-- where a list of calls has come to: the scheduler, and what the numbered turns did and said, from turn 1 on
pub record Trail : Type 0 where
  pub scheduler : Scheduler
  pub log : List Service

abbrev pub logged : Outcome → List Service
logged idle = []
logged (refused n) = []
logged (served v) = v ∷ []

-- one call more
unfoldable pub call : Order → Trail → Call → Trail
call o t (join key iv n) = record { scheduler = join_call t.scheduler key.list iv.list n; log = t.log }
call o t (turn p out) =
    let g = turn_call o t.scheduler p.list out.list in
    record { scheduler = g.scheduler; log = t.log ++ logged g.outcome }

unfoldable pub calls : Order → Trail → List Call → Trail
calls o t [] = t
calls o t (c ∷ cs) = calls o (call o t c) cs

-- the whole list, from an empty scheduler on
abbrev pub after : Order → List Call → Trail
after o cs = calls o (record { scheduler = empty; log = [] }) cs

-- what turn k did, where there was one
abbrev pub no_service : Service
no_service = record { turn = 0; iv = []; piece = []; written = []; left = 0; tag = [] }

abbrev pub service_at : List Service → ℕ → Service
service_at log k = get_or log (k - 1) no_service
