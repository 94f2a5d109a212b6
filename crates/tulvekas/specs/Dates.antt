-- The number of a day and the keeping rule as C asks for them (document 02, S-4; the bytes are include/tulvekas.h's): the bytes that are told. A date's stand in
-- crates/bytes_c/specs/Replies.antt, with the number that is answered and what stands in the lent buffer.
use Rattle.std.specs.Prelude.{[], ◌∷◌}
use Rattle.scope.specs.Refusals.{pick}
use Rattle.words.specs.Bytes.{little}
use Rattle.calendar.specs.Calls.{Numbered}
use Rattle.retention.specs.Keeping.{Verdict}
use Rattle.bytes_c.specs.Replies.{Reply, Reply.bytes, Reply.refused}

-- a day in eight bytes, low byte first
abbrev pub day_reply : Numbered → Reply
day_reply (Numbered.numbered n) = bytes (little 8 n)
day_reply (Numbered.refused n) = refused n

-- one byte: 1 kept, 0 not
abbrev pub kept_reply : Verdict → Reply
kept_reply (Verdict.decided b) = bytes (pick b 1 0 ∷ [])
kept_reply (Verdict.refused n) = refused n
