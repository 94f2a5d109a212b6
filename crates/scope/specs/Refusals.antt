-- Document 01, "What reception says when it turns you away", and document 02 ("Numbers from 13 on join document 01's table and rules"): the number
-- of each refusal, and how a call's order of refusals is written.
-- A call's number is 0 where it is accepted.
use Rattle.std.specs.Prelude.{ℕ, Bool, true, false, eqb}

-- the first where the test holds, else the second
abbrev pub pick {ℓ} : {A : Type ℓ} → Bool → A → A → A
pick true a b = a
pick false a b = b

-- the refusal's number where its condition holds, else what comes later in the call's order
abbrev pub refuse : Bool → ℕ → ℕ → ℕ
refuse c n later = pick c n later

-- what an accepted call gives, and what a refused one does
abbrev pub granted {ℓ} : {A : Type ℓ} → ℕ → A → A → A
granted n given kept = pick (eqb n 0) given kept

-- 1 wrong key: the key is not 32 bytes; for a key store (document 02), either of two keys is not
abbrev pub key_length : ℕ
key_length = 1

-- 2 wrong stay number: the IV is not 16 bytes; for a page file (document 02), the stay is not 12
abbrev pub iv_length : ℕ
iv_length = 2

-- 3 book full: associated data over 65,535 bytes or text over 1,048,576, counted over the session; for a page file, text over 474;
-- for the scheduler (document 02), no text or text over 1,048,576 at joining, and a piece that is not as long as the one due
abbrev pub too_long : ℕ
too_long = 3

-- 4 short page: the lent output is shorter than what must be written; for a key store, no block is empty
abbrev pub short_output : ℕ
short_output = 4

-- 5 seal broken: the tag differs, of a page or of a key in a key store
abbrev pub bad_tag : ℕ
bad_tag = 5

-- 6 not ours: no IV and mode lead to this state; at resume (document 01: take up), none in sealed mode; in a search (document 02), none at any count of the range
abbrev pub no_origin : ℕ
no_origin = 6

-- 7 late entry: the call is out of phase, after finish every call
abbrev pub out_of_phase : ℕ
out_of_phase = 7

-- 8 torn block: a suspended session's block (document 01: a parked block) breaks a layout rule; document 02: a key store's length or block does, or a
-- number stands in it twice; a dump is not 112 bytes, a scheduler not 8,208; for C, a session or a state has another length
abbrev pub bad_block : ℕ
bad_block = 8

-- 9 too far: a block count over 65,538, of a state, of a run, of where steps forward would lead, or the highest of a range; for the
-- scheduler, a turn past 2^62
abbrev pub count_too_high : ℕ
count_too_high = 9

-- 10 cut seal: the tag is not 16 bytes
abbrev pub tag_length : ℕ
tag_length = 10

-- 11 unreadable: the program's input is malformed
abbrev pub malformed : ℕ
malformed = 11

-- 12 no such day: a day outside 0 to 73,048; document 02: a date that is lacking or outside 2000 to 2199
abbrev pub day_range : ℕ
day_range = 12

-- 13: a page file whose length is no multiple of 512, a place past its end, a stored length over 474, a stored day out of range, or padding that
-- is not zero
abbrev pub bad_file : ℕ
bad_file = 13

-- 14: a stay that lacks the page named, whose pages do not run 0, 1, 2 in file order, or hold different days
abbrev pub bad_stay : ℕ
bad_stay = 14

-- 15: a step back at a count of 0, by itself or in a run
abbrev pub before_start : ℕ
before_start = 15

-- 16: a number that is present in a key store, with mark 1 or 2, at storing; a stay number that is at the scheduler, at joining
abbrev pub number_taken : ℕ
number_taken = 16

-- 17: a number that is absent from a key store, or erased there, at fetching and erasing
abbrev pub no_key : ℕ
no_key = 17

-- 18: a range of counts whose lowest is above its highest
abbrev pub range_order : ℕ
range_order = 18

-- 19: a stay that would join a scheduler which has its 32
abbrev pub scheduler_full : ℕ
scheduler_full = 19
