-- The limits of documents 01 and 02, named once. Lengths are in bytes, counts in blocks of 16 bytes.
use Rattle.std.specs.Prelude.{ℕ}

abbrev pub most_data : ℕ
most_data = 65535

abbrev pub most_text : ℕ
most_text = 1048576

-- the highest block count: 2 and the blocks of the longest text
abbrev pub most_blocks : ℕ
most_blocks = 65538

-- the most text in a page of a page file: its 512 bytes but for header and tag
abbrev pub most_page_text : ℕ
most_page_text = 474

-- the last day; days count from 1 January 2000 as 0
abbrev pub last_day : ℕ
last_day = 73048

-- the first and the last year of a date that has a day
abbrev pub first_year : ℕ
first_year = 2000

abbrev pub last_year : ℕ
last_year = 2199

-- for how many months after its departure a page is kept
abbrev pub kept_months : ℕ
kept_months = 18

-- hex digits in a line of the program's input
abbrev pub most_digits : ℕ
most_digits = 8192

-- the scheduler (document 02: the desk): its stays, the bytes of a turn's piece unless less is left, and its turns, 2^62
abbrev pub most_stays : ℕ
most_stays = 32

abbrev pub most_piece : ℕ
most_piece = 4096

abbrev pub most_turns : ℕ
most_turns = 4611686018427387904
