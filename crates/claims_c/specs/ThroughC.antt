-- That through C nothing is otherwise, so that the demands hold there as well. proofs/ThroughC.antt proves it.
use Rattle.std.specs.Prelude.{ℕ, ◌*◌, ◌≤◌, ◌<◌, ◌≡◌, ◌⊎◌, true, not, ◌&&◌, List, ◌∷◌, ◌++◌, eqb, leb, length, take, drop}
use Rattle.scope.specs.Limits.{last_day, most_blocks}
use Rattle.scope.specs.Refusals.{pick, granted, no_origin, short_output, day_range, no_key}
use Rattle.words.specs.Bytes.{little, part}
use Rattle.cipher.specs.Run.{forward}
use Rattle.cipher.specs.State.{State, run_number, run_state, run_part}
use Rattle.start.specs.Start.{Mode.sealed, started, start_number}
use Rattle.start.specs.Leads.{Traced, Traced.origin, Traced.refused, Traces}
use Rattle.session.specs.Session.{Session}
use Rattle.session.specs.Calls.{data_call, text_call, finish_call}
use Rattle.layout.specs.Block.{read}
use Rattle.suspend.specs.Calls.{state_for, suspend_call}
use Rattle.suspend.specs.Walk.{resume_call}
use Rattle.search.specs.Search.{Searched, Searched.found, Searched.refused, steps_to, Searches}
use Rattle.search.specs.Counts.{search}
use Rattle.claims.specs.Lists.{Bytes, Run, course, after, History, History.in_session, History.in_runs, key_of, iv_of, mode_of, drawn, Source, source_key, source_number, source_iv, come_to, ends}
use Rattle.claims.specs.Claims.{Keyed, InOrder, OpenRefused}
use Rattle.claims_altered.specs.Claims.{SealedPage, SameLengths, OneBlock, HNotZero}
use Rattle.claims_search.specs.Claims.{NoLesserCount}
use Rattle.page.specs.Calls.{seal_number, seal_out, seal_tag}
use Rattle.page_file.specs.Calls as Files
use Rattle.page_file.specs.Calls.{Opened, open_out, open_answer}
use Rattle.key_store.specs.Calls.{store_number, store_after, fetch_number, fetch_key, erase_number, erase_after}
use Rattle.claims_keys.specs.Lists as Keys
use Rattle.claims_keys.specs.Lists.{never_erases}
use Rattle.calendar.specs.Calendar.{Date, on_or_before, date_on}
use Rattle.calendar.specs.Calls.{Dated, Dated.dated, to_date, to_day}
use Rattle.retention.specs.Keeping.{last_date, kept_until, keeping}
use Rattle.bytes_c.specs.Order.{next}
use Rattle.bytes_c.specs.StateBytes.{state_bytes, state_in}
use Rattle.bytes_c.specs.SessionBytes.{session_bytes, session_in}
use Rattle.bytes_c.specs.Modes.{mode_named, mode_byte}
use Rattle.bytes_c.specs.Replies.{Reply, Reply.bytes, reply_answer, reply_writes, date_in, date_reply}
use Rattle.tulvekas.specs.Pages.{seal_answer, seal_writes, seal_writes_tag}
use Rattle.tulvekas.specs.Files.{file_open_answer, file_open_writes, file_open_length}
use Rattle.tulvekas.specs.Keys.{keys_fetch_answer, keys_fetch_writes}
use Rattle.tulvekas.specs.Sessions.{data_answer, text_answer, text_writes, finish_answer, finish_writes_tag, finish_writes_iv, suspend_answer, suspend_writes, resume_answer, resume_writes}
use Rattle.tulvekas.specs.Cipher.{fitting, keystream_answer, keystream_writes, back_named, run_answer, run_writes, state_of_answer, trace_of_bytes, trace_answer, trace_iv, trace_sealed}
use Rattle.tulvekas.specs.Search.{search_answer, search_count, search_iv, search_sealed, search_steps}
use Rattle.tulvekas.specs.Dates.{day_reply, kept_reply}
use Rattle.claims_c.specs.Lists.{left, Buffers, CCall, c_after, below, left_state, c_run, c_course, CSessionCall, c_come_to, session_below}
use Rattle.claims_c.specs.Schedule.{ScheduleThroughC}

-- bytes b on which every call for C answers and writes what the call below does on the session s
pub record Stands (b : List ℕ) (s : Session) : Type 0 where
  pub bytes : b ≡ session_bytes s
  pub lists : session_in b ≡ s
  pub data_answers : (p : List ℕ) → data_answer b p ≡ (data_call s p).number
  pub text_answers : (p out : List ℕ) → text_answer b p out ≡ (text_call s p out).number
  pub text_output : (p out : List ℕ) → text_writes b p out ≡ (text_call s p out).out
  pub finish_answers : (tag iv : List ℕ) → 16 ≤ length tag → 16 ≤ length iv → finish_answer b tag iv ≡ (finish_call s).number
  pub finish_tag : (tag iv : List ℕ) → 16 ≤ length tag → 16 ≤ length iv
      → finish_writes_tag b tag iv ≡ granted (finish_call s).number ((finish_call s).tag ++ drop 16 tag) tag
  pub finish_iv : (tag iv : List ℕ) → 16 ≤ length tag → 16 ≤ length iv
      → finish_writes_iv b tag iv ≡ granted (finish_call s).number ((finish_call s).iv ++ drop 16 iv) iv
  pub finish_session : (tag iv : List ℕ) → 16 ≤ length tag → 16 ≤ length iv
      → left (finish_answer b tag iv) (finish_call (session_in b)).session b ≡ session_bytes (finish_call s).session
  pub suspend_answers : (out : List ℕ) → suspend_answer b out ≡ (suspend_call s out).number
  pub suspend_output : (out : List ℕ) → suspend_writes b out ≡ (suspend_call s out).out

-- Suspend of the session b into an output is answered 0. Resume under the key with the 512 bytes that it wrote, into any two buffers with room, is
-- answered 0, writes the IV, and the very bytes b; what lies behind stays.
pub record ResumesThroughC (key iv b out session into : List ℕ) : Type 0 where
  pub suspended : suspend_answer b out ≡ 0
  pub answered : resume_answer key (take 512 (suspend_writes b out)) session into ≡ 0
  pub same_bytes :
      left (resume_answer key (take 512 (suspend_writes b out)) session into) (resume_call key (take 512 (suspend_writes b out))).session session
      ≡ b ++ drop 240 session
  pub same_iv : resume_writes key (take 512 (suspend_writes b out)) session into ≡ iv ++ drop 16 into

-- what C is told of an answer to trace, in two buffers with room: the number, and what stands in them
abbrev pub Told : Traced → (iv sealed-byte : List ℕ) → ℕ → (iv' sealed-byte' : List ℕ) → Type 0
Told (origin v m) iv sb n iv' sb' = (n ≡ 0) × ((iv' ≡ v ++ drop 16 iv) × (sb' ≡ mode_byte m ∷ drop 1 sb))
Told (refused k) iv sb n iv' sb' = (n ≡ k) × ((iv' ≡ iv) × (sb' ≡ sb))

-- trace through C from these bytes tells this
abbrev pub TracesThroughC : (state key : List ℕ) → Traced → Type 0
TracesThroughC s key a =
    (iv sb : List ℕ) → 16 ≤ length iv → 1 ≤ length sb
    → Told a iv sb (trace_answer (trace_of_bytes s key) iv sb) (trace_iv (trace_of_bytes s key) iv sb) (trace_sealed (trace_of_bytes s key) iv sb)

-- the four buffers of a search have room for what is found
pub record Roomy (count iv sealed-byte steps : List ℕ) : Type 0 where
  pub for_count : 8 ≤ length count
  pub for_iv : 16 ≤ length iv
  pub for_mode : 1 ≤ length sealed-byte
  pub for_steps : 8 ≤ length steps

-- what C is told of an answer to a search, in any four buffers: the number, and what stands in them. Where one has no room for what is found, 4, and all of them
-- as they were; of the refusals 6 alone writes something, its steps, where these have room.
abbrev pub ToldSearched : Searched → (count iv sealed-byte steps : List ℕ) → ℕ → (count' iv' sealed-byte' steps' : List ℕ) → Type 0
ToldSearched (found c v m k) count iv sb steps n count' iv' sb' steps' =
    (Roomy count iv sb steps
    → (n ≡ 0)
    × ((count' ≡ little 8 c ++ drop 8 count)
    × ((iv' ≡ v ++ drop 16 iv) × ((sb' ≡ mode_byte m ∷ drop 1 sb) × (steps' ≡ little 8 k ++ drop 8 steps)))))
    × (¬ Roomy count iv sb steps → (n ≡ short_output) × ((count' ≡ count) × ((iv' ≡ iv) × ((sb' ≡ sb) × (steps' ≡ steps)))))
ToldSearched (Searched.refused i k) count iv sb steps n count' iv' sb' steps' =
    (n ≡ i)
    × ((count' ≡ count) × ((iv' ≡ iv) × ((sb' ≡ sb) × (steps' ≡ pick (eqb i no_origin && leb 8 (length steps)) (little 8 k ++ drop 8 steps) steps))))

-- a search through C of this dump tells this
abbrev pub SearchesThroughC : (dump key : List ℕ) (lowest highest : ℕ) → Searched → Type 0
SearchesThroughC dump key lowest highest a =
    (count iv sb steps : List ℕ)
    → let b = search dump key lowest highest in
    ToldSearched a count iv sb steps (search_answer b count iv sb steps) (search_count b count iv sb steps) (search_iv b count iv sb steps)
    (search_sealed b count iv sb steps) (search_steps b count iv sb steps)

-- a search through C, in a range up to 65,538 that holds what a list has drawn and no lesser count of which leads where it ended, tells the list's own count, IV and mode
abbrev pub FindsThroughC : History → (dump : List ℕ) → Type 0
FindsThroughC h dump =
    (lowest highest : ℕ) → lowest ≤ drawn h → drawn h ≤ highest → highest ≤ most_blocks → NoLesserCount h lowest
    → SearchesThroughC dump (key_of h) lowest highest (found (drawn h) (iv_of h) (mode_of h) (steps_to lowest (drawn h)))

-- bytes b from which every run, either way, answers, writes and leaves what the run below does from the state s
pub record StandsState (b : List ℕ) (s : State) : Type 0 where
  pub bytes : b ≡ state_bytes s
  pub lists : state_in b ≡ s
  pub run_answers : (n back : ℕ) (out : List ℕ) → run_answer b n back out ≡ run_number (back_named back) s.count (length out) n
  pub run_output : (n back : ℕ) (out : List ℕ)
      → let blocks = run_part (back_named back) s (length out) n in run_writes b n back out ≡ blocks ++ drop (length blocks) out
  pub run_left : (n back : ℕ) (out : List ℕ) → c_run b n back out ≡ state_bytes (run_state (back_named back) s (length out) n)

-- `state_of` a block is answered 0 and leaves the bytes of this state, from which trace through C tells this
pub record NamedThroughC (key block state : List ℕ) (s : State) (a : Traced) : Type 0 where
  pub answered : state_of_answer block state ≡ 0
  pub bytes : left_state (state_of_answer block state) (state_for (read block)) state ≡ state_bytes s
  pub traced : TracesThroughC (left_state (state_of_answer block state) (state_for (read block)) state) key a

-- what C is told of an answer to open from a page file, with room for the length: the number, and what stands in the length's buffer
abbrev pub ToldOpened : Opened → (len : List ℕ) → ℕ → (len' : List ℕ) → Type 0
ToldOpened (Files.Opened.written k) len n len' = (n ≡ 0) × (len' ≡ little 8 k ++ drop 8 len)
ToldOpened (Files.Opened.refused k) len n len' = (n ≡ k) × (len' ≡ len)

-- A date's four bytes, in a buffer with room, are answered 0 and list it; what lies behind stays.
pub record DateThroughC (a : Dated) (d : Date) (out : List ℕ) : Type 0 where
  pub answered : reply_answer (date_reply a) out ≡ 0
  pub lists : date_in (reply_writes (date_reply a) out) ≡ d
  pub behind : drop 4 (reply_writes (date_reply a) out) ≡ drop 4 out

-- The date of a day goes to C so, and the day of the date that C then hands back is answered 0 and is the day again.
pub record DayThroughC (n : ℕ) (out number : List ℕ) : Type 0 where
  pub date : DateThroughC (to_date n) (date_on n) out
  pub answered : reply_answer (day_reply (to_day (date_in (reply_writes (date_reply (to_date n)) out)))) number ≡ 0
  pub again : reply_writes (day_reply (to_day (date_in (reply_writes (date_reply (to_date n)) out)))) number ≡ little 8 n ++ drop 8 number

-- A call is refused with this number, and its buffer is as it was.
pub record RefusedThroughC (a : Reply) (n : ℕ) (out : List ℕ) : Type 0 where
  pub answered : reply_answer a out ≡ n
  pub untouched : reply_writes a out ≡ out

pub record ThroughC : Type 0 where
  -- Through C every list of calls leaves the bytes of the session that the same list leaves below, whatever stood in them before.
  pub stands : (key iv : Bytes) → Keyed key iv → (session : List ℕ) → length session ≡ 240 → (cs : List CCall)
      → Stands (c_after key iv session cs) (after key iv (below cs)).session
  -- After every list a session that is suspended and resumed has the very bytes that it had.
  pub resumed : (key iv : Bytes) → Keyed key iv → (session : List ℕ) → length session ≡ 240 → (cs : List CCall) (out : Bytes) → 512 ≤ length out.list
      → (fresh into : List ℕ) → 240 ≤ length fresh → 16 ≤ length into
      → ResumesThroughC key.list iv.list (c_after key iv session cs) out.list fresh into
  -- S-5: through C every list from an accepted begin, or from an accepted resume of any block, with finish into any buffers anywhere in it, leaves the bytes of
  -- the session that the same list leaves below, whatever stood in them before.
  pub stands_on : (o : Source) → source_number o ≡ 0 → (f : Buffers) (cs : List CSessionCall) → Stands (c_come_to o f cs) (come_to o (session_below cs))
  -- Their bytes 224-239 are the stay number that was handed to begin, or that resume gave, and finish writes it, unless one stands in the list already.
  pub iv_carried : (o : Source) → source_number o ≡ 0 → (f : Buffers) (cs : List CSessionCall) → part 224 16 (c_come_to o f cs) ≡ source_iv o
  pub iv_given : (o : Source) → source_number o ≡ 0 → (f : Buffers) (cs : List CSessionCall) (tag iv : List ℕ) → 16 ≤ length tag → 16 ≤ length iv
      → finish_writes_iv (c_come_to o f cs) tag iv ≡ pick (ends (session_below cs)) iv (source_iv o ++ drop 16 iv)
  -- And where suspend is accepted, the session resumed has the very bytes that it had.
  pub resumed_on : (o : Source) → source_number o ≡ 0 → (f : Buffers) (cs : List CSessionCall) (out : Bytes)
      → (suspend_call (come_to o (session_below cs)) out.list).number ≡ 0 → (fresh into : List ℕ) → 240 ≤ length fresh → 16 ≤ length into
      → ResumesThroughC (source_key o) (source_iv o) (c_come_to o f cs) out.list fresh into
  -- With room for the tag, seal answers and writes what seal below does; open is the very call below.
  pub seals : (key iv ad text out tag : List ℕ) → 16 ≤ length tag
      → (seal_answer key iv ad text out tag ≡ seal_number key iv ad text out)
      × (seal_writes key iv ad text out tag ≡ seal_out key iv ad text out)
      × (seal_writes_tag key iv ad text out tag ≡ granted (seal_number key iv ad text out) (seal_tag key iv ad text out ++ drop 16 tag) tag)
  -- S-9: where H is not zero, open of the page that seal wrote, altered in one block of its data or ciphertext with its lengths kept, into an output with room, under
  -- the tag that seal wrote, is refused with 5 and writes nothing.
  pub altered_refused : (key iv ad text out tag : Bytes) → InOrder key iv ad text out → 16 ≤ length tag.list → HNotZero key iv → (p q : SealedPage)
      → p.ad.list ≡ ad.list → p.cipher.list ≡ take (length text.list) (seal_writes key.list iv.list ad.list text.list out.list tag.list)
      → SameLengths p q → OneBlock p q → (into : Bytes) → length q.cipher.list ≤ length into.list
      → OpenRefused key iv q.ad q.cipher.list (take 16 (seal_writes_tag key.list iv.list ad.list text.list out.list tag.list)) into
  -- With room for the length, open from a page file tells what that open below answers, and writes what it does; seal into one is the very call below.
  pub opens_file : (key stay : List ℕ) (n : ℕ) (file out len : List ℕ) → 8 ≤ length len
      → ToldOpened (open_answer key stay n file (length out)) len (file_open_answer key stay n file out len) (file_open_length key stay n file out len)
      × (file_open_writes key stay n file out len ≡ open_out key stay n file out)
  -- S-6: with room for the key, fetch answers what fetch below does and writes the key; store and erase are the very calls below. So through C what was stored
  -- is fetched, and what was erased is refused with 17, after every list of calls that the claims of key stores speak of.
  pub fetches_key : (key iv store out : List ℕ) → 32 ≤ length out
      → (keys_fetch_answer key iv store out ≡ fetch_number key iv store)
      × (keys_fetch_writes key iv store out ≡ granted (fetch_number key iv store) (fetch_key key iv store ++ drop 32 out) out)
  pub key_fetched : (key iv k store : List ℕ) → store_number key iv k store ≡ 0 → (cs : List Keys.Call) → never_erases iv cs ≡ true
      → (out : List ℕ) → 32 ≤ length out
      → (keys_fetch_answer key iv (Keys.after cs (store_after key iv k store)) out ≡ 0)
      × (keys_fetch_writes key iv (Keys.after cs (store_after key iv k store)) out ≡ k ++ drop 32 out)
  pub key_gone : (iv store : List ℕ) → erase_number iv store ≡ 0 → (cs : List Keys.Call) (key : List ℕ) → length key ≡ 32 → (out : List ℕ)
      → (keys_fetch_answer key iv (Keys.after cs (erase_after iv store)) out ≡ no_key)
      × (keys_fetch_writes key iv (Keys.after cs (erase_after iv store)) out ≡ out)
  -- S-10: nor is the scheduler otherwise through C.
  pub schedules : ScheduleThroughC
  -- Keystream answers and writes what start and a run forward of as many whole blocks as fit do.
  pub keystream : (key iv : Bytes) (mode : ℕ) (out : List ℕ)
      → let blocks = run_part forward (started key.list iv.list (mode_named mode)) (length out) (fitting out) in
      (keystream_answer key.list iv.list out ≡ next (start_number key.list iv.list) (run_number forward 0 (length out) (fitting out)))
      × (keystream_writes key.list iv.list mode out ≡ granted (start_number key.list iv.list) (blocks ++ drop (length blocks) out) out)
  -- Through C every list of runs leaves the bytes of the state that the same list leaves below, its count with it, whatever stood in them before.
  pub stands_state : (key iv : Bytes) → Keyed key iv → (mode : ℕ) (state : List ℕ) → length state ≡ 120 → (rs : List Run)
      → StandsState (c_course key iv mode state rs) (course key iv (mode_named mode) rs).state
  -- From any 120 bytes a run that is accepted, and one of as many blocks the other way with room for them, leave the very bytes.
  pub returned : (state : Bytes) → length state.list ≡ 120 → (n back there : ℕ) → back_named there ≡ not (back_named back) → (out into : List ℕ)
      → run_answer state.list n back out ≡ 0 → 16 * n ≤ length into
      → (run_answer (c_run state.list n back out) n there into ≡ 0) × (c_run (c_run state.list n back out) n there into ≡ state.list)
  -- Trace tells the answer that `Traces` says of the state that 120 bytes list: an IV and mode exactly if they lead there.
  pub traces : (state key : Bytes) → length state.list ≡ 120
      → (a : Traced) × (Traces (state_in state.list) key.list a × TracesThroughC state.list key.list a)
  -- A state names its stay: after every list, `state_of` makes of the 512 bytes that suspend wrote the bytes of the session's own state, its count with it,
  -- and trace from them tells the begin's IV and sealed mode,
  pub names : (key iv : Bytes) → Keyed key iv → (session : List ℕ) → length session ≡ 240 → (cs : List CCall) (out : Bytes) → 512 ≤ length out.list
      → (state : List ℕ) → length state ≡ 120
      → NamedThroughC key.list (take 512 (suspend_writes (c_after key iv session cs) out.list)) state (after key iv (below cs)).session.state
      (origin iv.list sealed)
  -- and trace from the bytes that a list of runs leaves tells its start's IV and mode.
  pub names_run : (key iv : Bytes) → Keyed key iv → (mode : ℕ) (state : List ℕ) → length state ≡ 120 → (rs : List Run)
      → TracesThroughC (c_course key iv mode state rs) key.list (origin iv.list (mode_named mode))
  -- S-8: a search tells, in any four buffers, the answer below, which is what `Searches` says of the dump; and bytes 16 to 127 of the block that suspend wrote, or
  -- bytes 0 to 111 of the state that a list of runs left, are found at the count of blocks drawn, with the list's IV and mode, in every range up to 65,538 that holds
  -- that count and no lesser count of which leads there.
  pub searches : (dump key : Bytes) (lowest highest : ℕ)
      → let a = search dump.list key.list lowest highest in
      Searches dump.list key.list lowest highest a × SearchesThroughC dump.list key.list lowest highest a
  pub finds : (key iv : Bytes) → Keyed key iv → (session : List ℕ) → length session ≡ 240 → (cs : List CCall) (out : Bytes) → 512 ≤ length out.list
      → (dump : Bytes) → dump.list ≡ part 16 112 (suspend_writes (c_after key iv session cs) out.list)
      → FindsThroughC (in_session key iv (below cs)) dump.list
  pub finds_run : (key iv : Bytes) → Keyed key iv → (mode : ℕ) (state : List ℕ) → length state ≡ 120 → (rs : List Run) (dump : Bytes)
      → dump.list ≡ part 0 112 (c_course key iv mode state rs) → FindsThroughC (in_runs key iv (mode_named mode) rs) dump.list
  -- Through C every day has its date, and that date the day; `kept_until` writes the last date of keeping; and `kept` writes 1 exactly if the date that
  -- `date` writes for today is on or before the one that `kept_until` writes for the departure.
  pub days : (n : ℕ) → n ≤ last_day → (out number : List ℕ) → 4 ≤ length out → 8 ≤ length number → DayThroughC n out number
  pub kept_dates : (departure : ℕ) → departure ≤ last_day → (out : List ℕ) → 4 ≤ length out
      → DateThroughC (kept_until departure) (last_date (date_on departure)) out
  pub kept : (today departure : ℕ) → today ≤ last_day → departure ≤ last_day → (out date until : List ℕ) → 1 ≤ length out → 4 ≤ length date → 4 ≤ length until
      → (reply_answer (kept_reply (keeping today departure)) out ≡ 0)
      × (reply_writes (kept_reply (keeping today departure)) out
      ≡ pick (on_or_before (date_in (reply_writes (date_reply (to_date today)) date)) (date_in (reply_writes (date_reply (kept_until departure)) until))) 1 0 ∷ drop 1 out)
  -- What is refused below is refused through C with its number, in a buffer of any length: a day past the last, a date that no day has, either day of keeping.
  pub no_date : (n : ℕ) → last_day < n → (out : List ℕ) → RefusedThroughC (date_reply (to_date n)) day_range out
  pub no_day : (d : Date) → ((n : ℕ) → to_date n ≡ dated d → ⊥) → (number : List ℕ) → RefusedThroughC (day_reply (to_day d)) day_range number
  pub no_kept_date : (departure : ℕ) → last_day < departure → (out : List ℕ) → RefusedThroughC (date_reply (kept_until departure)) day_range out
  pub no_verdict : (today departure : ℕ) → (last_day < today) ⊎ (last_day < departure) → (out : List ℕ) → RefusedThroughC (kept_reply (keeping today departure)) day_range out
  -- Any bytes that the buffer has no room for are refused with 4.
  pub no_room : (v out : List ℕ) → length out < length v → RefusedThroughC (bytes v) short_output out
