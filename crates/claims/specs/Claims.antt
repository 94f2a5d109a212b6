-- Demands 2 and 3 (the user's words stand in quotes), as statements about every list of calls, every page and every state. They speak of the
-- functions that the contracts of start, run, trace, begin, data, text, finish, suspend, resume, seal and open name, and of the page as the paper
-- defines it. Behind them stands what document 02's S-5 asks of lists. proofs/Demands.antt proves the demands, proofs/Counting.antt what is said of a session's
-- count, proofs/Knowing.antt S-5.
use Rattle.std.specs.Prelude.{ℕ, ◌+◌, ◌*◌, ◌≤◌, ◌≡◌, not, List, ◌++◌, ltb, get_or, length, take, drop}
use Rattle.scope.specs.Limits.{most_data, most_text, most_blocks}
use Rattle.scope.specs.Refusals.{pick, refuse, granted, out_of_phase, too_long, short_output, bad_tag, count_too_high}
use Rattle.words.specs.Bytes.{zeros, part}
use Rattle.cipher.specs.Registers.{IsRegisters}
use Rattle.cipher.specs.Run.{forward}
use Rattle.cipher.specs.State.{State, run_number}
use Rattle.cipher.specs.Laws.{steps, NoneRefused}
use Rattle.start.specs.Start.{Mode, Mode.sealed}
use Rattle.start.specs.Leads.{LeadsTo, LeadsToState, Traced.origin, Traces}
use Rattle.start.specs.Trace.{trace}
use Rattle.session.specs.Session.{Session, drawn_at, drawn_by}
use Rattle.session.specs.Calls.{begin_call, data_call, text_call, finish_call}
use Rattle.layout.specs.Block.{registers_at}
use Rattle.suspend.specs.Calls.{suspend_call, Revives}
use Rattle.suspend.specs.Walk.{resume_call}
use Rattle.page.specs.Page.{encrypted, cipher_of, tag_for, page_tag}
use Rattle.page.specs.Calls.{seal_number, seal_out, seal_tag, open_number, open_out}
use Rattle.page.specs.Reached.{session_for}
use Rattle.claims.specs.Lists.{Bytes, Call, after, answers_of, Joins, Run, History, History.in_session, History.in_runs, key_of, iv_of, mode_of, Accepted, end, drawn, state_after, Source, source_key, source_number, source_iv, SessionCall, come_to, ends}

-- a key of 32 bytes and an IV of 16
pub record Keyed (key iv : Bytes) : Type 0 where
  pub key_long : length key.list ≡ 32
  pub iv_long : length iv.list ≡ 16

-- ---- suspending and resuming

-- suspend of where a list has come to, into this output: its number, and what the output then holds
abbrev pub suspended_number : (key iv : Bytes) → List Call → (out : Bytes) → ℕ
suspended_number key iv cs out = (suspend_call (after key iv cs).session out.list).number

abbrev pub suspended_out : (key iv : Bytes) → List Call → (out : Bytes) → List ℕ
suspended_out key iv cs out = (suspend_call (after key iv cs).session out.list).out

-- Resume right after it, with the 512 bytes that it wrote and the begin's key, is accepted and "gives the very session that was parked", and the
-- IV that the list began with.
abbrev pub Resumes : (key iv : Bytes) → List Call → (out : Bytes) → Type 0
Resumes key iv cs out =
    resume_call key.list (take 512 (suspended_out key iv cs out)) ≡ record { number = 0; iv = iv.list; session = (after key iv cs).session }

-- ---- demand 2: sealing by pieces

-- every piece of data and text in a list is answered 0, and what was accepted is the page
pub record AllAccepted (key iv : Bytes) (cs : List Call) (ad text : List ℕ) : Type 0 where
  -- (past the last piece `get_or` gives 0)
  pub answered : (i : ℕ) → get_or (answers_of key iv cs) i 0 ≡ 0
  pub data_is : (after key iv cs).ad ≡ ad
  pub text_is : (after key iv cs).text ≡ text

-- what a list of calls has written, and what finish then gives, are the page's ciphertext and tag, and the IV that begin was handed
pub record SealedByPieces (key iv : Bytes) (cs : List Call) (ad text : List ℕ) : Type 0 where
  pub begun : (begin_call key.list iv.list).number ≡ 0
  pub cipher : (after key iv cs).cipher ≡ cipher_of key.list iv.list text
  pub finished : (finish_call (after key iv cs).session).number ≡ 0
  pub tag : (finish_call (after key iv cs).session).tag ≡ page_tag key.list iv.list ad text
  pub iv_given : (finish_call (after key iv cs).session).iv ≡ iv.list

-- "Where nothing is turned away, sealing gives precisely the ciphertext and tag that the SNOW-V paper defines, .. for every list of pieces that
-- join to it, parked and taken up between them or not."
pub record SealsByPieces : Type 0 where
  -- For every page within the limits and every list of pieces that join to it, with suspends and resumes anywhere: every piece is accepted, the
  -- ciphertext pieces join to the page's ciphertext, and finish is accepted and gives its tag and IV.
  pub page : (key iv : Bytes) → Keyed key iv → (ad text : List ℕ) → length ad ≤ most_data → length text ≤ most_text → (cs : List Call)
      → Joins cs ad text → AllAccepted key iv cs ad text × SealedByPieces key iv cs ad text
  -- For every list of calls at all, refused ones included: the same of the pieces that were accepted.
  pub any_list : (key iv : Bytes) → Keyed key iv → (cs : List Call) → SealedByPieces key iv cs (after key iv cs).ad (after key iv cs).text
  -- After every list of calls a text piece writes the page's ciphertext of it, as many bytes as it has, and nothing behind them; a refused one writes nothing.
  pub writes : (key iv : Bytes) → Keyed key iv → (cs : List Call) (p out : Bytes)
      → let t = after key iv cs in
      let g = text_call t.session p.list out.list in
      g.out ≡ granted g.number (encrypted key.list iv.list (length t.text) p.list ++ drop (length p.list) out.list) out.list
  -- After every list of calls a text piece is answered by its length and by the room for it alone: 3, 4 or 0. So neither 9 nor 7 is ever given, the count
  -- and the phase being those of a session that was begun and not finished.
  pub text_answers : (key iv : Bytes) → Keyed key iv → (cs : List Call) (p out : Bytes)
      → let t = after key iv cs in
      (text_call t.session p.list out.list).number
      ≡ refuse (ltb most_text (length t.text + length p.list)) too_long (refuse (ltb (length out.list) (length p.list)) short_output 0)
  -- After every list of calls the session is what key, IV and the accepted pieces make it.
  pub session : (key iv : Bytes) → Keyed key iv → (cs : List Call)
      → let t = after key iv cs in t.session ≡ session_for key.list iv.list t.ad t.text t.text_begun
  -- After every list of calls, suspend is accepted where the output has room for its 512 bytes, and resume right after it gives the very session.
  pub resumed : (key iv : Bytes) → Keyed key iv → (cs : List Call) (out : Bytes) → 512 ≤ length out.list
      → (suspended_number key iv cs out ≡ 0) × Resumes key iv cs out

-- ---- the count in a session

-- its state's count is that of the blocks which its text has drawn
abbrev pub Fits : Session → Type 0
Fits s = s.state.count ≡ drawn_at s.text

-- Another count than this has only a session that a caller made up, or the finished one that a refused begin or resume hands out.
pub record CountFits : Type 0 where
  -- An accepted begin gives a session of which it holds, and so does an accepted resume, from whatever block;
  pub begun : (key iv : List ℕ) → (begin_call key iv).number ≡ 0 → Fits (begin_call key iv).session
  pub resumed : (key block : List ℕ) → (resume_call key block).number ≡ 0 → Fits (resume_call key block).session
  -- the session's calls, accepted or refused, keep it so.
  pub data_keeps : (s : Session) → Fits s → (p : List ℕ) → Fits (data_call s p).session
  pub text_keeps : (s : Session) → Fits s → (p out : List ℕ) → Fits (text_call s p out).session
  pub finish_keeps : (s : Session) → Fits s → Fits (finish_call s).session
  pub suspend_keeps : (s : Session) → Fits s → (out : List ℕ) → Fits (suspend_call s out).session
  -- Of every session, made up or not: an accepted piece of text takes just as many steps as were tested against the count, none of them refused, each from
  -- where the one before it led.
  pub text_steps : (s : Session) (p out : List ℕ) → (text_call s p out).number ≡ 0
      → let n = drawn_by s.text (length p) in
      NoneRefused forward n s.state × ((text_call s p out).session.state ≡ steps forward n s.state)
  -- And in a session whose count fits no piece of text gets 9: it is answered 7, 3, 4 or 0 as document 01 has it.
  pub never_too_far : (s : Session) → Fits s → (p out : List ℕ) → (text_call s p out).number
      ≡ refuse (not (ltb s.phase 2)) out_of_phase
      (refuse (ltb most_text (s.text + length p)) too_long (refuse (ltb (length out) (length p)) short_output 0))

-- ---- demand 2: whole pages

-- all that is lent has its length in order, for seal; and for open, with a ciphertext in the text's place
pub record InOrder (key iv ad text out : Bytes) : Type 0 where
  pub keyed : Keyed key iv
  pub ad_fits : length ad.list ≤ most_data
  pub text_fits : length text.list ≤ most_text
  pub room : length text.list ≤ length out.list

-- the ciphertext where seal wrote it, and the tag that it gave
abbrev pub sealed_text : (key iv ad text out : Bytes) → List ℕ
sealed_text key iv ad text out = take (length text.list) (seal_out key.list iv.list ad.list text.list out.list)

abbrev pub sealed_tag : (key iv ad text out : Bytes) → List ℕ
sealed_tag key iv ad text out = seal_tag key.list iv.list ad.list text.list out.list

-- seal is accepted, writes the page's ciphertext at the front of its output and nothing behind it, and gives the page's tag
pub record SealedWhole (key iv ad text out : Bytes) : Type 0 where
  pub accepted : seal_number key.list iv.list ad.list text.list out.list ≡ 0
  pub output : seal_out key.list iv.list ad.list text.list out.list
      ≡ cipher_of key.list iv.list text.list ++ drop (length text.list) out.list
  pub tag : sealed_tag key iv ad text out ≡ page_tag key.list iv.list ad.list text.list

-- open of this ciphertext and tag is accepted, writes the text at the front of its output and nothing behind it
pub record Opened (key iv ad : Bytes) (cipher tag : List ℕ) (out : Bytes) (text : List ℕ) : Type 0 where
  pub accepted : open_number key.list iv.list ad.list cipher tag out.list ≡ 0
  pub output : open_out key.list iv.list ad.list cipher tag out.list ≡ text ++ drop (length text) out.list

-- it is refused with 5 and writes nothing
pub record OpenRefused (key iv ad : Bytes) (cipher tag : List ℕ) (out : Bytes) : Type 0 where
  pub number : open_number key.list iv.list ad.list cipher tag out.list ≡ bad_tag
  pub unchanged : open_out key.list iv.list ad.list cipher tag out.list ≡ out.list

-- the one text whose ciphertext this is
pub record TextOf (key iv : Bytes) (cipher text : List ℕ) : Type 0 where
  pub encrypts : cipher_of key.list iv.list text ≡ cipher
  pub only : (t : List ℕ) → cipher_of key.list iv.list t ≡ cipher → t ≡ text

-- open of a ciphertext, sealed here or not, under a tag of 16 bytes
pub record Opens (key iv ad cipher tag into : Bytes) : Type 0 where
  -- "gives the text back if the tag is the one so defined,
  pub gives : tag.list ≡ tag_for key.list iv.list ad.list cipher.list
      → (text : List ℕ) × TextOf key iv cipher.list text × Opened key iv ad cipher.list tag.list into text
  -- and otherwise refuses without writing a byte"
  pub refuses : ¬ (tag.list ≡ tag_for key.list iv.list ad.list cipher.list) → OpenRefused key iv ad cipher.list tag.list into

-- Seal gives the page that the paper defines; open gives the text back under the tag so defined, and under any other refuses.
pub record SealsAndOpens : Type 0 where
  pub seals : (key iv ad text out : Bytes) → InOrder key iv ad text out → SealedWhole key iv ad text out
  -- "Opening, its lengths in order, ..": every ciphertext, into every output that is long enough.
  pub opens : (key iv ad cipher tag into : Bytes) → InOrder key iv ad cipher into → length tag.list ≡ 16 → Opens key iv ad cipher tag into
  -- What was sealed opens to its text under the tag that seal gave,
  pub gives_back : (key iv ad text out into : Bytes) → InOrder key iv ad text out → length text.list ≤ length into.list
      → Opened key iv ad (sealed_text key iv ad text out) (sealed_tag key iv ad text out) into text.list
  -- and under no other of 16 bytes.
  pub no_other : (key iv ad text out into tag : Bytes) → InOrder key iv ad text out → length text.list ≤ length into.list
      → length tag.list ≡ 16 → ¬ (tag.list ≡ sealed_tag key iv ad text out)
      → OpenRefused key iv ad (sealed_text key iv ad text out) tag.list into

-- ---- demand 3

-- "No two stays are ever in the same cipher state, and a state names its stay." A stay is an IV with its mode; a cipher state is the contents of
-- A, B, R1, R2 and R3, and a session's are those that suspend writes. This is one claim about every list of either kind, refused calls included,
-- about every two of them, and about every state.
pub record OneStayPerState : Type 0 where
  -- Begin, and start in either mode, are accepted under every key of 32 bytes and stay number of 16: the lists are those of every stay.
  pub accepted : (a : History) → length (key_of a) ≡ 32 → length (iv_of a) ≡ 16 → Accepted a
  -- "After each such list, the stay number and mode that it began with lead to the cipher state, under its key and at its count of blocks drawn."
  pub leads : (a : History) → Accepted a → LeadsTo (key_of a) (drawn a) (iv_of a) (mode_of a) (end a)
  -- "Two such lists, of one kind or of both, always end in different cipher states if they share a key, have drawn equally many blocks, at most
  -- 65,538, and differ in stay number or mode." (No list draws more: `at_most`.)
  pub apart : (a b : History) → Accepted a → Accepted b → key_of a ≡ key_of b → drawn a ≡ drawn b
      → ¬ ((iv_of a ≡ iv_of b) × (mode_of a ≡ mode_of b)) → ¬ (end a ≡ end b)
  -- The state that a list leaves has the registers of that cipher state, and its own count is the blocks drawn, as they are counted from what was handed
  -- over; no list comes past 65,538.
  pub registers_kept : (a : History) → Accepted a → (state_after a).registers ≡ end a
  pub counted : (a : History) → Accepted a → (state_after a).count ≡ drawn a
  pub at_most : (a : History) → Accepted a → drawn a ≤ most_blocks
  -- After every list of runs a run is answered by what was drawn and by the room for it alone: 9 if it would come past 65,538 in all, else 4, else 0.
  pub run_answers : (key iv : Bytes) (m : Mode) (rs : List Run) (r : Run) → Accepted (in_runs key iv m rs)
      → let a = in_runs key iv m rs in
      run_number forward (state_after a).count (length r.out.list) r.n
      ≡ refuse (ltb most_blocks (drawn a + r.n)) count_too_high (refuse (ltb (length r.out.list) (16 * r.n)) short_output 0)
  -- "A state names its stay": trace of the state that a list leaves gives the stay number and mode that it began with.
  pub names : (a : History) → Accepted a → trace (state_after a) (key_of a) ≡ origin (iv_of a) (mode_of a)
  -- "Walking back (trace) gives the one stay number and mode that lead to a state, and is refused with 6 exactly when none leads there. That is
  -- claimed of every state, reached or not, under every key of 32 bytes and at every count up to 65,538." A state is any registers with any count, and over
  -- 65,538 it gets 9. Trace has one answer, so that no other stay number or mode leads there. The registers of every `State` of the code are such registers (`every_state` of crates/cipher/proofs/Typed.antt),
  -- and the contract of `start::trace` says the same of every `State` and every lent key, without a hypothesis.
  pub traces : (s : State) → IsRegisters s.registers → (key : Bytes) → Traces s key.list (trace s key.list)
  -- Resume answers likewise on every block, one that nobody here wrote included: 0 with an IV exactly if it leads to the block's registers in sealed mode, 6
  -- exactly if none does.
  pub revives : (key block : Bytes) → Revives key.list block.list (resume_call key.list block.list)
  -- Every accepted suspend of where a list ended writes the registers of that cipher state at bytes 16-127, whatever output it is lent.
  pub registers_written : (key iv : Bytes) (cs : List Call) → Accepted (in_session key iv cs) → (out : Bytes) → suspended_number key iv cs out ≡ 0
      → registers_at (part 16 112 (suspended_out key iv cs out)) ≡ end (in_session key iv cs)
  -- Every resume that stands in a list is accepted, and gives the stay number that the list began with and the very session that was suspended.
  pub resumed : (key iv : Bytes) (cs : List Call) → Accepted (in_session key iv cs) → (out : Bytes) → suspended_number key iv cs out ≡ 0
      → Resumes key iv cs out

-- ---- document 02, S-5: "a session that knows its stay"

-- "From an accepted begin or take up on, by the session's calls alone, it is always the one that walking its state back under its key gives." One claim about
-- every list of a session's calls, finish and refused ones included, from an accepted begin or from an accepted resume of any block.
pub record KnowsItsStay : Type 0 where
  -- After every such list, the stay number that the session carries leads, in sealed mode and under the key of that begin or resume, to the session's registers
  -- at its count; and trace from there gives it, and sealed mode.
  pub leads : (o : Source) → source_number o ≡ 0 → (cs : List SessionCall) → LeadsToState (source_key o) (come_to o cs).iv sealed (come_to o cs).state
  pub known : (o : Source) → source_number o ≡ 0 → (cs : List SessionCall) → trace (come_to o cs).state (source_key o) ≡ origin (come_to o cs).iv sealed
  -- It is the one that was handed to begin, or that resume gave,
  pub carried : (o : Source) → source_number o ≡ 0 → (cs : List SessionCall) → (come_to o cs).iv ≡ source_iv o
  -- and the one that finish gives. Finish is answered 7, and gives zeros, exactly where one stands in the list already.
  pub finish_answers : (o : Source) → source_number o ≡ 0 → (cs : List SessionCall)
      → (finish_call (come_to o cs)).number ≡ refuse (ends cs) out_of_phase 0
  pub finish_gives : (o : Source) → source_number o ≡ 0 → (cs : List SessionCall) → (finish_call (come_to o cs)).iv ≡ pick (ends cs) zeros (source_iv o)
  -- These registers are the cipher state of the session, those that every accepted suspend writes; and its count is that of the blocks which a text of the length
  -- that it holds draws.
  pub written : (o : Source) → source_number o ≡ 0 → (cs : List SessionCall) (out : Bytes) → (suspend_call (come_to o cs) out.list).number ≡ 0
      → registers_at (part 16 112 (suspend_call (come_to o cs) out.list).out) ≡ (come_to o cs).state.registers
  pub counted : (o : Source) → source_number o ≡ 0 → (cs : List SessionCall) → Fits (come_to o cs)
  -- Resume right after an accepted suspend gives that stay number, and the very session.
  pub resumed : (o : Source) → source_number o ≡ 0 → (cs : List SessionCall) (out : Bytes) → (suspend_call (come_to o cs) out.list).number ≡ 0
      → resume_call (source_key o) (take 512 (suspend_call (come_to o cs) out.list).out)
      ≡ record { number = 0; iv = source_iv o; session = come_to o cs }
