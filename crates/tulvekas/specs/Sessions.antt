-- The calls of a session as C makes them, suspend and resume with them (document 01, "Sessions and parking": park and take up), on sessions in 240 bytes. For each:
-- the number that it answers, which is that of the call below, with 8, first of all, for a session of another length, and 4, last, for a buffer
-- that is too short; what it leaves in a session that it was lent to write; and what stands in its output. A refusal changes no byte.
use Rattle.std.specs.Prelude.{ℕ, List}
use Rattle.scope.specs.Refusals.{granted}
use Rattle.session.specs.Calls.{begin_call, data_call, text_call, finish_call}
use Rattle.suspend.specs.Calls.{suspend_call}
use Rattle.suspend.specs.Walk.{resume_call}
use Rattle.bytes_c.specs.Order.{next, room, buffer_after}
use Rattle.bytes_c.specs.SessionBytes.{session_in, Leaves, whole}

-- ---- begin: 1, 2, 4

unfoldable pub begin_answer : (key iv session : List ℕ) → ℕ
begin_answer key iv s = next (begin_call key iv).number (room 240 s 0)

abbrev pub BeginLeaves : (key iv session after : List ℕ) → Type 0
BeginLeaves key iv s after = Leaves (begin_answer key iv s) (begin_call key iv).session s after

-- ---- data: 8, 7, 3

unfoldable pub data_answer : (session piece : List ℕ) → ℕ
data_answer s p = whole s (data_call (session_in s) p).number

abbrev pub DataLeaves : (session piece after : List ℕ) → Type 0
DataLeaves s p after = Leaves (data_answer s p) (data_call (session_in s) p).session s after

-- ---- text: 8, 7, 3, 9, 4

unfoldable pub text_answer : (session piece out : List ℕ) → ℕ
text_answer s p out = whole s (text_call (session_in s) p out).number

abbrev pub TextLeaves : (session piece out after : List ℕ) → Type 0
TextLeaves s p out after = Leaves (text_answer s p out) (text_call (session_in s) p out).session s after

abbrev pub text_writes : (session piece out : List ℕ) → List ℕ
text_writes s p out = granted (text_answer s p out) (text_call (session_in s) p out).out out

-- ---- finish: 8, 7, 4 for either buffer

unfoldable pub finish_answer : (session tag iv : List ℕ) → ℕ
finish_answer s tag iv = whole s (next (finish_call (session_in s)).number (room 16 tag (room 16 iv 0)))

abbrev pub FinishLeaves : (session tag iv after : List ℕ) → Type 0
FinishLeaves s tag iv after = Leaves (finish_answer s tag iv) (finish_call (session_in s)).session s after

abbrev pub finish_writes_tag : (session tag iv : List ℕ) → List ℕ
finish_writes_tag s tag iv = buffer_after (finish_answer s tag iv) 16 (finish_call (session_in s)).tag tag

abbrev pub finish_writes_iv : (session tag iv : List ℕ) → List ℕ
finish_writes_iv s tag iv = buffer_after (finish_answer s tag iv) 16 (finish_call (session_in s)).iv iv

-- ---- suspend: 8, 7, 4. The session is only read

unfoldable pub suspend_answer : (session block : List ℕ) → ℕ
suspend_answer s b = whole s (suspend_call (session_in s) b).number

abbrev pub suspend_writes : (session block : List ℕ) → List ℕ
suspend_writes s b = granted (suspend_answer s b) (suspend_call (session_in s) b).out b

-- ---- resume: 1, 8, 6, 4 for either buffer

unfoldable pub resume_answer : (key block session iv : List ℕ) → ℕ
resume_answer key b s iv = next (resume_call key b).number (room 240 s (room 16 iv 0))

abbrev pub ResumeLeaves : (key block session iv after : List ℕ) → Type 0
ResumeLeaves key b s iv after = Leaves (resume_answer key b s iv) (resume_call key b).session s after

abbrev pub resume_writes : (key block session iv : List ℕ) → List ℕ
resume_writes key b s iv = buffer_after (resume_answer key b s iv) 16 (resume_call key b).iv iv
