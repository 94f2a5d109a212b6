-- Dates through C: with room for its four bytes a date is answered 0, and they list it, its year being below 65,536; so a day's date leads back to the day.
use mathlib.Core.Path.{◌≡◌, refl, sym, ap, ap₂, ◌∙◌}
use mathlib.Core.Logic.{◌⊎◌}
use mathlib.Core.Bool.{Bool}
use mathlib.Core.List.{List, [], ◌∷◌, ◌++◌}
use Prim.Native.Nat.{ℕ, ◌+◌, ◌*◌, ◌/◌, ◌%◌, ◌≤◌, ◌<◌}
use native.Mathlib.Omega.{arith}
use lib.ListN.{length, drop, replicate}
use lib.Seq.{drop_at}
use Rattle.scope.specs.Limits.{last_day}
use Rattle.scope.specs.Refusals.{pick, short_output, day_range}
use Rattle.words.specs.Bytes.{little, number}
use Rattle.words.proofs.Bytes.{little_long}
use Rattle.calendar.specs.Calendar.{Date, on_or_before, date_on}
use Rattle.calendar.specs.Calls.{Dated, Dated.dated, to_date, to_day}
use Rattle.calendar.proofs.Claimed as days
use Rattle.retention.specs.Keeping.{last_date, kept_until, keeping}
use Rattle.retention.proofs.Claimed as keeps
use Rattle.bytes_c.specs.Replies.{Reply, Reply.bytes, reply_answer, reply_writes, date_bytes, date_in, date_reply}
use Rattle.bytes_c.proofs.Replies.{reply_refused, reply_bytes, date_long}
use Rattle.bytes_c.proofs.Answering.{never, unwritten, accepted, short, fits}
use Rattle.tulvekas.specs.Dates.{day_reply, kept_reply}
use Rattle.claims_c.specs.ThroughC.{DateThroughC, DayThroughC, RefusedThroughC}

-- k bytes with room for them are answered 0, and stand at the front
module _ (a : Reply) (v out : List ℕ) (k : ℕ) (l : length v ≡ k) (e : a ≡ bytes v) (h : k ≤ length out) where
  both : (0 ≡ reply_answer a out) × (v ++ drop k out ≡ reply_writes a out)
  both =
      let z = fits k out 0 h in
      reply_bytes out k v l e z (accepted z (v ++ drop k out) out)

  answered : reply_answer a out ≡ 0
  answered = sym both.0

  written : reply_writes a out ≡ v ++ drop k out
  written = sym both.1

-- a refusal below is one through C
refused_through : (a : Reply) (n : ℕ) (out : List ℕ) → a ≡ Reply.refused n → RefusedThroughC a n out
refused_through a n out e =
    let r = reply_refused out n e in
    record { answered = sym r.0; untouched = sym r.1 }

-- the four bytes list the date
listed : (d : Date) (rest : List ℕ) → d.year < 65536 → date_in (date_bytes d ++ rest) ≡ d
unfolding date_in date_bytes little number
listed d rest h =
    let e : d.year % 256 + 256 * (d.year / 256 % 256 + 256 * 0) ≡ d.year = omega arith in
    rw e

module _ (a : Dated) (d : Date) (out : List ℕ) (e : a ≡ dated d) (y : d.year < 65536) (h : 4 ≤ length out) where
  date_through : DateThroughC a d out
  date_through =
      let q = ap date_reply e in
      record {
        answered = answered (date_reply a) (date_bytes d) out 4 (date_long d) q h;
        behind = ap (drop 4) (written (date_reply a) (date_bytes d) out 4 (date_long d) q h) ∙ drop_at (date_bytes d) (drop 4 out) 4 (date_long d);
        lists = ap date_in (written (date_reply a) (date_bytes d) out 4 (date_long d) q h) ∙ listed d (drop 4 out) y;
      }

pub day_through : (n : ℕ) → n ≤ last_day → (out number : List ℕ) → 4 ≤ length out → 8 ≤ length number → DayThroughC n out number
day_through n h out number o m =
    let e = days.to_date_is n h in
    let t = date_through (to_date n) (date_on n) out e (days.dated_small n (date_on n) e).0 o in
    let q = ap (λ (d : Date). day_reply (to_day d)) t.lists ∙ ap day_reply (days.forth n (date_on n) e) in
    let r = day_reply (to_day (date_in (reply_writes (date_reply (to_date n)) out))) in
    record {
      date = t;
      answered = answered r (little 8 n) number 8 (little_long 8 n) q m;
      again = written r (little 8 n) number 8 (little_long 8 n) q m;
    }

pub kept_through : (departure : ℕ) → departure ≤ last_day → (out : List ℕ) → 4 ≤ length out
    → DateThroughC (kept_until departure) (last_date (date_on departure)) out
kept_through departure h out o =
    let e = keeps.until_is departure h in
    date_through (kept_until departure) (last_date (date_on departure)) out e (keeps.dated_small departure (last_date (date_on departure)) e).0 o

pub kept_byte : (today departure : ℕ) → today ≤ last_day → departure ≤ last_day → (out date until : List ℕ) → 1 ≤ length out → 4 ≤ length date → 4 ≤ length until
    → (reply_answer (kept_reply (keeping today departure)) out ≡ 0)
    × (reply_writes (kept_reply (keeping today departure)) out
    ≡ pick (on_or_before (date_in (reply_writes (date_reply (to_date today)) date)) (date_in (reply_writes (date_reply (kept_until departure)) until))) 1 0 ∷ drop 1 out)
kept_byte today departure h k out date until o p q =
    let d = date_on today in
    let e = last_date (date_on departure) in
    let listed-today = (day_through today h date (replicate 8 0) p (omega arith)).date.lists in
    let listed-last = (kept_through departure k until q).lists in
    let v : List ℕ = pick (on_or_before d e) 1 0 ∷ [] in
    let a = ap kept_reply (keeps.keeping_is today departure h k) in (
      answered (kept_reply (keeping today departure)) v out 1 refl a o,
      written (kept_reply (keeping today departure)) v out 1 refl a o
          ∙ ap (λ (b : Bool). pick {A = ℕ} b 1 0 ∷ drop 1 out) (sym (ap₂ on_or_before listed-today listed-last)),
    )

-- ---- refusals

pub no_date : (n : ℕ) → last_day < n → (out : List ℕ) → RefusedThroughC (date_reply (to_date n)) day_range out
no_date n h out = refused_through (date_reply (to_date n)) day_range out (ap date_reply (days.undated n h))

pub no_day : (d : Date) → ((n : ℕ) → to_date n ≡ dated d → ⊥) → (number : List ℕ) → RefusedThroughC (day_reply (to_day d)) day_range number
no_day d f number = refused_through (day_reply (to_day d)) day_range number (ap day_reply (((days.days_and_dates).no_day d).1 f))

pub no_kept_date : (departure : ℕ) → last_day < departure → (out : List ℕ) → RefusedThroughC (date_reply (kept_until departure)) day_range out
no_kept_date departure h out = refused_through (date_reply (kept_until departure)) day_range out (ap date_reply (keeps.until_out departure h))

pub no_verdict : (today departure : ℕ) → (last_day < today) ⊎ (last_day < departure) → (out : List ℕ) → RefusedThroughC (kept_reply (keeping today departure)) day_range out
no_verdict today departure h out =
    refused_through (kept_reply (keeping today departure)) day_range out (ap kept_reply ((keeps.keeping_laws).no_such_day today departure h))

pub no_room : (v out : List ℕ) → length out < length v → RefusedThroughC (bytes v) short_output out
no_room v out h =
    let e = short (length v) out 0 h in
    let r = reply_bytes out (length v) v refl refl e (unwritten e (length v) v out (never 3)) in
    record { answered = sym r.0; untouched = sym r.1 }
