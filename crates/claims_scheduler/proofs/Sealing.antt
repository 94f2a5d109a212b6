-- A stay by itself: it joins with the session that begin gives under its key and number, and every piece that the scheduler takes is one more text call on that session. So what is
-- written for it is the page's ciphertext, and with its last piece the session's finish gives the page's tag.
use Prim.Native.Nat.{ℕ, ◌+◌, ◌≤◌}
use mathlib.Core.List.{List, [], ◌∷◌, ◌++◌}
use mathlib.Core.Path.{◌≡◌, refl, sym, ap, ◌∙◌}
use native.Mathlib.Omega.{arith}
use borrow.Author.Tests.{le-ltb}
use lib.Dec.{ltb}
use lib.ListN.{length, take, drop, length-append}
use lib.Seq.{take_at}
use Rattle.scope.specs.Limits.{most_text}
use Rattle.scope.specs.Refusals.{refuse, granted, short_output}
use Rattle.session.specs.Session.{Session}
use Rattle.session.specs.Calls.{Given, text_call, finish_call}
use Rattle.page.specs.Page.{encrypted, page_tag}
use Rattle.page.proofs.Ciphertext.{encrypted_length}
use Rattle.bytes_c.specs.SessionBytes.{session_bytes, session_in}
use Rattle.claims.specs.Lists as Sessions
use Rattle.claims.specs.Lists.{Bytes, Call.give_text}
use Rattle.claims.specs.Claims.{Keyed}
use Rattle.claims.proofs.Demands.{seals_by_pieces}
use Rattle.scheduler.specs.Scheduler.{Stay, Scheduler, session_for, iv_of, due}
use Rattle.scheduler.specs.Calls.{join_number, newcomer, sealing, after_service}
use Rattle.claims_scheduler.proofs.Joining.{joins}
use Rattle.claims_scheduler.proofs.Sizes.{after_led, after_lists}

-- the session of a list of a session's calls, which has sealed this text, without data
pub record Holds (key iv : Bytes) (text : List ℕ) (x : Stay) : Type 0 where
  pub keyed : Keyed key iv
  pub calls : List Sessions.Call
  pub session : x.session ≡ session_bytes (Sessions.after key iv calls).session
  pub no_data : (Sessions.after key iv calls).ad ≡ []
  pub text_is : (Sessions.after key iv calls).text ≡ text
  pub fits : length text + x.left ≤ most_text

-- a call behind a list
calls_more : (key : List ℕ) (t : Sessions.Trail) (cs : List Sessions.Call) (c : Sessions.Call)
    → Sessions.calls key t (cs ++ (c ∷ [])) ≡ Sessions.call key (Sessions.calls key t cs) c
unfolding Sessions.calls
calls_more key t [] c = refl
calls_more key t (d ∷ cs) c = calls_more key (Sessions.call key t d) cs c

-- ---- an accepted joining

module _ (s : Scheduler) (key iv : Bytes) (n : ℕ) (e : join_number s key.list iv.list n ≡ 0) where
  pub holds_new : Holds key iv [] (newcomer s key.list iv.list n)
  unfolding Sessions.calls
  holds_new =
      let j = joins s key.list iv.list n e in
      let fits = j.fits in
      record {
        keyed = record { key_long = j.key_long; iv_long = j.iv_long };
        calls = [];
        session = refl;
        no_data = refl;
        text_is = refl;
        fits = omega arith;
      }

-- ---- a stay, and a piece that is due

module _ (key iv : Bytes) (text : List ℕ) (x : Stay) (h : Holds key iv text x) where
  here : Sessions.Trail
  here = Sessions.after key iv h.calls

  -- the session that its bytes list, and its number
  pub holds_session : session_for x ≡ (Sessions.after key iv h.calls).session
  holds_session = ap session_in h.session ∙ after_lists key iv h.keyed h.calls

  pub holds_iv : iv_of x ≡ iv.list
  holds_iv = ap (λ (u : Session). u.iv) holds_session ∙ (after_led key iv h.keyed h.calls).iv_led

  module _ (p out : Bytes) where
    sealing_is : sealing x p.list out.list ≡ text_call here.session p.list out.list
    unfolding here
    sealing_is = ap (λ (u : Session). text_call u p.list out.list) holds_session

    -- it is refused for want of room alone
    pub holds_number : length p.list ≡ due x → (sealing x p.list out.list).number ≡ refuse (ltb (length out.list) (length p.list)) short_output 0
    unfolding here
    holds_number e =
        let long = ap length h.text_is in
        let fits = h.fits in
        ap (λ (g : Given). g.number) sealing_is
        ∙ seals_by_pieces.text_answers key iv h.keyed h.calls p out
        ∙ rw (le-ltb most_text (length (Sessions.after key iv h.calls).text + length p.list) (omega arith))

    module _ (a : (sealing x p.list out.list).number ≡ 0) where
      taken : (text_call here.session p.list out.list).number ≡ 0
      taken = sym (ap (λ (g : Given). g.number) sealing_is) ∙ a

      more : List Sessions.Call
      more = h.calls ++ (give_text p out ∷ [])

      more_is : Sessions.after key iv more ≡ Sessions.call key.list here (give_text p out)
      unfolding here more
      more_is = calls_more key.list (Sessions.at_begin key iv) h.calls (give_text p out)

      more_session : (Sessions.after key iv more).session ≡ (sealing x p.list out.list).session
      unfolding Sessions.call Sessions.left_by
      more_session = ap (λ (t : Sessions.Trail). t.session) more_is ∙ sym (ap (λ (g : Given). g.session) sealing_is)

      more_ad : (Sessions.after key iv more).ad ≡ []
      unfolding here Sessions.call
      more_ad = ap (λ (t : Sessions.Trail). t.ad) more_is ∙ h.no_data

      more_text : (Sessions.after key iv more).text ≡ text ++ p.list
      unfolding here Sessions.call
      more_text =
          ap (λ (t : Sessions.Trail). t.text) more_is
          ∙ ap (λ (n : ℕ). here.text ++ granted n p.list []) taken
          ∙ ap (λ (t : List ℕ). t ++ p.list) h.text_is

      -- what is written is its part of the page's ciphertext
      pub holds_written : take (length p.list) (sealing x p.list out.list).out ≡ encrypted key.list iv.list (length text) p.list
      unfolding here
      holds_written =
          let c : List ℕ = encrypted key.list iv.list (length text) p.list in
          ap (λ (g : Given). take (length p.list) g.out) sealing_is
          ∙ ap (take (length p.list)) (seals_by_pieces.writes key iv h.keyed h.calls p out ∙ rw (taken, h.text_is))
          ∙ take_at c (drop (length p.list) out.list) (length p.list) (encrypted_length key.list iv.list (length text) p.list)

      -- its session's finish gives the page's tag
      pub holds_tag : (finish_call (sealing x p.list out.list).session).tag ≡ page_tag key.list iv.list [] (text ++ p.list)
      holds_tag =
          ap (λ (u : Session). (finish_call u).tag) (sym more_session)
          ∙ (seals_by_pieces.any_list key iv h.keyed more).tag
          ∙ rw (more_ad, more_text)

      -- and it is such a stay
      pub holds_after : (t : ℕ) → length p.list ≡ due x → Holds key iv (text ++ p.list) (after_service t x p.list out.list)
      holds_after t e =
          let fits = h.fits in
          let long = length-append text p.list in
          record {
            keyed = h.keyed;
            calls = more;
            session = ap session_bytes (sym more_session);
            no_data = more_ad;
            text_is = more_text;
            fits = omega arith;
          }
