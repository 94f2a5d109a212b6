-- A session that stands where its key and IV lead has parts of the sizes that its bytes have room for: its lengths keep to the limits, and its blocks are the keystream's or the
-- hash's. Every list of a session's calls leaves such a session, so that its bytes list it.
use mathlib.Core.Path.{◌≡◌, sym, ap, subst}
use mathlib.Core.Bool.{Bool, true, false}
use mathlib.Core.List.{List}
use Prim.Native.Nat.{ℕ, ◌+◌}
use native.Mathlib.Omega.{arith}
use lib.Dec.{lit<}
use Rattle.words.specs.Bytes.{Row, IsBlock}
use Rattle.cipher.specs.Run.{moves}
use Rattle.cipher.specs.State.{State}
use Rattle.cipher.proofs.Inverse.{z_block}
use Rattle.start.specs.Start.{Mode.sealed}
use Rattle.start.proofs.Undo.{drawn_good}
use Rattle.session.specs.Session.{Session, drawn_at}
use Rattle.session.specs.Calls.{finished}
use Rattle.suspend.proofs.RoundTrip.{Led}
use Rattle.page.proofs.Ciphertext.{stream_block}
use Rattle.claims.specs.Lists.{Bytes, Call, Trail, after}
use Rattle.claims.specs.Claims.{Keyed}
use Rattle.claims.proofs.Within.{row_of}
use Rattle.claims.proofs.Suspending.{stage_led}
use Rattle.claims.proofs.Reached.{after_reached}
use Rattle.claims.proofs.Knowing.{Placed}
use Rattle.bytes_c.specs.SessionBytes.{session_bytes, session_in}
use Rattle.bytes_c.proofs.Sizes.{Sized}
use Rattle.bytes_c.proofs.SessionLaws.{session_whole}

module _ (key iv : List ℕ) (k : Row 32 256 key) (v : IsBlock iv) where
  current_block : (s : Session) → Led key iv s → IsBlock s.current
  current_block s l = subst IsBlock (sym l.current_led) (z_block _ (drawn_good key k iv sealed v _))

  pub sized_open : (s : Session) → Led key iv s → Sized s
  unfolding moves
  sized_open s l =
      let f = l.fine in
      let n : s.state.count ≡ 0 + drawn_at s.text = ap (λ (t : State). t.count) l.state_led in
      record {
        phase_byte = omega (arith, f.phase_is);
        ad_fits = omega (arith, f.ad_fits);
        text_fits = omega (arith, f.text_fits);
        state_sized = record { registers_good = f.registers_good; count_fits = omega (arith, n, f.text_fits) };
        h_block = subst IsBlock (sym l.h_led) (stream_block key iv k v 0);
        pad_block = subst IsBlock (sym l.pad_led) (stream_block key iv k v 1);
        current_block = current_block s l;
        hash_block = f.hash_block;
        pending_block = f.pending_block;
        iv_block = subst IsBlock (sym l.iv_led) v;
      }

  sized_ended : (u : Session) → Sized u → Sized (finished u)
  unfolding finished
  sized_ended u g =
      record {
        phase_byte = lit< tt;
        ad_fits = g.ad_fits;
        text_fits = g.text_fits;
        state_sized = g.state_sized;
        h_block = g.h_block;
        pad_block = g.pad_block;
        current_block = g.current_block;
        hash_block = g.hash_block;
        pending_block = g.pending_block;
        iv_block = g.iv_block;
      }

  pub sized : (b : Bool) (s : Session) → Placed key iv k v b s → Sized s
  unfolding Placed
  sized false s l = sized_open s l
  sized true s (u, l, e) = subst Sized (sym e) (sized_ended u (sized_open u l))

-- ---- after every list of a session's calls

module _ (key iv : Bytes) (l : Keyed key iv) (cs : List Call) where
  pub after_led : Led key.list iv.list (after key iv cs).session
  after_led =
      let r = after_reached key iv l cs in
      subst (λ (u : Trail). Led key.list iv.list u.session) (sym r.is)
      (stage_led key.list iv.list (row_of key l.key_long) (row_of iv l.iv_long) r.stage r.within)

  pub after_sized : Sized (after key iv cs).session
  after_sized = sized_open key.list iv.list (row_of key l.key_long) (row_of iv l.iv_long) (after key iv cs).session after_led

  pub after_lists : session_in (session_bytes (after key iv cs).session) ≡ (after key iv cs).session
  after_lists = session_whole (after key iv cs).session after_sized
