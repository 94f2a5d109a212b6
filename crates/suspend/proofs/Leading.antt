-- A session that stands where key and IV lead (`Led`) goes on standing there: begun or resumed, it does, and every accepted piece of data or text, of bytes,
-- keeps it so.
use mathlib.Core.Path.{◌≡◌, refl, sym, ap, subst}
use mathlib.Core.List.{List, [], ◌∷◌}
use Prim.Native.Nat.{ℕ, zero, suc, ◌+◌, ◌%◌, ◌≤◌, ◌<◌}
use native.Mathlib.Nat.{zero-add}
use native.Mathlib.Decide.{ℕ_discrete}
use native.Mathlib.Omega.{arith}
use lib.Dec.{lit<, lit≤}
use lib.ListN.{length}
use Rattle.scope.specs.Limits.{most_data, most_text}
use Rattle.words.specs.Bytes.{Row, IsBlock, zeros}
use Rattle.words.proofs.Rows.{Below, zeros_block}
use Rattle.words.proofs.XorLaws.{⊕-lt}
use Rattle.cipher.specs.Registers.{IsRegisters}
use Rattle.cipher.specs.Run.{moves}
use Rattle.cipher.specs.State.{State}
use Rattle.cipher.proofs.Inverse.{z_block}
use Rattle.start.specs.Start.{Mode.sealed, started}
use Rattle.start.specs.Leads.{LeadsToState}
use Rattle.start.proofs.Undo.{drawn_good}
use Rattle.digest.specs.Sum.{Sum}
use Rattle.digest.specs.Digest.{settled}
use Rattle.digest.proofs.Pieces.{absorb_one}
use Rattle.digest.proofs.Preserved.{absorb_hash_block, absorb_pending_block, settled_block, fresh_behind, push_behind, absorb_behind}
use Rattle.session.specs.Session.{Session, drawn_at}
use Rattle.session.specs.Calls.{begun}
use Rattle.session.specs.Pieces.{data_taken, closed, byte_current, byte_out, byte_taken, text_taken}
use Rattle.session.proofs.Pieces.{closed_already, closed_now}
use Rattle.session.proofs.Drawing.{state_next, current_is, current_next}
use Rattle.layout.specs.Block.{Suspended}
use Rattle.layout.specs.Laws.{Fine}
use Rattle.suspend.specs.Calls.{state_for, revived}
use Rattle.suspend.proofs.RoundTrip.{Led}

-- a byte, as a piece
one_below : (b : ℕ) → b < 256 → Below 256 (b ∷ [])
one_below b e zero = e
one_below b e (suc i) = lit< tt

module _ (key iv : List ℕ) (k : Row 32 256 key) (v : IsBlock iv) where
  -- ---- begun, and resumed

  pub begun_led : Led key iv (begun key iv)
  unfolding begun moves
  begun_led =
      record {
        fine = record {
          phase_is = lit≤ tt;
          ad_fits = lit≤ tt;
          text_fits = lit≤ tt;
          text_none = λ e. refl;
          registers_good = drawn_good key k iv sealed v 2;
          hash_block = zeros_block;
          pending_block = zeros_block;
          zeros_behind = fresh_behind 0 zeros;
        };
        state_led = refl;
        h_led = refl;
        pad_led = refl;
        current_led = refl;
        iv_led = refl;
      }

  pub revived_led : (b : Suspended) → Fine b → LeadsToState key iv sealed (state_for b) → Led key iv (revived key iv b)
  unfolding revived moves
  revived_led b f l =
      record {
        fine = f;
        state_led = λ i. record { registers = sym l.arrives i; count = sym (zero-add (drawn_at b.text)) i };
        h_led = refl;
        pad_led = refl;
        current_led = refl;
        iv_led = refl;
      }

  -- ---- data

  pub data_led : (s : Session) (p : List ℕ) → s.phase ≡ 0 → s.ad + length p ≤ most_data → Below 256 p → Led key iv s → Led key iv (data_taken s p)
  unfolding data_taken
  data_led s p e fits below l =
      let f = l.fine in
      record {
        fine = record {
          phase_is = lit≤ tt;
          ad_fits = fits;
          text_fits = f.text_fits;
          text_none = λ z. f.text_none e;
          registers_good = f.registers_good;
          hash_block = absorb_hash_block s.h s.sum s.ad p f.hash_block;
          pending_block = absorb_pending_block s.h s.sum s.ad p below f.pending_block;
          zeros_behind = absorb_behind s.h s.sum s.ad p (λ i h. f.zeros_behind i (rw e h));
        };
        state_led = l.state_led;
        h_led = l.h_led;
        pad_led = l.pad_led;
        current_led = l.current_led;
        iv_led = l.iv_led;
      }

  -- ---- the data closed

  pub closed_led : (s : Session) → Led key iv s → Led key iv (closed s) × ((closed s).phase ≡ 1)
  closed_led s l = go (ℕ_discrete s.phase 0)
    where
      go : Dec (s.phase ≡ 0) → Led key iv (closed s) × ((closed s).phase ≡ 1)
      go (yes e) =
          subst (λ (u : Session). Led key iv u × (u.phase ≡ 1)) (closed_now s e) (
            record {
              fine = record {
                phase_is = lit≤ tt;
                ad_fits = l.fine.ad_fits;
                text_fits = l.fine.text_fits;
                text_none = λ z. l.fine.text_none e;
                registers_good = l.fine.registers_good;
                hash_block = settled_block s.h s.sum s.ad l.fine.hash_block;
                pending_block = zeros_block;
                zeros_behind = fresh_behind s.text (settled s.h s.sum s.ad);
              };
              state_led = l.state_led;
              h_led = l.h_led;
              pad_led = l.pad_led;
              current_led = l.current_led;
              iv_led = l.iv_led;
            },
            refl,
          )
      go (no e) =
          subst (λ (u : Session). Led key iv u × (u.phase ≡ 1)) (closed_already s e) (l, omega (arith, e, l.fine.phase_is))

  -- ---- text

  module _ (s : Session) (b : ℕ) (e : s.phase ≡ 1) (fits : s.text + 1 ≤ most_text) (below : b < 256) (l : Led key iv s) where
    out_below : byte_out s b < 256
    unfolding byte_out
    out_below =
        let c : IsBlock (byte_current s) = rw (current_is (started key iv sealed) s l.state_led l.current_led) (z_block _ (drawn_good key k iv sealed v _)) in
        ⊕-lt 8 b _ below (c.below (s.text % 16))

    byte_led : Led key iv (byte_taken s b)
    unfolding byte_taken
    byte_led =
        let r = started key iv sealed in
        let f = l.fine in
        let o = byte_out s b in
        let moved_on = state_next r s l.state_led b in
        let one = absorb_one s.h s.sum s.text o in
        record {
          fine = record {
            phase_is = f.phase_is;
            ad_fits = f.ad_fits;
            text_fits = fits;
            text_none = λ z. absurd (omega arith);
            registers_good = subst IsRegisters (sym (ap (λ (t : State). t.registers) moved_on)) (drawn_good key k iv sealed v (drawn_at (s.text + 1)));
            hash_block = subst (λ (y : Sum). IsBlock y.hash) one (absorb_hash_block s.h s.sum s.text (o ∷ []) f.hash_block);
            pending_block =
                subst (λ (y : Sum). IsBlock y.pending) one
                (absorb_pending_block s.h s.sum s.text (o ∷ []) (one_below o out_below) f.pending_block);
            zeros_behind = λ i h. push_behind s.h s.sum s.text o (λ j m. f.zeros_behind j (rw e m)) i (rw e at h);
          };
          state_led = moved_on;
          h_led = l.h_led;
          pad_led = l.pad_led;
          current_led = current_next r s l.state_led l.current_led b;
          iv_led = l.iv_led;
        }

  pub text_led : (s : Session) (p : List ℕ) → s.phase ≡ 1 → s.text + length p ≤ most_text → Below 256 p → Led key iv s → Led key iv (text_taken s p)
  unfolding text_taken byte_taken
  text_led s [] e fits below l = l
  text_led s (b ∷ p) e fits below l =
      text_led (byte_taken s b) p e (omega arith) (λ i. below (suc i)) (byte_led s b e (omega arith) (below 0) l)
