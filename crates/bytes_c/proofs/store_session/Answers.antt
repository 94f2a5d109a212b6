-- `bytes_c::store_session` meets its contract: the fields are written one behind the other, and have their sizes by their types.
use Prim.Native.Nat.{ℕ}
use native.Mathlib.Omega.{arith}
use lib.ListN.{get_or}
use mir.Syntax.{w8, w64}
use mir.Val.{Fits}
use Rattle.words.proofs.Blocks.{bytes_of_block}
use Rattle.ghash.proofs.Elements.{element_block}
use Rattle.session.specs.Machine.{session_of}
use Rattle.bytes_c.proofs.Sizes.{every_sized, Sized}
use Rattle.bytes_c.proofs.SessionLaws.{room_for_iv, session_stored}
use borrow.Author.Rules.{rules}
use Rattle.bytes_c.proofs.store_session.Goals as goal
use Rattle.bytes_c.proofs.store_session.Goals.{Start}

sized : (c : Start) → Sized (session_of c.args.s)
sized c =
    let s = c.args.s in
    let phase : Fits w8 s.phase = search rules in
    let ad : Fits w64 s.ad = search rules in
    let text : Fits w64 s.text = search rules in
    let pending : (i : ℕ) → Fits w8 (get_or s.held.pending i 0) = λ i. search rules in
    let iv : (i : ℕ) → Fits w8 (get_or s.iv i 0) = λ i. search rules in
    record {
      phase_byte = phase.fits;
      ad_fits = ad.fits;
      text_fits = text.fits;
      state_sized = every_sized s.state _ c.well_formed.1.0.1.1.1.1.1.1.1.1.1.0;
      h_block = element_block s.h;
      pad_block = bytes_of_block s.pad;
      current_block = bytes_of_block s.current;
      hash_block = element_block s.held.acc;
      pending_block = record { long = search rules; below = λ i. (pending i).fits };
      iv_block = record { long = search rules; below = λ i. (iv i).fits };
    }

pub put_block-requires : goal.put_block-requires
put_block-requires c =
    let r = room_for_iv (session_of c.args.s) (sized (goal.at.put_block-requires c).Start) c.args.out.now c.requires
    c.put.ensures c.put-2.ensures c.put-3.ensures c.put_state.ensures c.put_drawn.ensures c.put_held.ensures in
    omega (arith, r)

pub returns : goal.returns
returns c =
    session_stored (session_of c.args.s) (sized (goal.at.returns c).Start) c.args.out.now c.requires
    c.put.ensures c.put-2.ensures c.put-3.ensures c.put_state.ensures c.put_drawn.ensures c.put_held.ensures c.put_block.ensures
