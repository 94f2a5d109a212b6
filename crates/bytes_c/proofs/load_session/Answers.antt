-- `bytes_c::load_session` meets its contract: each field is read at its place.
use mathlib.Core.Path.{◌∙◌}
use native.Mathlib.Omega.{arith}
use lib.ListN.{get_or}
use Rattle.bytes_c.specs.SessionBytes.{session_in}
use Rattle.bytes_c.proofs.load_session.Goals as goal

pub returns : goal.returns
unfolding session_in
returns c =
    let b = c.args.b.now in
    let h = c.from_block-h.ensures ∙ c.load.ensures in
    λ i. record {
      phase = get_or b 0 0;
      ad = c.get-ad.ensures.0 i;
      text = c.get-text.ensures.0 i;
      state = c.get_state-state.ensures i;
      h = h i;
      pad = c.load-pad.ensures i;
      current = c.load-current.ensures i;
      sum = record { hash = c.get_held-held.ensures.0 i; pending = c.get_held-held.ensures.1 i };
      iv = (c.to_bytes-iv.ensures ∙ c.load-2.ensures) i;
    }

pub load-requires-2 : goal.load-requires-2
load-requires-2 c = omega (arith, c.requires)
