-- `session::into_text` meets its contract: nothing is held under the hash of the data.
use Rattle.session.specs.Machine.{session_of}
use Rattle.session.proofs.into_text.Goals as goal

pub returns : goal.returns
returns c =
    let s = session_of c.args.s in
    λ i. record {
      phase = 1;
      ad = s.ad;
      text = s.text;
      state = s.state;
      h = s.h;
      pad = s.pad;
      current = s.current;
      sum = c.fresh-e.ensures i;
      iv = s.iv;
    }
