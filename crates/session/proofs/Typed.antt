-- The definitions' session determines the code's: bytes determine blocks and elements. So a refused call hands back the very session.
use mathlib.Core.Path.{◌≡◌, ap}
use mathlib.Core.List.{List}
use mir.Val.{Val}
use denote.Shadow.{shadow}
use Rattle.words.proofs.Typed.{block_one}
use Rattle.ghash.proofs.Typed.{same_element}
use Rattle.cipher.proofs.Typed.{state_of_one}
use Rattle.session.specs.declared.Session as machine
use Rattle.session.specs.Session.{Session}
use Rattle.session.specs.Machine.{session_of}
use Rattle.session.specs.contracts.Session.{the_row}

pub session_of_one : (s t : machine.Session) (vs ws : List Val) → shadow (the_row.own_val s vs) → shadow (the_row.own_val t ws) → session_of s ≡ session_of t → s ≡ t
session_of_one s t vs ws p q e =
    let acc = same_element s.held.acc t.held.acc _ _ p.1.1.1.1.1.0.1.1.0 q.1.1.1.1.1.0.1.1.0 (ap (λ (u : Session). u.sum.hash) e) in
    let h = same_element s.h t.h _ _ p.1.1.1.1.1.1.0 q.1.1.1.1.1.1.0 (ap (λ (u : Session). u.h) e) in
    let pad = block_one s.pad t.pad _ _ p.1.1.1.1.1.1.1.0 q.1.1.1.1.1.1.1.0 (ap (λ (u : Session). u.pad) e) in
    let current = block_one s.current t.current _ _ p.1.1.1.1.1.1.1.1.0 q.1.1.1.1.1.1.1.1.0 (ap (λ (u : Session). u.current) e) in
    let state = state_of_one s.state t.state _ _ p.1.1.1.1.1.1.1.1.1.0 q.1.1.1.1.1.1.1.1.1.0 (ap (λ (u : Session). u.state) e) in
    λ i. record {
      phase = (e i).phase;
      ad = (e i).ad;
      text = (e i).text;
      held = record { acc = acc i; pending = (e i).sum.pending };
      h = h i;
      pad = pad i;
      current = current i;
      state = state i;
      iv = (e i).iv;
    }
