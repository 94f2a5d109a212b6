-- The 240 bytes of a session, field by field: they determine the session, and how code writes and reads them.
use mathlib.Core.Path.{◌≡◌, sym, ap, ◌∙◌}
use mathlib.Core.List.{List, [], ◌∷◌, ◌++◌, append_assoc, append-nil}
use Prim.Native.Nat.{ℕ, ◌+◌, ◌<◌, ◌≤◌}
use native.Mathlib.Nat.{mod-eq_of_lt}
use native.Mathlib.Omega.{arith}
use lib.ListN.{length, get_or, take, drop}
use lib.Seq.{sets, sets-eq, length-sets}
use Rattle.words.specs.Bytes.{little, number, Row, joined}
use Rattle.words.proofs.Rows.{row_append}
use Rattle.words.proofs.Bytes.{little_long, little_row, number_little}
use Rattle.words.proofs.Parts.{At, down, here}
use Rattle.words.proofs.Writing.{put_next, put_front}
use Rattle.session.specs.Session.{Session}
use Rattle.bytes_c.specs.StateBytes.{state_bytes, state_in}
use Rattle.bytes_c.specs.SessionBytes.{session_bytes, session_in, Leaves}
use Rattle.bytes_c.proofs.Sizes.{Sized}
use Rattle.bytes_c.proofs.StateLaws.{state_row, state_whole}

regroup : (f0 f1 f2 f3 f4 f5 f6 f7 f8 f9 r : List ℕ)
    → (f0 ++ f1 ++ f2 ++ f3 ++ f4 ++ f5 ++ f6 ++ f7 ++ f8 ++ f9) ++ r ≡ joined (f0 ∷ f1 ∷ f2 ∷ f3 ∷ f4 ∷ f5 ∷ f6 ∷ f7 ∷ f8 ∷ f9 ∷ r ∷ [])
regroup f0 f1 f2 f3 f4 f5 f6 f7 f8 f9 r = simp (append_assoc, append-nil)

in_parts : (f f4 f5 f6 f7 f8 f9 : List ℕ) → f ++ (f4 ++ f5 ++ f6) ++ (f7 ++ f8) ++ f9 ≡ f ++ f4 ++ f5 ++ f6 ++ f7 ++ f8 ++ f9
in_parts f f4 f5 f6 f7 f8 f9 = simp append_assoc

-- v written over k bytes of a buffer
put_at : (o v : List ℕ) (at k : ℕ) → length v ≡ k → at + k ≤ length o → take at o ++ v ++ drop (at + k) o ≡ sets o at v
put_at o v at k e h = ap (λ (n : ℕ). take at o ++ v ++ drop (at + n) o) (sym e) ∙ sym (sets-eq v o at (rw e h))

first_byte : (n : ℕ) (r : List ℕ) → n < 256 → get_or (little 8 n ++ r) 0 0 ≡ n
unfolding little
first_byte n r h = mod-eq_of_lt h

module _ (s : Session) (g : Sized s) where
  head_row : Row 144 256 (little 8 s.phase ++ little 8 s.ad ++ little 8 s.text ++ state_bytes s.state)
  head_row =
      let r16 = row_append 256 8 8 (little_row 8 s.phase) (little_row 8 s.ad) in
      let r24 = row_append 256 16 8 r16 (little_row 8 s.text) in
      row_append 256 24 120 r24 (state_row s.state g.state_sized)

  held_row : Row 32 256 (s.sum.hash ++ s.sum.pending)
  held_row = row_append 256 16 16 g.hash_block g.pending_block

  drawn_row : Row 48 256 (s.h ++ s.pad ++ s.current)
  drawn_row = row_append 256 32 16 (row_append 256 16 16 g.h_block g.pad_block) g.current_block

  pub session_row : Row 240 256 (session_bytes s)
  unfolding session_bytes
  session_row =
      let r160 = row_append 256 144 16 head_row g.h_block in
      let r176 = row_append 256 160 16 r160 g.pad_block in
      let r192 = row_append 256 176 16 r176 g.current_block in
      let r208 = row_append 256 192 16 r192 g.hash_block in
      row_append 256 224 16 (row_append 256 208 16 r208 g.pending_block) g.iv_block

  -- whatever stands behind them
  module _ (r : List ℕ) where
    at0 : At (session_bytes s ++ r) 0
        (little 8 s.phase ∷ little 8 s.ad ∷ little 8 s.text ∷ state_bytes s.state ∷ s.h ∷ s.pad ∷ s.current ∷ s.sum.hash
        ∷ s.sum.pending ∷ s.iv ∷ r ∷ [])
    unfolding session_bytes
    at0 =
        record {
          is = regroup (little 8 s.phase) (little 8 s.ad) (little 8 s.text) (state_bytes s.state) s.h s.pad s.current
              s.sum.hash s.sum.pending s.iv r;
        }

    pub session_back : session_in (session_bytes s ++ r) ≡ s
    unfolding session_in
    session_back =
        let d8 = down at0 8 (little_long 8 s.phase) in
        let d16 = down d8 8 (little_long 8 s.ad) in
        let d24 = down d16 8 (little_long 8 s.text) in
        let d144 = down d24 120 (state_row s.state g.state_sized).long in
        let d160 = down d144 16 g.h_block.long in
        let d176 = down d160 16 g.pad_block.long in
        let d192 = down d176 16 g.current_block.long in
        let d208 = down d192 16 g.hash_block.long in
        let d224 = down d208 16 g.pending_block.long in
        let phase = ap (λ (l : List ℕ). get_or l 0 0) at0.is ∙ first_byte s.phase _ g.phase_byte in
        let ad = ap number (here d8 8 (little_long 8 s.ad)) ∙ number_little 8 s.ad g.ad_fits in
        let text = ap number (here d16 8 (little_long 8 s.text)) ∙ number_little 8 s.text g.text_fits in
        let state = ap state_in (here d24 120 (state_row s.state g.state_sized).long) ∙ state_whole s.state g.state_sized in
        let h = here d144 16 g.h_block.long in
        let pad = here d160 16 g.pad_block.long in
        let current = here d176 16 g.current_block.long in
        let hash = here d192 16 g.hash_block.long in
        let pending = here d208 16 g.pending_block.long in
        let iv = here d224 16 g.iv_block.long in
        λ i. record {
          phase = phase i;
          ad = ad i;
          text = text i;
          state = state i;
          h = h i;
          pad = pad i;
          current = current i;
          sum = record { hash = hash i; pending = pending i };
          iv = iv i;
        }

  -- the bytes of a session list it, and no other does
  pub session_whole : session_in (session_bytes s) ≡ s
  session_whole = ap session_in (sym (append-nil (session_bytes s))) ∙ session_back []

  -- ---- how code writes them, to the front of a buffer

  module _ (out : List ℕ) (fits : 240 ≤ length out) {o1 o2 o3 o4 o5 o6 : List ℕ} (e1 : o1 ≡ sets out 0 (little 8 s.phase))
      (e2 : o2 ≡ sets o1 8 (little 8 s.ad)) (e3 : o3 ≡ sets o2 16 (little 8 s.text)) (e4 : o4 ≡ sets o3 24 (state_bytes s.state))
      (e5 : o5 ≡ sets o4 144 (s.h ++ s.pad ++ s.current)) (e6 : o6 ≡ sets o5 192 (s.sum.hash ++ s.sum.pending)) where
    -- all but the IV
    f144 : List ℕ
    f144 = (little 8 s.phase ++ little 8 s.ad) ++ little 8 s.text ++ state_bytes s.state

    f224 : List ℕ
    f224 = (f144 ++ (s.h ++ s.pad ++ s.current)) ++ (s.sum.hash ++ s.sum.pending)

    put_fields : o6 ≡ sets out 0 f224
    unfolding f144 f224
    put_fields =
        let n8 = little_row 8 s.phase in
        let n16 = row_append 256 8 8 n8 (little_row 8 s.ad) in
        let n24 = row_append 256 16 8 n16 (little_row 8 s.text) in
        let n192 = row_append 256 144 48 head_row drawn_row in
        let f16 = little 8 s.phase ++ little 8 s.ad in
        let p16 = put_next out (little 8 s.phase) (little 8 s.ad) 0 8 (let l = n8.long in omega arith) e1 e2 in
        let p24 = put_next out f16 (little 8 s.text) 0 16 (let l = n16.long in omega arith) p16 e3 in
        let p144 = put_next out (f16 ++ little 8 s.text) (state_bytes s.state) 0 24 (let l = n24.long in omega arith) p24 e4 in
        let p192 = put_next out f144 (s.h ++ s.pad ++ s.current) 0 144 (let l = head_row.long in omega arith) p144 e5 in
        put_next out (f144 ++ (s.h ++ s.pad ++ s.current)) (s.sum.hash ++ s.sum.pending) 0 192 (let l = n192.long in omega arith) p192 e6

    pub room_for_iv : 240 ≤ length o6
    room_for_iv = let l : length o6 ≡ length out = ap length put_fields ∙ length-sets out 0 f224 in omega (arith, l, fits)

    module _ {o7 : List ℕ} (e7 : o7 ≡ take 224 o6 ++ s.iv ++ drop 240 o6) where
      put_session : o7 ≡ session_bytes s ++ drop 240 out
      unfolding f144 f224 session_bytes
      put_session =
          let n224 = row_append 256 192 32 (row_append 256 144 48 head_row drawn_row) held_row in
          put_next out f224 s.iv 0 224 (let l = n224.long in omega arith) put_fields (e7 ∙ put_at o6 s.iv 224 16 g.iv_block.long room_for_iv)
          ∙ ap (sets out 0) (in_parts f144 s.h s.pad s.current s.sum.hash s.sum.pending s.iv)
          ∙ put_front out (session_bytes s) 240 session_row.long fits

      pub session_stored : Leaves 0 s out o7
      session_stored = record { bytes = put_session; lists = ap session_in put_session ∙ session_back (drop 240 out) }
