-- `suspended::block_of` meets its contract: fields are written from the front on, with zeros left between and behind, and the check is that of the
-- bytes before it.
use Prim.Native.Nat.{ℕ, ◌+◌}
use mathlib.Core.Path.{◌≡◌, refl, ap, ap₂, ◌∙◌}
use mathlib.Core.List.{List, [], ◌∷◌, ◌++◌, append_assoc}
use borrow.Author.Rules.{rules}
use lib.Dec.{lit≤}
use lib.ListN.{length, take, replicate, length-append}
use lib.Seq.{take_at}
use Rattle.words.specs.Bytes.{little}
use Rattle.words.proofs.Bytes.{little_long}
use Rattle.words.proofs.Fronts.{Front, front_none, front_put, front_skip}
use Rattle.fields.specs.Fields.{checked}
use Rattle.ghash.proofs.Elements.{element_block}
use Rattle.cipher.specs.Machine.{registers_of}
use Rattle.digest.specs.Machine.{sum_of}
use Rattle.layout.specs.Block.{registers_bytes, body, block_of}
use Rattle.suspended.specs.Machine.{suspended_of}
use Rattle.suspended.proofs.Placing.{registers_long}
use Rattle.suspended.proofs.block_of.Goals as goal
use Rattle.suspended.proofs.block_of.Goals.{Start}

-- the arrays' lengths, asked where little else stands in scope
long : (c : Start)
    → (length c.args.f.registers.lfsr.a ≡ 16) × (length c.args.f.registers.lfsr.b ≡ 16) × (length c.args.f.held.pending ≡ 16)
long c = (search rules, search rules, search rules)

in_parts : {n k m : ℕ} {f o out : List ℕ} → Front n f k o → (a b : List ℕ) → Front n (f ++ (a ++ b)) m out → Front n (f ++ a ++ b) m out
in_parts w a b g = rw append_assoc g

pub returns : goal.returns
unfolding body block_of
returns c =
    let f = c.args.f in
    let held = sum_of f.held in
    let held_long : length (held.hash ++ held.pending) ≡ 32 = length-append held.hash held.pending ∙ ap₂ ◌+◌ (element_block f.held.acc).long (long (goal.at.returns c).Start).2 in
    let f1 = front_put (front_none 512) (f.phase ∷ []) 1 _ refl (lit≤ tt) refl in
    let f4 = front_skip f1 3 (lit≤ tt) in
    let f8 = front_put f4 (little 4 f.ad) 4 _ (little_long 4 f.ad) (lit≤ tt) c.put.ensures in
    let f12 = front_put f8 (little 4 f.text) 4 _ (little_long 4 f.text) (lit≤ tt) c.put-2.ensures in
    let f16 = front_skip f12 4 (lit≤ tt) in
    let f128 = front_put f16 (registers_bytes (registers_of f.registers)) 112 _ (registers_long f.registers (long (goal.at.returns c).Start).0 (long (goal.at.returns c).Start).1) (lit≤ tt) c.put_registers.ensures in
    let f160 = in_parts f128 held.hash held.pending (front_put f128 (held.hash ++ held.pending) 32 _ held_long (lit≤ tt) c.put_held.ensures) in
    let f508 : Front 512 (body (suspended_of f)) 508 c.put_held.new.out = front_skip f160 348 (lit≤ tt) in
    c.put_check.ensures ∙ ap checked (ap (take 508) f508.is ∙ take_at (body (suspended_of f)) (replicate 4 0) 508 f508.long)
