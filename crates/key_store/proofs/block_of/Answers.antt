-- `key_store::block_of` meets its contract: fields are written from the front on, with zeros left between and behind, and the check behind them.
use mathlib.Core.Path.{◌≡◌, refl, ap, ap₂, ◌∙◌}
use mathlib.Core.List.{List, [], ◌∷◌, ◌++◌, append_assoc}
use Prim.Native.Nat.{ℕ}
use native.Mathlib.Omega.{arith}
use borrow.Author.Rules.{rules}
use lib.Dec.{lit≤}
use lib.ListN.{length, take, drop, replicate, length-drop, take-append-drop}
use lib.Seq.{take_all, take_at}
use Rattle.words.specs.Bytes.{part}
use Rattle.words.specs.Machine.{bytes_of}
use Rattle.words.proofs.Blocks.{bytes_of_block}
use Rattle.words.proofs.Fronts.{front_none, front_put, front_skip}
use Rattle.fields.specs.Fields.{checked}
use Rattle.key_store.specs.Layout.{body, block_of}
use Rattle.key_store.proofs.block_of.Goals as goal
use Rattle.key_store.proofs.block_of.Goals.{Start}

sealed_long : (c : Start) → length c.args.sealed ≡ 32
sealed_long c = search rules

-- the sealed key by its halves
halves : (s x y : List ℕ) → length s ≡ 32 → x ≡ part 0 16 s → y ≡ part 16 16 s → x ++ y ≡ s
halves s x y l ex ey =
    ap₂ (λ (u v : List ℕ). u ++ v) ex (ey ∙ take_all 16 (drop 16 s) (omega (arith, length-drop 16 s))) ∙ take-append-drop 16 s

pub returns : goal.returns
unfolding body block_of
returns c =
    let a = c.args in
    let u = bytes_of c.load.result in
    let v = bytes_of c.load-2.result in
    let iv = bytes_of a.iv in
    let tag = bytes_of a.tag in
    let f1 = front_put (front_none 512) (c.number.result ∷ []) 1 _ refl (lit≤ tt) refl in
    let f16 = front_skip f1 15 (lit≤ tt) in
    let f32 = front_put f16 iv 16 _ (bytes_of_block a.iv).long (lit≤ tt) c.store.ensures in
    let f48 = front_put f32 u 16 _ (bytes_of_block c.load.result).long (lit≤ tt) c.store-2.ensures in
    let f64 = front_put f48 v 16 _ (bytes_of_block c.load-2.result).long (lit≤ tt) c.store-3.ensures in
    let f80 = front_put f64 tag 16 _ (bytes_of_block a.tag).long (lit≤ tt) c.store-4.ensures in
    let f508 = front_skip f80 428 (lit≤ tt) in
    let pre : List ℕ = (c.number.result ∷ []) ++ replicate 15 0 ++ iv in
    let e : pre ++ u ++ v ++ tag ++ replicate 428 0 ≡ pre ++ a.sealed ++ tag ++ replicate 428 0 =
    ap (λ (l : List ℕ). l ++ tag ++ replicate 428 0)
    (append_assoc pre u v ∙ ap (λ (l : List ℕ). pre ++ l) (halves a.sealed u v (sealed_long (goal.at.returns c).Start) c.load.ensures c.load-2.ensures)) in
    c.put_check.ensures
    ∙ ap checked (ap (take 508) f508.is ∙ take_at (pre ++ u ++ v ++ tag ++ replicate 428 0) (replicate 4 0) 508 f508.long ∙ e)
    ∙ ap (λ (m : ℕ). block_of (record { mark = m; iv = iv; sealed = a.sealed; tag = tag })) c.number.ensures
