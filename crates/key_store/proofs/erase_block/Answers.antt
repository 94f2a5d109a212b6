-- `key_store::erase_block` meets its contract: what it writes and what it leaves are the erased block, since the block obeys the rules.
use Rattle.std.proofs.Common.{◌≡◌, ℕ, List, length, set, take, sym, ap, ◌∙◌, arith, length-set, length-take-le}
use Rattle.std.proofs.Math.Seq.{sets, length-sets}
use Rattle.words.specs.Machine.{bytes_of}
use Rattle.fields.proofs.Checked.{checked_long}
use Rattle.key_store.proofs.Erasing.{erased_in_place}
use Rattle.key_store.proofs.erase_block.Goals as goal
use Rattle.key_store.proofs.erase_block.Goals.{After-store, After-store-2, After-store-3}

pub returns : goal.returns
returns c =
    erased_in_place c.args.block.now c.requires.0 c.requires.1 _ _ _ _ (bytes_of c.zero-none.result) c.zero-none.ensures c.store.ensures
    c.store-2.ensures c.store-3.ensures c.put_check.ensures

-- as long as it was
module _ (b z : List ℕ) (h : length b ≡ 512) where
  long1 : {b1 : List ℕ} → b1 ≡ sets (set b 0 2) 32 z → length b1 ≡ 512
  long1 e = ap length e ∙ length-sets (set b 0 2) 32 z ∙ length-set b 0 2 ∙ h

  long2 : {b1 b2 : List ℕ} → b1 ≡ sets (set b 0 2) 32 z → b2 ≡ sets b1 48 z → length b2 ≡ 512
  long2 {b1} e f = ap length f ∙ length-sets b1 48 z ∙ long1 e

  long3 : {b1 b2 b3 : List ℕ} → b1 ≡ sets (set b 0 2) 32 z → b2 ≡ sets b1 48 z → b3 ≡ sets b2 64 z → length b3 ≡ 512
  long3 {b1} {b2} e f g = ap length g ∙ length-sets b2 64 z ∙ long2 e f

first : (c : After-store) → length c.store.new.out ≡ 512
first c = long1 c.args.block.now (bytes_of c.zero-none.result) c.requires.0 c.store.ensures

second : (c : After-store-2) → length c.store-2.new.out ≡ 512
second c = long2 c.args.block.now (bytes_of c.zero-none.result) c.requires.0 c.store.ensures c.store-2.ensures

third : (c : After-store-3) → length c.store-3.new.out ≡ 512
third c = long3 c.args.block.now (bytes_of c.zero-none.result) c.requires.0 c.store.ensures c.store-2.ensures c.store-3.ensures

pub store-requires : goal.store-requires
store-requires c = let l = length-set c.args.block.now 0 2 in omega arith

pub store-requires-2 : goal.store-requires-2
store-requires-2 c = omega (arith, first (goal.at.store-requires-2 c).After-store)

pub store-requires-3 : goal.store-requires-3
store-requires-3 c = omega (arith, second (goal.at.store-requires-3 c).After-store-2)

pub put_check-requires : goal.put_check-requires
put_check-requires c = third (goal.at.put_check-requires c).After-store-3

pub shape_of-block : goal.shape_of-block
shape_of-block c =
    let l = third (goal.at.shape_of-block c).After-store-3 in
    ap length c.put_check.ensures
    ∙ checked_long (take 508 c.store-3.new.out) (length-take-le 508 c.store-3.new.out (omega arith))
    ∙ sym c.requires.0
