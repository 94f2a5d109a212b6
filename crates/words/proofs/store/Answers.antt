-- `words::store` meets its contract: four words one behind the other are the block's bytes.
use Rattle.words.proofs.Blocks.{stored}
use Rattle.words.proofs.store.Goals as goal

pub returns : goal.returns
returns c =
    let a = c.args in
    stored _ _ _ _ _ a.at a.x c.store_word.ensures c.store_word-2.ensures c.store_word-3.ensures c.store_word-4.ensures
