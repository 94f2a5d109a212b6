-- `cipher::sigma` meets its contract.
use Rattle.words.specs.Machine.{bytes_of}
use Rattle.cipher.proofs.Halves.{sigma_words}
use borrow.Author.Rules.{rules}
use Rattle.cipher.proofs.sigma.Goals as goal

pub returns : goal.returns
unfolding bytes_of
returns c =
    let x = c.args.x in
    sigma_words x (record { in_0 = search rules; in_1 = search rules; in_2 = search rules; in_3 = search rules }) _ _ _ _
    c.interleaved.ensures c.interleaved-2.ensures c.interleaved-3.ensures
    c.interleaved-4.ensures
