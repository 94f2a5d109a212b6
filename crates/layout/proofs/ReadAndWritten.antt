-- A block written is read back, and a block that obeys the rules is the one written for what is read.
use Rattle.layout.specs.Laws.{ReadAndWritten}
use Rattle.layout.proofs.Written.{block_laid, read_block}
use Rattle.layout.proofs.Taken.{block_read, read_fine}

pub read_and_written : ReadAndWritten
read_and_written = record { laid = block_laid; reads_back = read_block; fine = read_fine; only_block = block_read }
