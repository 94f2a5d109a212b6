-- `bytes_c::date_number` meets its contract: byte by byte, since month and day are below 256 and the year below 65,536.
use Rattle.bytes_c.proofs.Replies.{date_little}
use Rattle.bytes_c.proofs.date_number.Goals as goal

pub returns : goal.returns
returns c = date_little _ c.requires.0 c.requires.1 c.requires.2
