-- `bytes_c::is_session` meets its contract: its test is the definition's.
use mathlib.Core.Path.{refl}
use Rattle.bytes_c.proofs.is_session.Goals as goal

pub returns : goal.returns
returns c = refl
