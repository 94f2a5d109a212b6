-- `command::glyph` meets its contract, by the digit's kind.
use Rattle.command.proofs.Digits.{small, large}
use Rattle.command.proofs.glyph.Goals as goal

pub returns-then-v-lt10 : goal.returns-then-v-lt10
returns-then-v-lt10 c = small _ c.if-v-lt10.true

pub returns-else-v-lt10 : goal.returns-else-v-lt10
returns-else-v-lt10 c = large _ c.if-v-lt10.false
