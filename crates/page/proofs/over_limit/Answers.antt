-- `page::over_limit` meets its contract, test by test.
use mathlib.Core.Path.{sym}
use Rattle.page.proofs.Refusing.{over_data, by_text}
use Rattle.page.proofs.over_limit.Goals as goal

pub returns-then-ad-gt-MOST_DATA : goal.returns-then-ad-gt-MOST_DATA
returns-then-ad-gt-MOST_DATA c = sym (over_data c.args.ad.now c.args.text.now c.if-ad-gt-MOST_DATA.true)

pub returns : goal.returns
returns c = by_text c.args.ad.now c.args.text.now c.if-ad-gt-MOST_DATA.false
