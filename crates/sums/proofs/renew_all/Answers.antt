-- `renew_all` meets its contract: one walk over the curves. Assumes nothing.
use Rattle.sums.proofs.Sums.{renewing_start, renewing_next, renewing_end}
use borrow.Author.Rules.{rules}
use Rattle.sums.proofs.renew_all.Goals as goal

pub loop-i-init : goal.loop-i-init
loop-i-init c = search (renewing_start, rules)

pub loop-i-preserved : goal.loop-i-preserved
loop-i-preserved c = search (renewing_next, rules)

pub returns : goal.returns
returns c = search (renewing_end, rules)
