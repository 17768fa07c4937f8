-- `list` meets its contract: one walk over the records. Assumes nothing.
use Rattle.curves.proofs.Listing.{list_start, list_next, list_end}
use borrow.Author.Rules.{rules}
use Rattle.curves.proofs.list.Goals as goal

pub loop-i-init : goal.loop-i-init
loop-i-init c = search (list_start, rules)

pub loop-i-preserved : goal.loop-i-preserved
loop-i-preserved c = search (list_next, rules)

pub returns : goal.returns
returns c = search (list_end, rules)
