-- `list` meets its contract. Assumes nothing.
use Rattle.parts.proofs.Listing.{listing_end}
use Rattle.groups.proofs.Listing.{list_start, list_next}
use borrow.Author.Rules.{rules}
use Rattle.groups.proofs.list.Goals as goal

pub loop-g-init : goal.loop-g-init
loop-g-init c = search (list_start, rules)

pub loop-g-preserved : goal.loop-g-preserved
loop-g-preserved c = search (list_next, rules)

pub returns : goal.returns
returns c = search (listing_end, rules)
