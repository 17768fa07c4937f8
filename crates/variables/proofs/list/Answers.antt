-- `list` meets its contract. Assumes nothing.
use Rattle.variables.proofs.Listing.{size_small, list_start, list_next, list_end}
use borrow.Author.Rules.{rules}
use Rattle.variables.proofs.list.Goals as goal

pub loop-i-init : goal.loop-i-init
loop-i-init c = search (list_start, rules)

pub list_byte-requires : goal.list_byte-requires
list_byte-requires c = search (size_small, rules)

pub loop-i-preserved : goal.loop-i-preserved
loop-i-preserved c = search (list_next, rules)

pub returns : goal.returns
returns c = search (list_end, rules)
