-- `list` meets its contract: one walk over the records. Assumes nothing.
use Rattle.parts.proofs.Listing.{listing_end}
use Rattle.functions.proofs.Listing.{input_small, output_small, list_start, list_next}
use borrow.Author.Rules.{rules}
use Rattle.functions.proofs.list.Goals as goal

pub loop-i-init : goal.loop-i-init
loop-i-init c = search (list_start, rules)

pub list_byte-requires : goal.list_byte-requires
list_byte-requires c = (search (input_small, rules), search (output_small, rules))

pub loop-i-preserved : goal.loop-i-preserved
loop-i-preserved c = search (list_next, rules)

pub returns : goal.returns
returns c = search (listing_end, rules)
