-- `tell` meets its contract. Assumes nothing.
use Rattle.variables.proofs.Named.{named_below, named_within}
use Rattle.variables.proofs.One.{one_room, one_reply, one_told}
use borrow.Author.Rules.{rules}
use Rattle.variables.proofs.tell.Goals as goal

pub offset-from-requires : goal.offset-from-requires
offset-from-requires c = (search (named_within, rules), search rules)

pub size_of-n-requires : goal.size_of-n-requires
size_of-n-requires c = search (named_below, rules)

pub read_value-requires : goal.read_value-requires
read_value-requires c = (search (one_room, named_below, rules), search (one_reply, named_below, rules))

pub returns : goal.returns
returns c = search (one_told, named_below, rules)
