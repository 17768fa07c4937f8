-- `change_one` meets its contract. Assumes nothing.
use Rattle.variables.proofs.One.{one_room, one_edited}
use borrow.Author.Rules.{rules}
use Rattle.variables.proofs.change_one.Goals as goal

pub change_value-requires : goal.change_value-requires
change_value-requires c = (search (one_room, rules), search rules)

pub returns : goal.returns
returns c = search (one_edited, rules)
