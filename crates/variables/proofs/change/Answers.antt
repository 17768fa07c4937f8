-- `change` meets its contract. Assumes nothing.
use Rattle.variables.proofs.Named.{named_below, named_fits, named_edited}
use borrow.Author.Rules.{rules}
use Rattle.variables.proofs.change.Goals as goal

pub change_one-requires : goal.change_one-requires
change_one-requires c = record { sound = search rules; i_in_bounds = (search (named_below, rules), search (named_fits, rules)) }

pub returns : goal.returns
returns c = search (named_edited, rules)
