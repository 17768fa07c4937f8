-- `usable_variable` meets its contract. Assumes nothing.
use Rattle.rules.proofs.Checks.{variable_told}
use borrow.Author.Rules.{rules}
use Rattle.rules.proofs.usable_variable.Goals as goal

pub returns : goal.returns
returns c = search (variable_told, rules)
