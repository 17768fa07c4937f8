-- `usable_rest` meets its contract. Assumes nothing.
use Rattle.boards.proofs.Pieces.{rest_start, rest_next, rest_stop}
use borrow.Author.Rules.{rules}
use Rattle.boards.proofs.usable_rest.Goals as goal

pub loop-i-init : goal.loop-i-init
loop-i-init c = search (rest_start, rules)

pub returns-then-not-usable_variable : goal.returns-then-not-usable_variable
returns-then-not-usable_variable c = search (rest_stop, rules)

pub loop-i-preserved : goal.loop-i-preserved
loop-i-preserved c = search (rest_next, rules)
