-- `usable_board` meets its contract. Assumes nothing.
use Rattle.boards.proofs.Whole.{sums_refuse, variables_refuse, values_refuse, functions_refuse, groups_refuse, curves_refuse, blocks_refuse, as_it_is, board_fitted, board_freshable}
use borrow.Author.Rules.{rules}
use Rattle.boards.proofs.usable_board.Goals as goal

pub returns-then-not-each_summed : goal.returns-then-not-each_summed
returns-then-not-each_summed c = search (sums_refuse, rules)

pub returns-in_default : goal.returns-in_default
returns-in_default c = search (variables_refuse, rules)

pub returns-then-bytes-board : goal.returns-then-bytes-board
returns-then-bytes-board c = search (values_refuse, rules)

pub returns-then-not-usable_functions : goal.returns-then-not-usable_functions
returns-then-not-usable_functions c = search (functions_refuse, rules)

pub returns-then-not-usable_groups : goal.returns-then-not-usable_groups
returns-then-not-usable_groups c = search (groups_refuse, rules)

pub returns-in_default-usable_curves : goal.returns-in_default-usable_curves
returns-in_default-usable_curves c = search (curves_refuse, rules)

pub returns-then-total-board : goal.returns-then-total-board
returns-then-total-board c = search (blocks_refuse, rules)

pub returns-then-fresh : goal.returns-then-fresh
returns-then-fresh c = search (board_freshable, rules)

pub returns : goal.returns
returns c = search (as_it_is, board_fitted, rules)
