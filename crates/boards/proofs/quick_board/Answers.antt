-- `quick_board` meets its contract. Assumes nothing.
use Rattle.boards.proofs.Whole.{board_own, board_curves, board_blocks, board_sums, board_lengths, board_groups, board_quick}
use borrow.Author.Rules.{rules}
use Rattle.boards.proofs.quick_board.Goals as goal

pub returns-then-not-each_summed : goal.returns-then-not-each_summed
returns-then-not-each_summed c = search (board_sums, rules)

pub returns-then-not-quick_variables : goal.returns-then-not-quick_variables
returns-then-not-quick_variables c = search (board_own, rules)

pub returns-in_default : goal.returns-in_default
returns-in_default c = search (board_curves, rules)

pub returns-then-total-board : goal.returns-then-total-board
returns-then-total-board c = search (board_blocks, rules)

pub returns-then-not-fitting_lengths : goal.returns-then-not-fitting_lengths
returns-then-not-fitting_lengths c = search (board_lengths, rules)

pub returns-then-not-usable_groups : goal.returns-then-not-usable_groups
returns-then-not-usable_groups c = search (board_groups, rules)

pub returns : goal.returns
returns c = search (board_quick, rules)
