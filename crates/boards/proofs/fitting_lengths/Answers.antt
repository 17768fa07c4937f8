-- `fitting_lengths` meets its contract. Assumes nothing.
use Rattle.boards.proofs.Lengths.{lengths_uneven, common_fits, fitted_at_once}
use borrow.Author.Rules.{rules}
use Rattle.boards.proofs.fitting_lengths.Goals as goal

pub returns-then-total-lengths : goal.returns-then-total-lengths
returns-then-total-lengths c = search (lengths_uneven, rules)

pub overflow_cast-size : goal.overflow_cast-size
overflow_cast-size c = search (common_fits, rules)

pub returns-in-Some : goal.returns-in-Some
returns-in-Some c = search (fitted_at_once, rules)
