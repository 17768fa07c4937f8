-- `fitting_curves` meets its contract. Assumes nothing.
use Rattle.records.proofs.Sound.{size_short}
use Rattle.boards.proofs.Lengths.{fitted_start, fitted_add, fitted_inside, fitted_front, fitted_next, fitted_stop}
use borrow.Author.Rules.{rules}
use Rattle.boards.proofs.fitting_curves.Goals as goal

pub loop-i-init : goal.loop-i-init
loop-i-init c = search (fitted_start, rules)

pub overflow_cast-size : goal.overflow_cast-size
overflow_cast-size c = search (size_short, rules)

pub overflow_add-end : goal.overflow_add-end
overflow_add-end c = search (fitted_add, rules)

pub offset_bounds-lengths-first : goal.offset_bounds-lengths-first
offset_bounds-lengths-first c = search (fitted_front, rules)

pub slice_bounds-fitting-end : goal.slice_bounds-fitting-end
slice_bounds-fitting-end c = search (fitted_inside, rules)

pub returns-then-not-fitting : goal.returns-then-not-fitting
returns-then-not-fitting c = search (fitted_stop, rules)

pub loop-i-preserved : goal.loop-i-preserved
loop-i-preserved c = search (fitted_next, rules)
