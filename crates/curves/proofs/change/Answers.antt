-- `change` meets its contract. Assumes nothing.
use Rattle.std.proofs.Common.{rules}
use Rattle.curves.proofs.BlockAt.{length_inside}
use Rattle.curves.proofs.change.Goals as goal

pub offset_bounds-lengths-place : goal.offset_bounds-lengths-place
offset_bounds-lengths-place c = search (length_inside, rules)

pub bounds-lengths-place : goal.bounds-lengths-place
bounds-lengths-place c = search (length_inside, rules)
