-- `renew` meets its contract. Assumes nothing.
use Rattle.std.proofs.Common.{rules}
use Rattle.sums.proofs.Sums.{sum_fits, sum_front, sum_room, sum_renewed}
use Rattle.sums.proofs.renew.Goals as goal

pub overflow_mul-at : goal.overflow_mul-at
overflow_mul-at c = search (sum_fits, rules)

pub slice_bounds-copy_into-count : goal.slice_bounds-copy_into-count
slice_bounds-copy_into-count c = search (sum_front, rules)

pub slice_bounds-copy_into-start : goal.slice_bounds-copy_into-start
slice_bounds-copy_into-start c = search (sum_front, rules)

pub copy_into-requires : goal.copy_into-requires
copy_into-requires c = search (sum_room, rules)

pub returns : goal.returns
returns c = search (sum_renewed, rules)
