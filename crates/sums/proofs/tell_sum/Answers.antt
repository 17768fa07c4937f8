-- `tell_sum` meets its contract. Assumes nothing.
use Rattle.sums.proofs.Sums.{sum_told}
use Rattle.sums.proofs.tell_sum.Goals as goal

pub returns : goal.returns
returns c = sum_told _ _ _ _ _ _ c.curve_at-c.ensures c.requires.sum_named c.read_value.ensures
