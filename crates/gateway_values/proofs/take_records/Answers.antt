-- `take_records` meets its contract. Assumes nothing.
use Rattle.std.proofs.Common.{rules}
use Rattle.gateway_values.proofs.Numbers.{taken_both}
use Rattle.gateway_values.proofs.take_records.Goals as goal

pub returns-clause-taken : goal.returns-clause-taken
returns-clause-taken c = taken_both _ _ _ _ _ c.min-n.ensures (search rules) c.copy_into.ensures _ c.min.ensures
