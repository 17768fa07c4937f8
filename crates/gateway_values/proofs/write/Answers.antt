-- `write` meets its contract. Assumes nothing.
use Rattle.gateway_values.proofs.Numbers.{writing_told}
use Rattle.gateway_values.proofs.write.Goals as goal

pub returns : goal.returns
returns g c = writing_told c.args.table.now _ _ _ c.take_records.ensures.taken _ c.take_records.ensures.columns _ _ _ _ _ c.write.ensures
