-- `read_unsigned` meets its contract. Assumes nothing.
use Rattle.gateway_values.proofs.Numbers.{reading_told}
use Rattle.gateway_values.proofs.read_unsigned.Goals as goal

pub returns : goal.returns
returns c = reading_told c.args.table.now _ _ _ c.take_records.ensures.taken _ c.take_records.ensures.columns _ _ _ _ c.read_unsigned.ensures
