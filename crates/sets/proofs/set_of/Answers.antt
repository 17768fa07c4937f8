-- `set_of` meets its contract. Assumes nothing.
use Rattle.std.proofs.Common.{rules}
use Rattle.sets.proofs.Ids.{set_next, set_end}
use Rattle.sets.proofs.set_of.Goals as goal

pub loop-id-preserved : goal.loop-id-preserved
loop-id-preserved c = search (set_next, rules)

pub returns : goal.returns
returns c = search (set_end, rules)
