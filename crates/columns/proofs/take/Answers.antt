-- `take` meets its contract: a turn stores four records, the last first, or one, and no store past the first 64. Assumes nothing.
use Rattle.std.proofs.Common.{arith}
use Rattle.columns.proofs.Columns.{none_stored, one_stored, four_stored}
use Rattle.columns.proofs.take.Goals as goal

pub loop-turn-init : goal.loop-turn-init
loop-turn-init c = none_stored _ _ _

pub loop-turn-preserved : goal.loop-turn-preserved
loop-turn-preserved c =
    four_stored _ _ _ _ _ _ _ _ _ c.loop-turn.invariant (omega arith) c.store.ensures c.store-in-loop-turn.ensures c.store-in-loop-turn-2.ensures c.store-in-loop-turn-3.ensures

pub loop-i-preserved : goal.loop-i-preserved
loop-i-preserved c = one_stored _ _ _ _ _ _ c.loop-i.invariant (omega arith) c.store-in-loop-i.ensures
