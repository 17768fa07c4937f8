-- `offset` meets its contract. Assumes nothing.
use Rattle.std.proofs.Common.{take, arith}
use Rattle.lists.proofs.Sum.{total_nil, total_take}
use Rattle.lists.proofs.offset.Goals as goal

pub loop-size-init : goal.loop-size-init
loop-size-init c = omega (arith, total_nil)

pub loop-size-preserved : goal.loop-size-preserved
loop-size-preserved c = omega (arith, c.from-sum.ensures, total_take (take c.args.n c.args.sizes.now) c.loop-size.size-index c.loop-size-test.true)
