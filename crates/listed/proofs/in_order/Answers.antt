-- `in_order` meets its contract: one walk over the numbers. Assumes nothing.
use Rattle.listed.proofs.Order.{ordered_start, order_over, order_below, ordered_next, ordered_end}
use Rattle.listed.proofs.in_order.Goals.{then-id-ge64-via-then-id-ge64, then-id-ge64-via-else-id-ge64+then-id-least}
use Rattle.listed.proofs.in_order.Goals as goal

pub loop-id-init : goal.loop-id-init
loop-id-init c = ordered_start _

pub returns-then-id-ge64 : goal.returns-then-id-ge64
returns-then-id-ge64 c =
    elim c.then-id-ge64.branch [
      | then-id-ge64-via-then-id-ge64 w ↦ order_over _ _ _ c.loop-id-test.true c.loop-id.invariant w.if-id-ge64.true
      | then-id-ge64-via-else-id-ge64+then-id-least w ↦ order_below _ _ _ c.loop-id-test.true c.loop-id.invariant w.if-id-least.true
    ]

pub loop-id-preserved : goal.loop-id-preserved
loop-id-preserved c = ordered_next _ _ _ c.loop-id-test.true c.loop-id.invariant c.if-id-ge64.false c.if-id-least.false

pub returns : goal.returns
returns c = ordered_end _ _ _ c.loop-id-test.false c.loop-id.invariant
