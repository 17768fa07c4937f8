-- `in_order` meets its contract: one walk over the numbers. Assumes nothing.
use Rattle.listed.proofs.Order.{Ordered}
use Rattle.listed.proofs.in_order.Given as goal

abbrev pub invariant-loop-id : goal.invariant-loop-id
invariant-loop-id l = Ordered l.payload l.least l.id-index
