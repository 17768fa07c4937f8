-- `curve_start` meets its contract. Assumes nothing.
use Rattle.records.proofs.Blocks.{before_start, before_next, before_add, blocks_next, blocks_add}
use borrow.Author.Rules.{rules}
use Rattle.records.proofs.curve_start.Goals as goal

pub loop-i-init : goal.loop-i-init
loop-i-init c = (before_start, before_start)

pub overflow_add-blocks : goal.overflow_add-blocks
overflow_add-blocks c = search (blocks_add, rules)

pub overflow_add-bytes : goal.overflow_add-bytes
overflow_add-bytes c = search (before_add, rules)

pub loop-i-preserved : goal.loop-i-preserved
loop-i-preserved c = (search (blocks_next, rules), search (before_next, rules))
