-- `unsigned_of` meets its contract. Assumes nothing.
use Rattle.numbers.proofs.Little.{read_none, read_turn, read_room, read_fits}
use borrow.Author.Rules.{rules}
use Rattle.numbers.proofs.unsigned_of.Goals as goal

pub loop-i-init : goal.loop-i-init
loop-i-init c = search (read_none, rules)

pub overflow_mul-u : goal.overflow_mul-u
overflow_mul-u c = search (read_room, rules)

pub overflow_add-u : goal.overflow_add-u
overflow_add-u c = search (read_fits, rules)

pub loop-i-preserved : goal.loop-i-preserved
loop-i-preserved c = search (read_turn, rules)
