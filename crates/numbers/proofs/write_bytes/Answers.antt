-- `write_bytes` meets its contract. Assumes nothing.
use Rattle.bsmp.specs.Number.{unsigned_of}
use Rattle.numbers.proofs.Little.{write_start, write_turn, write_end}
use borrow.Author.Rules.{rules}
use Rattle.numbers.proofs.write_bytes.Goals as goal

pub loop-i-init : goal.loop-i-init
loop-i-init c = search (write_start, rules)

pub loop-i-preserved : goal.loop-i-preserved
loop-i-preserved c = search (write_turn, rules)

pub returns-clause-lowest : goal.returns-clause-lowest
returns-clause-lowest c = search (write_end, rules)

pub returns-clause-number : goal.returns-clause-number
unfolding unsigned_of
returns-clause-number c = search (write_end, rules)
