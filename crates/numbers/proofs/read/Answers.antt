-- `read` meets its contract. Assumes nothing.
use Rattle.numbers.proofs.Little.{read_size}
use borrow.Author.Rules.{rules}
use Rattle.numbers.proofs.read.Goals as goal

pub of_value-requires : goal.of_value-requires
of_value-requires g c = (search rules, search (read_size, rules))
