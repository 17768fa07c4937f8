-- `quick_variables` meets its contract. Assumes nothing.
use Rattle.boards.proofs.Pieces.{whole_inside, counts_refused, pieces_refused, rest_refused, large_refused, all_pass, quick_taken}
use borrow.Author.Rules.{rules}
use Rattle.boards.proofs.quick_variables.Goals as goal

pub returns-then-count-lt1 : goal.returns-then-count-lt1
returns-then-count-lt1 c = search (counts_refused, rules)

pub returns-then-not-usable_pieces : goal.returns-then-not-usable_pieces
returns-then-not-usable_pieces c = search (pieces_refused, whole_inside, rules)

pub returns-then-not-usable_rest : goal.returns-then-not-usable_rest
returns-then-not-usable_rest c = search (rest_refused, whole_inside, rules)

pub returns-then-bytes-le4096 : goal.returns-then-bytes-le4096
returns-then-bytes-le4096 c = quick_taken _ _ _ c.offset-bytes.ensures (search rules) (search rules) (search rules) (search rules) (search (all_pass, whole_inside, rules))

pub returns-else-bytes-le4096 : goal.returns-else-bytes-le4096
returns-else-bytes-le4096 c = search (large_refused, rules)
