-- `answer` meets its contract: eleven commands write a payload, one asks for a run, the others are done. Assumes nothing.
use Rattle.answers.proofs.Answers.{read_some_needs, read_known_needs, second_some_needs, second_known_needs}
use Rattle.answers.proofs.Answers.{show_needs, group_read_needs, block_read_needs, sum_needs, run_needs}
use Rattle.answers.proofs.Answers.{answer_sum}
use borrow.Author.Rules.{rules}
use Rattle.answers.proofs.answer.Goals as goal

pub show-size-requires-clause-group_known : goal.show-size-requires-clause-group_known
show-size-requires-clause-group_known c = search (show_needs, rules)

pub tell-size-requires-clause-j_in_bounds : goal.tell-size-requires-clause-j_in_bounds
tell-size-requires-clause-j_in_bounds c = (search (read_some_needs, rules), search (read_known_needs, rules), search rules)

pub tell-size-requires-in-ReadGroup-clause-group_known : goal.tell-size-requires-in-ReadGroup-clause-group_known
tell-size-requires-in-ReadGroup-clause-group_known c = search (group_read_needs, rules)

pub tell-size-requires-in-WriteRead-clause-j_in_bounds : goal.tell-size-requires-in-WriteRead-clause-j_in_bounds
tell-size-requires-in-WriteRead-clause-j_in_bounds c = (search (second_some_needs, rules), search (second_known_needs, rules), search rules)

pub tell-size-requires-in-ReadBlock-clause-block_read : goal.tell-size-requires-in-ReadBlock-clause-block_read
tell-size-requires-in-ReadBlock-clause-block_read c = search (block_read_needs, rules)

pub tell_sum-requires-clause-sum_named : goal.tell_sum-requires-clause-sum_named
tell_sum-requires-clause-sum_named c = search (sum_needs, rules)

pub run-requires : goal.run-requires
run-requires c = search (run_needs, rules)

pub returns-in-ReadSum : goal.returns-in-ReadSum
returns-in-ReadSum c = search (answer_sum, rules)
