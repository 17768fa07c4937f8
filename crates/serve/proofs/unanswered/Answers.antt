-- `unanswered` meets its contract. Assumes nothing.
use borrow.Author.Rules.{rules}
use Rattle.serve.proofs.Silence.{run_there, unanswered_pass, unanswered_fail}
use Rattle.serve.proofs.unanswered.Goals as goal

pub quiet-requires : goal.quiet-requires
quiet-requires c = search (run_there, rules)

pub returns-in-Ok : goal.returns-in-Ok
returns-in-Ok c = search (unanswered_pass, rules)

pub returns-in-Err : goal.returns-in-Err
returns-in-Err c = search (unanswered_fail, rules)
