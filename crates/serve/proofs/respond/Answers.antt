-- `respond` meets its contract. Assumes nothing.
use borrow.Author.Rules.{rules}
use Rattle.judging.proofs.Judging.{message_passed}
use Rattle.serve.proofs.Serving.{respond_pass, respond_fail}
use Rattle.serve.proofs.respond.Goals as goal

pub answer-requires-clause-passed : goal.answer-requires-clause-passed
answer-requires-clause-passed c = search (message_passed, rules)

pub returns-in-Ok : goal.returns-in-Ok
returns-in-Ok c = search (respond_pass, rules)

pub returns-in-Err : goal.returns-in-Err
returns-in-Err c = search (respond_fail, rules)
