-- `carry_out` meets its contract. Assumes nothing.
use borrow.Author.Rules.{rules}
use Rattle.judging.proofs.Judging.{message_passed}
use Rattle.serve.proofs.Serving.{carried_pass, carried_fail}
use Rattle.serve.proofs.carry_out.Goals as goal

pub change-requires-clause-passed : goal.change-requires-clause-passed
change-requires-clause-passed c = search (message_passed, rules)

pub returns-in-Ok-clause-carried_out : goal.returns-in-Ok-clause-carried_out
returns-in-Ok-clause-carried_out c = search (carried_pass, rules)

pub returns-in-Err-clause-carried_out : goal.returns-in-Err-clause-carried_out
returns-in-Err-clause-carried_out c = search (carried_fail, rules)
