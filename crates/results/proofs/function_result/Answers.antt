-- `function_result` meets its contract. Assumes nothing.
use Rattle.results.proofs.Answering.{result_short, result_room, result_answered, result_refused, result_silent}
use Rattle.results.proofs.function_result.Goals as goal

pub answer-requires : goal.answer-requires
answer-requires c = let h = c.in-Ok.ensures in (result_short _ _ _ _ _ h, result_room _ _ _ _ _ h)

pub returns-then-due : goal.returns-then-due
returns-then-due c = result_answered _ _ _ _ _ _ _ _ _ c.in-Ok.ensures c.if-due.true c.answer.ensures

pub returns-in-Err : goal.returns-in-Err
returns-in-Err c = result_refused _ _ _ _ _ _ _ _ c.in-Err.ensures

pub returns-else-due : goal.returns-else-due
returns-else-due c = result_silent _ _ _ _ _ _ _ c.in-Ok.ensures c.if-due.false
