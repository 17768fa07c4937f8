-- `answer` meets its contract. Assumes nothing.
use Rattle.results.proofs.Answering.{gave_answered, failed_answered}
use Rattle.results.proofs.answer.Goals as goal

pub returns-in-Ok : goal.returns-in-Ok
returns-in-Ok c =
    let k = rw c.in-Ok.is at c.requires.0 in
    let e = c.finish.ensures in
    rw c.in-Ok.is (gave_answered _ _ k c.requires.1 _ c.copy_into.ensures _ _ e.0 e.1)

pub returns-in-Err : goal.returns-in-Err
returns-in-Err c =
    let e = c.finish-in-Err.ensures in
    rw c.in-Err.is (failed_answered _ _ c.requires.1 _ _ e.0 e.1)
