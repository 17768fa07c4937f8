-- `unfitting` meets its contract. Assumes nothing.
use Rattle.gateway.proofs.Plain.{unheard_message, unheard_refused}
use Rattle.gateway.proofs.unfitting.Goals as goal

pub returns-in-Ok : goal.returns-in-Ok
returns-in-Ok c = unheard_message _ _ _ c.open.ensures c.in-Ok.is

pub returns-in-Err : goal.returns-in-Err
returns-in-Err c = unheard_refused _ _ _ c.open.ensures _ c.in-Err.is
