-- `receive` meets its contract. Assumes nothing.
use mathlib.Core.Path.{ap}
use mathlib.Core.Bool.{not}
use Rattle.wire.proofs.Opening.{message_room, message_least}
use Rattle.std.proofs.lemmas.Result.{err_from_is_err_and}
use Rattle.node.proofs.Carrying.{carried_unusable, carried_unopened, carried_served}
use borrow.Author.Rules.{rules}
use Rattle.node.proofs.receive.Goals as goal

pub returns-then-not-tested-clause-carried : goal.returns-then-not-tested-clause-carried
returns-then-not-tested-clause-carried c = carried_unusable _ _ _ _ _ _ _ _ _ _ _ _ _ _ c.requires (ap not c.if-not-tested.true)

pub returns-in_err-due-clause-carried : goal.returns-in_err-due-clause-carried
returns-in_err-due-clause-carried c =
    let p = err_from_is_err_and c.from_residual.result c.from_residual.ensures.1 in
    rw (p.1, p.2) (carried_unopened _ _ _ _ _ _ _ _ _ _ _ _ _ _ c.requires (ap not c.if-not-tested.false) _ c.open.ensures _ c.in_err-due.was)

pub answer-received-requires-clause-in_bounds : goal.answer-received-requires-clause-in_bounds
answer-received-requires-clause-in_bounds c = (search (message_least, rules), search (message_room, rules))

pub returns-clause-carried : goal.returns-clause-carried
returns-clause-carried c = carried_served _ _ _ _ _ _ _ _ _ _ _ _ _ _ c.requires (ap not c.if-not-tested.false) _ c.open.ensures _ _ _ _ _ c.in_ok-due.was c.answer-received.ensures.ends
