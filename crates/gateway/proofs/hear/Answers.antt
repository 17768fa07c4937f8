-- `hear` meets its contract. Assumes nothing.
use Rattle.std.proofs.Common.{ap}
use Rattle.learning.specs.Taking.{HeardLeft, heard_of}
use Rattle.gateway.specs.Plain.{plain_heard_of, plain_heard_left}
use Rattle.gateway.proofs.hear.Goals as goal

pub returns-in-Some : goal.returns-in-Some
unfolding heard_of
returns-in-Some c = rw (c.in-Some.is, c.from.ensures) (ap (λ (y : HeardLeft). plain_heard_left (plain_heard_of y.told) y.table) c.hear.ensures)
