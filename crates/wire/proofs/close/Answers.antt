-- `close` meets its contract. Assumes nothing.
use Rattle.std.proofs.Common.{rules, arith}
use Rattle.wire.proofs.Frame.{closed}
use Rattle.wire.proofs.close.Goals as goal

pub returns : goal.returns
returns c = (omega arith, search (closed, rules))
