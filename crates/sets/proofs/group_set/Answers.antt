-- `group_set` meets its contract. Assumes nothing.
use Rattle.std.proofs.Common.{rules}
use Rattle.sets.proofs.Group.{set_all, set_read_only, set_writable, set_made}
use Rattle.sets.proofs.group_set.Goals as goal

pub returns-in-0 : goal.returns-in-0
returns-in-0 c = set_all _ _ _ c.in-0.is

pub returns-in-1 : goal.returns-in-1
returns-in-1 c = search (set_read_only, rules)

pub returns-in-2 : goal.returns-in-2
returns-in-2 c = set_writable _ _ _ c.in-2.is

pub returns-in_default : goal.returns-in_default
returns-in_default c = search (set_made, rules)
