-- `change` meets its contract. Assumes nothing.
use Rattle.std.proofs.Common.{rules}
use Rattle.sets.proofs.Group.{group_room}
use Rattle.groups.proofs.change.Goals as goal

pub change_members-requires-clause-sizes_in_bounds : goal.change_members-requires-clause-sizes_in_bounds
change_members-requires-clause-sizes_in_bounds c = search (group_room, rules)
