-- `regroup` meets its contract. Assumes nothing.
use Rattle.node.proofs.Tables.{regroup_room, regroup_keep, regroup_make, regroup_remove}
use borrow.Author.Rules.{rules}
use Rattle.node.proofs.regroup.Goals as goal

pub create-requires : goal.create-requires
create-requires c = search (regroup_room, rules)

pub returns-in-Keep : goal.returns-in-Keep
returns-in-Keep c = search (regroup_keep, rules)

pub returns-in-Make : goal.returns-in-Make
returns-in-Make c = search (regroup_make, rules)

pub returns-in-Remove : goal.returns-in-Remove
returns-in-Remove c = search (regroup_remove, rules)
