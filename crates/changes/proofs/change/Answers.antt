-- `change` meets its contract: six commands write to a store, one renews a sum, two regroup, the others change nothing. Assumes nothing.
use borrow.Author.Rules.{rules}
use Rattle.changes.proofs.Changes.{write_needs, mask_needs, mask_operation, write_read_needs, make_needs, block_needs}
use Rattle.changes.proofs.Changes.{renew_some, renew_known, group_write_needs, group_mask_needs, group_mask_operation}
use Rattle.changes.proofs.Changes.{written, masked, written_read, group_written, group_masked, block_written, sum_worked}
use Rattle.changes.proofs.Changes.{group_made, groups_removed}
use Rattle.changes.proofs.change.Goals as goal

pub change_one-requires-clause-one_fits : goal.change_one-requires-clause-one_fits
change_one-requires-clause-one_fits c = search (write_needs, rules)

pub change-requires-clause-group_fits : goal.change-requires-clause-group_fits
change-requires-clause-group_fits c = search (group_write_needs, rules)

pub bounds-payload-1 : goal.bounds-payload-1
bounds-payload-1 c = search (mask_operation, rules)

pub change_one-requires-in-MaskVariable-clause-one_fits : goal.change_one-requires-in-MaskVariable-clause-one_fits
change_one-requires-in-MaskVariable-clause-one_fits c = search (mask_needs, rules)

pub bounds-payload-1-in-MaskGroup : goal.bounds-payload-1-in-MaskGroup
bounds-payload-1-in-MaskGroup c = search (group_mask_operation, rules)

pub change-requires-in-MaskGroup-clause-group_fits : goal.change-requires-in-MaskGroup-clause-group_fits
change-requires-in-MaskGroup-clause-group_fits c = search (group_mask_needs, rules)

pub change_one-requires-in-WriteRead-clause-one_fits : goal.change_one-requires-in-WriteRead-clause-one_fits
change_one-requires-in-WriteRead-clause-one_fits c = search (write_read_needs, rules)

pub set_of-requires : goal.set_of-requires
set_of-requires c = search (make_needs, rules)

pub change-requires-in-WriteBlock-clause-block_fits : goal.change-requires-in-WriteBlock-clause-block_fits
change-requires-in-WriteBlock-clause-block_fits c = search (block_needs, rules)

pub curve_at-curve-requires : goal.curve_at-curve-requires
curve_at-curve-requires c = search (renew_some, rules)

pub renew-requires-clause-sound_sums : goal.renew-requires-clause-sound_sums
renew-requires-clause-sound_sums c = (search rules, search (renew_known, rules))

pub returns-in-WriteVariable-clause-changed : goal.returns-in-WriteVariable-clause-changed
returns-in-WriteVariable-clause-changed c = search (written, rules)

pub returns-in-WriteGroup-clause-changed : goal.returns-in-WriteGroup-clause-changed
returns-in-WriteGroup-clause-changed c = search (group_written, rules)

pub returns-in-MaskVariable-clause-changed : goal.returns-in-MaskVariable-clause-changed
returns-in-MaskVariable-clause-changed c = search (masked, rules)

pub returns-in-MaskGroup-clause-changed : goal.returns-in-MaskGroup-clause-changed
returns-in-MaskGroup-clause-changed c = search (group_masked, rules)

pub returns-in-WriteRead-clause-changed : goal.returns-in-WriteRead-clause-changed
returns-in-WriteRead-clause-changed c = search (written_read, rules)

pub returns-in-MakeGroup-clause-changed : goal.returns-in-MakeGroup-clause-changed
returns-in-MakeGroup-clause-changed c = search (group_made, rules)

pub returns-in-RemoveGroups-clause-changed : goal.returns-in-RemoveGroups-clause-changed
returns-in-RemoveGroups-clause-changed c = search (groups_removed, rules)

pub returns-in-WriteBlock-clause-changed : goal.returns-in-WriteBlock-clause-changed
returns-in-WriteBlock-clause-changed c = search (block_written, rules)

pub returns-in-RenewSum-clause-changed : goal.returns-in-RenewSum-clause-changed
returns-in-RenewSum-clause-changed c = search (sum_worked, rules)
