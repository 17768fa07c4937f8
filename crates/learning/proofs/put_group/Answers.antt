-- `put_group` meets its contract. Assumes nothing.
use Rattle.std.proofs.Common.{rules}
use Rattle.learning.proofs.Grouping.{ids_below, past_next, past_fifth, past_variables, no_ids, unknown_ids, put_in}
use Rattle.learning.proofs.put_group.Goals.{then-table-place-via-then-table-place, then-table-place-via-else-table-place+then-place-ge5, then-table-place-via-else-table-place+else-place-ge5+then-variables-gt64, then-table-place-via-else-table-place+else-place-ge5+else-variables-gt64+then-ids-eq0}
use Rattle.learning.proofs.put_group.Goals as goal

pub returns-then-table-place : goal.returns-then-table-place
returns-then-table-place c =
    let t = c.args.table.now in
    elim c.then-table-place.branch [
      | then-table-place-via-then-table-place w ↦ past_next t _ _ w.if-table-place.true
      | then-table-place-via-else-table-place+then-place-ge5 w ↦ past_fifth t _ _ w.if-place-ge5.true
      | then-table-place-via-else-table-place+else-place-ge5+then-variables-gt64 w ↦ past_variables t _ _ w.if-variables-gt64.true
      | then-table-place-via-else-table-place+else-place-ge5+else-variables-gt64+then-ids-eq0 w ↦ no_ids t _ _ w.if-ids-eq0.true
    ]

pub returns-then-not-are_known : goal.returns-then-not-are_known
returns-then-not-are_known c = unknown_ids c.args.table.now _ _ _ c.are_known.ensures c.if-not-are_known.true

pub set_of-requires : goal.set_of-requires
set_of-requires c = ids_below _ _ _ c.are_known.ensures c.if-not-are_known.false c.if-variables-gt64.false

pub returns : goal.returns
returns c = put_in c.args.table.now _ _ _ c.set_of.ensures (search rules) c.if-table-place.false c.if-place-ge5.false c.if-variables-gt64.false c.if-ids-eq0.false _ c.are_known.ensures c.if-not-are_known.false _ c.max-table.ensures
