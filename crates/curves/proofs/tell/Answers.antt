-- `tell` meets its contract. Assumes nothing.
use Rattle.std.proofs.Common.{rules}
use Rattle.curves.proofs.BlockAt.{length_inside, answer_inside, answer_room, block_answered}
use Rattle.curves.proofs.tell.Goals as goal

pub offset_bounds-lengths-place : goal.offset_bounds-lengths-place
offset_bounds-lengths-place c = search (length_inside, rules)

pub bounds-lengths-place : goal.bounds-lengths-place
bounds-lengths-place c = search (length_inside, rules)

pub read_block-requires : goal.read_block-requires
read_block-requires c = (search (answer_inside, rules), search (answer_room, rules))

pub returns : goal.returns
returns c = search (block_answered, rules)
