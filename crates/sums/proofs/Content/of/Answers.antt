-- `Content::of` meets its contract. Assumes nothing.
use Rattle.std.proofs.Common.{rules}
use Rattle.sums.proofs.Contents.{content_add, content_end, content_first, blocks_inside, lengths_inside, content_sound, content_holds}
use Rattle.sums.proofs.Content.of.Goals as goal

pub overflow_add-result : goal.overflow_add-result
overflow_add-result c = search (content_add, rules)

pub slice_bounds-result-end : goal.slice_bounds-result-end
slice_bounds-result-end c = search (blocks_inside, rules)

pub overflow_add-result-2 : goal.overflow_add-result-2
overflow_add-result-2 c = search (content_end, rules)

pub offset_bounds-lengths-first : goal.offset_bounds-lengths-first
offset_bounds-lengths-first c = search (content_first, rules)

pub slice_bounds-result-end-2 : goal.slice_bounds-result-end-2
slice_bounds-result-end-2 c = search (lengths_inside, rules)

pub returns-clause-sound : goal.returns-clause-sound
returns-clause-sound c = search (content_sound, rules)

pub returns-clause-holds : goal.returns-clause-holds
returns-clause-holds c = search (content_holds, rules)
