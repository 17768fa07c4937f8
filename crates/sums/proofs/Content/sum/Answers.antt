-- `Content::sum` meets its contract: one walk over the blocks. Assumes nothing.
use Rattle.sums.proofs.Summing.{summing_start, whole_inside, next_fits, own_fits, own_inside, own_add, full_next, short_next, summing_end}
use borrow.Author.Rules.{rules}
use Rattle.sums.proofs.Content.sum.Goals as goal
use Rattle.sums.proofs.Content.sum.Goals.{then-count-size, else-count-size}

pub loop-n-init : goal.loop-n-init
loop-n-init c = search (summing_start, rules)

pub overflow_cast-count : goal.overflow_cast-count
overflow_cast-count c = search (own_fits, rules)

pub overflow_add-next : goal.overflow_add-next
overflow_add-next c = search (next_fits, rules)

pub overflow_add-at : goal.overflow_add-at
overflow_add-at c = search (own_add, rules)

pub slice_bounds-feed-end : goal.slice_bounds-feed-end
slice_bounds-feed-end c = search (own_inside, rules)

pub loop-n-preserved : goal.loop-n-preserved
loop-n-preserved c =
    elim c.if-count-size.branch [
      | then-count-size w ↦ rw (w.progress-is, w.from-is, w.at-is) (search (short_next, rules))
      | else-count-size w ↦ rw (w.progress-is, w.from-is, w.at-is) (search (full_next, rules))
    ]

pub slice_bounds-feed-end-2 : goal.slice_bounds-feed-end-2
slice_bounds-feed-end-2 c = search (whole_inside, rules)

pub returns : goal.returns
returns c = search (summing_end, rules)
