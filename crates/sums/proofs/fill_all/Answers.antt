-- `fill_all` meets its contract: one walk over the curves. Assumes nothing.
use Rattle.records.proofs.Sound.{size_short}
use Rattle.sums.proofs.Lengths.{all_start, all_end_fits, all_front, all_inside, all_next, all_end}
use borrow.Author.Rules.{rules}
use Rattle.sums.proofs.fill_all.Goals as goal

pub loop-i-init : goal.loop-i-init
loop-i-init c = search (all_start, rules)

pub overflow_add-end : goal.overflow_add-end
overflow_add-end c = search (all_end_fits, rules)

pub offset_bounds-lengths-first : goal.offset_bounds-lengths-first
offset_bounds-lengths-first c = search (all_front, rules)

pub slice_bounds-fill-end : goal.slice_bounds-fill-end
slice_bounds-fill-end c = search (all_inside, rules)

pub overflow_cast-curve : goal.overflow_cast-curve
overflow_cast-curve c =
    size_short _ _ _ _ c.requires.0 c.curve_count-i-end.ensures c.loop-i-test.true c.curve_at-curve.ensures

pub loop-i-preserved : goal.loop-i-preserved
loop-i-preserved c =
    let l = c.loop-i in
    all_next _ _ _ l.i l.first _ _ c.requires.0 c.requires.1 c.curve_count-i-end.ensures c.loop-i-test.true c.curve_at-curve.ensures l.invariant _
    (c.fill.ensures.after (λ y e. e))

pub returns : goal.returns
returns c = search (all_end, rules)
