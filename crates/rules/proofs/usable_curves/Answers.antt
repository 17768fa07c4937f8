-- `usable_curves` meets its contract. Assumes nothing.
use Rattle.rules.proofs.Thirds.{curves_refused, counts_equal, stepped_stop, stepped_next, stepped_end}
use Rattle.rules.proofs.Totals.{none_of}
use Rattle.std.proofs.Common.{ap, not}
use borrow.Author.Rules.{rules}
use Rattle.rules.proofs.usable_curves.Goals as goal

pub returns-then-whole-gt8 : goal.returns-then-whole-gt8
returns-then-whole-gt8 c = search (none_of, curves_refused, rules)

pub returns-then-not-usable_curve : goal.returns-then-not-usable_curve
returns-then-not-usable_curve c =
    let n = counts_equal c.args.curves.now c.curve_count.result c.if-whole-curve_count.false c.curve_count.ensures in
    none_of _ _ (stepped_stop _ _ _ n _ _ _ _ c.loop-i.invariant _ _ c.loop-i-test.true c.curve_at-c.ensures c.usable_curve.ensures (ap not c.if-not-usable_curve.true))

pub loop-i-preserved : goal.loop-i-preserved
loop-i-preserved c = search (stepped_next, counts_equal, rules)

pub returns : goal.returns
returns c = search (stepped_end, counts_equal, rules)
