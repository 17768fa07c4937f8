-- `fit_counts` meets its contract: one walk over the counts. Assumes nothing.
use Rattle.listed.proofs.Counts.{counted_start, counts_stop, counted_next, counted_end}
use Rattle.listed.proofs.fit_counts.Goals as goal

pub loop-g-init : goal.loop-g-init
loop-g-init c = counted_start _

pub returns-then-not-fits_count : goal.returns-then-not-fits_count
returns-then-not-fits_count c = counts_stop _ _ _ c.loop-g-test.true c.loop-g.invariant (rw c.from.ensures at c.fits_count.ensures) c.if-not-fits_count.true

pub loop-g-preserved : goal.loop-g-preserved
loop-g-preserved c = counted_next _ _ _ c.loop-g-test.true c.loop-g.invariant (rw c.from.ensures at c.fits_count.ensures) c.if-not-fits_count.false

pub returns : goal.returns
returns c = counted_end _ _ c.if-payload-lt3.false c.if-payload-gt8.false c.loop-g-test.false c.loop-g.invariant
