-- `fit_counts` meets its contract: one walk over the counts. Assumes nothing.
use Rattle.listed.proofs.Counts.{Counted}
use Rattle.listed.proofs.fit_counts.Given as goal

abbrev pub invariant-loop-g : goal.invariant-loop-g
invariant-loop-g l = Counted l.payload l.g
