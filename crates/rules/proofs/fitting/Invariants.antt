-- The lengths before the walk's place are tested. Assumes nothing.
use Rattle.rules.proofs.Lengths.{Fitting}
use Rattle.rules.proofs.fitting.Given as goal

abbrev pub invariant-loop-n : goal.invariant-loop-n
invariant-loop-n l = Fitting l.lengths l.size l.fitting l.n-index
