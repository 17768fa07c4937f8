-- `fill_all` meets its contract: one walk over the curves. Assumes nothing.
use Rattle.records.specs.Lending.{curves_of}
use Rattle.sums.proofs.Lengths.{FillingAll}
use Rattle.sums.proofs.fill_all.Given as goal

abbrev pub invariant-loop-i : goal.invariant-loop-i
invariant-loop-i l = FillingAll (curves_of l.curves) l.initial.lengths l.i l.first l.lengths
