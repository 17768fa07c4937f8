-- The lengths of the curves before i are tested. Assumes nothing.
use Rattle.records.specs.Lending.{curves_of}
use Rattle.boards.proofs.Lengths.{Fitted}
use Rattle.boards.proofs.fitting_curves.Given as goal

abbrev pub invariant-loop-i : goal.invariant-loop-i
invariant-loop-i l = Fitted (curves_of l.curves) l.lengths l.first l.i
