-- `renew_all` meets its contract: one walk over the curves. Assumes nothing.
use Rattle.records.specs.Lending.{curves_of}
use Rattle.sums.proofs.Sums.{Renewing}
use Rattle.sums.proofs.renew_all.Given as goal

abbrev pub invariant-loop-i : goal.invariant-loop-i
invariant-loop-i l = Renewing (curves_of l.curves) l.blocks l.lengths l.initial.sums l.i l.sums
