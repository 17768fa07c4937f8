-- The curves before i are tested and counted. Assumes nothing.
use Rattle.records.specs.Lending.{curves_of}
use Rattle.rules.proofs.Thirds.{Stepped}
use Rattle.rules.proofs.usable_curves.Given as goal

abbrev pub invariant-loop-i : goal.invariant-loop-i
invariant-loop-i l = Stepped (curves_of l.curves) l.size l.alike l.bytes l.blocks l.i
