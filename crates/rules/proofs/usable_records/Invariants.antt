-- The records before i are tested and counted. Assumes nothing.
use Rattle.records.specs.Lending.{records_of}
use Rattle.rules.proofs.Counting.{Counted}
use Rattle.rules.proofs.usable_records.Given as goal

abbrev pub invariant-loop-i : goal.invariant-loop-i
invariant-loop-i l = Counted (records_of l.records) l.bytes l.i
