-- `bench::Desk::drain`
use Rattle.std.proofs.Common.{◌≤◌, length}
use Rattle.bench.proofs.Desk.drain.Given as goal

abbrev pub invariant-loop-packet : goal.invariant-loop-packet
invariant-loop-packet g l = length l.rest ≤ length l.records

abbrev pub decreases-loop-packet : goal.decreases-loop-packet
decreases-loop-packet g l = length l.rest
