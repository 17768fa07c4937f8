-- `bench::run`
use Rattle.std.proofs.Common.{◌≤◌}
use Rattle.bench.proofs.run.Given as goal

abbrev pub invariant-loop : goal.invariant-loop
invariant-loop g l = l.have ≤ 131072
