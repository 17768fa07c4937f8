-- `change_members` meets its contract. Assumes nothing.
use Rattle.std.proofs.Common.{◌≡◌}
use Rattle.members.proofs.Runs.{EditingRun}
use Rattle.members.proofs.change_members.Given as goal

abbrev pub invariant-loop-run : goal.invariant-loop-run
invariant-loop-run l =
    let it = l.run-iterator in
    (it.sizes.now ≡ l.sizes) × EditingRun l.op l.sizes l.payload l.set l.front l.initial.values it.i it.rest it.other l.values
