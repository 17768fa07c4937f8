-- `read_members` meets its contract. Assumes nothing.
use Rattle.std.proofs.Common.{◌≡◌}
use Rattle.members.proofs.Runs.{ReadingRun}
use Rattle.members.proofs.read_members.Given as goal

abbrev pub invariant-loop-run : goal.invariant-loop-run
invariant-loop-run l =
    let it = l.run-iterator in
    (it.sizes.now ≡ l.sizes) × ReadingRun l.sizes l.values l.set l.initial.reply l.at it.i it.rest it.other l.reply l.to
