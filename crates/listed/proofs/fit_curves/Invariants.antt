-- `fit_curves` meets its contract: one walk over the records. Assumes nothing.
use Rattle.std.proofs.Common.{◌*◌}
use Rattle.listed.proofs.Fives.{Stepped}
use Rattle.listed.proofs.fit_curves.Given as goal

abbrev pub invariant-loop-i : goal.invariant-loop-i
invariant-loop-i l = Stepped l.payload l.bytes (5 * l.i)
