-- What is read so far is the number that the bytes from i on make. Assumes nothing.
use mathlib.Core.Path.{◌≡◌}
use lib.ListN.{drop}
use Rattle.bsmp.specs.Number.{little, turned}
use Rattle.numbers.proofs.unsigned_of.Given as goal

abbrev pub invariant-loop-i : goal.invariant-loop-i
invariant-loop-i l = l.u ≡ little (drop l.i (turned l.big l.bytes))
