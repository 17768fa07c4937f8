-- The records of the piece before i are tested. Assumes nothing.
use mathlib.Core.Path.{◌≡◌}
use Rattle.boards.specs.Pieces.{usable_from}
use Rattle.boards.proofs.usable_piece.Given as goal

abbrev pub invariant-loop-i : goal.invariant-loop-i
invariant-loop-i l = l.usable ≡ usable_from l.records l.from l.i
