-- The pieces before this one pass. Assumes nothing.
use mathlib.Core.Path.{◌≡◌}
use mathlib.Core.Bool.{true}
use Prim.Native.Nat.{◌*◌}
use Rattle.boards.specs.Pieces.{usable_from}
use Rattle.boards.proofs.usable_pieces.Given as goal

abbrev pub invariant-loop-piece : goal.invariant-loop-piece
invariant-loop-piece l = usable_from l.records 0 (16 * l.piece) ≡ true
