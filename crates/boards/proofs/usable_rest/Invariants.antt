-- The records before i pass. Assumes nothing.
use mathlib.Core.Path.{◌≡◌}
use mathlib.Core.Bool.{true}
use Prim.Native.Nat.{◌-◌}
use Rattle.boards.specs.Pieces.{usable_from}
use Rattle.boards.proofs.usable_rest.Given as goal

abbrev pub invariant-loop-i : goal.invariant-loop-i
invariant-loop-i l = usable_from l.records l.from (l.i - l.from) ≡ true
