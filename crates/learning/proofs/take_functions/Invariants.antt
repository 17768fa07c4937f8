-- `take_functions` meets its contract. Assumes nothing.
use Rattle.std.proofs.Common.{◌≡◌, ◌*◌, drop}
use Rattle.copies.specs.Put.{put}
use Rattle.learning.specs.Taking.{functions_taken}
use Rattle.learning.proofs.take_functions.Given as goal

abbrev pub invariant-loop-i : goal.invariant-loop-i
invariant-loop-i l = put l.functions (2 * l.i) (functions_taken (drop l.i l.list)) ≡ put l.initial.functions 0 (functions_taken l.list)
