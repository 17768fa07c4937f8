-- `copy_into` meets its contract. Assumes nothing.
use Rattle.std.proofs.Common.{◌≡◌, drop}
use Rattle.copies.specs.Put.{put}
use Rattle.copies.proofs.copy_into.Given as goal

abbrev pub invariant-loop-i : goal.invariant-loop-i
invariant-loop-i l = put l.dst l.i (drop l.i l.src) ≡ put l.initial.dst 0 l.src
