-- `take_sizes` meets its contract. Assumes nothing.
use Rattle.std.proofs.Common.{◌≡◌, drop}
use Rattle.copies.specs.Put.{put}
use Rattle.learning.proofs.Taking.{low_seven}
use Rattle.learning.proofs.take_sizes.Given as goal

abbrev pub invariant-loop-i : goal.invariant-loop-i
invariant-loop-i l = put l.sizes l.i (drop l.i (low_seven l.list)) ≡ put l.initial.sizes 0 (low_seven l.list)
