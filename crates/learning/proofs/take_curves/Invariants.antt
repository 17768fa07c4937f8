-- `take_curves` meets its contract. Assumes nothing.
use Rattle.std.proofs.Common.{◌≡◌, ◌*◌, drop}
use Rattle.copies.specs.Put.{put}
use Rattle.asking.specs.Learned.{curves_from}
use Rattle.learning.specs.Taking.{curves_taken}
use Rattle.learning.proofs.take_curves.Given as goal

abbrev pub invariant-loop-i : goal.invariant-loop-i
invariant-loop-i l = put l.curves (3 * l.i) (curves_taken (curves_from (drop (5 * l.i) l.list))) ≡ put l.initial.curves 0 (curves_taken (curves_from l.list))
