-- `offset` meets its contract. Assumes nothing.
use Rattle.std.proofs.Common.{◌≡◌, ◌*◌, ◌≤◌, take}
use Rattle.bsmp.specs.Base.{sum}
use Rattle.lists.proofs.offset.Given as goal

abbrev pub invariant-loop-size : goal.invariant-loop-size
invariant-loop-size l = (l.sum ≡ sum (take l.size-index l.size-items)) × (l.sum ≤ 255 * l.size-index)
