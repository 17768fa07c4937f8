-- `are_known` meets its contract. Assumes nothing.
use Rattle.std.proofs.Common.{◌≡◌, drop}
use Rattle.learning.proofs.Taking.{known_ids}
use Rattle.learning.proofs.are_known.Given as goal

abbrev pub invariant-loop-id : goal.invariant-loop-id
invariant-loop-id l = known_ids l.variables (drop l.id-index l.ids) ≡ known_ids l.variables l.ids
