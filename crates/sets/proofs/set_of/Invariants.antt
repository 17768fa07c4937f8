-- `set_of` meets its contract. Assumes nothing.
use Rattle.std.proofs.Common.{◌≡◌, drop}
use Rattle.sets.proofs.Ids.{set_from}
use Rattle.sets.proofs.set_of.Given as goal

abbrev pub invariant-loop-id : goal.invariant-loop-id
invariant-loop-id l = set_from l.set (drop l.id-index l.ids) ≡ set_from 0 l.ids
