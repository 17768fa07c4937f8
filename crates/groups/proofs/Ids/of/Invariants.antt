-- `Ids::of` meets its contract. Assumes nothing.
use Rattle.groups.proofs.Ascend.{Looking}
use Rattle.groups.proofs.Ids.of.Given as goal

abbrev pub invariant-loop-id : goal.invariant-loop-id
invariant-loop-id l = Looking l.ids l.count l.id-index l.s
