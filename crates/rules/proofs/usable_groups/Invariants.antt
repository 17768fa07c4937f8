-- The sets before the walk's place are tested. Assumes nothing.
use lib.ListN.{take}
use Rattle.records.proofs.Walk.{Walked}
use Rattle.records.proofs.Bounds.{usable_group}
use Rattle.rules.proofs.usable_groups.Given as goal

abbrev pub invariant-loop-set : goal.invariant-loop-set
invariant-loop-set l = Walked (usable_group l.variables) (take l.groups.count l.groups.sets) l.set-index
