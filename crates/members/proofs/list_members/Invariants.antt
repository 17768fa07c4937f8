-- `list_members` meets its contract. Assumes nothing.
use Rattle.sets.specs.Members.{members_below}
use Rattle.members.proofs.Walk.{Numbered}
use Rattle.members.proofs.list_members.Given as goal

abbrev pub invariant-loop-i : goal.invariant-loop-i
invariant-loop-i l = Numbered l.set l.count l.initial.reply l.at (members_below l.i-iterator.left 64) l.reply l.to
