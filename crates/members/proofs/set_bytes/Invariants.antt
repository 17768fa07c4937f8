-- `set_bytes` meets its contract. Assumes nothing.
use Rattle.sets.specs.Members.{members_below}
use Rattle.members.proofs.Walk.{Adding}
use Rattle.members.proofs.set_bytes.Given as goal

abbrev pub invariant-loop-i : goal.invariant-loop-i
invariant-loop-i l = Adding l.sizes l.set (members_below l.i-iterator.left 64) l.bytes
