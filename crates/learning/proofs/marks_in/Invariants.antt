-- `marks_in` meets its contract. Assumes nothing.
use Rattle.learning.proofs.Taking.{TopBits}
use Rattle.learning.proofs.marks_in.Given as goal

abbrev pub invariant-loop-i : goal.invariant-loop-i
invariant-loop-i l = TopBits l.list l.marks l.i
