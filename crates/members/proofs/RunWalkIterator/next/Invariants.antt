-- `RunWalk::next` meets its contract. Assumes nothing.
use Rattle.members.specs.Walked.{RunOf}
use Rattle.members.proofs.Stepped.{GapOf}
use Rattle.members.proofs.RunWalkIterator.next.Given as goal

abbrev pub invariant-loop-rest : goal.invariant-loop-rest
invariant-loop-rest l = GapOf l.self.sizes.now l.self.rest l.self.i l.at l.rest l.i

abbrev pub decreases-loop-rest : goal.decreases-loop-rest
decreases-loop-rest l = l.rest

abbrev pub invariant-loop-rest-2 : goal.invariant-loop-rest-2
invariant-loop-rest-2 l = RunOf l.self.sizes.now l.self.rest l.self.i l.at l.bytes l.rest l.i

abbrev pub decreases-loop-rest-2 : goal.decreases-loop-rest-2
decreases-loop-rest-2 l = l.rest
