-- `Content::sum` meets its contract: one walk over the blocks. Assumes nothing.
use Rattle.sums.proofs.Summing.{Summing}
use Rattle.sums.proofs.Content.sum.Given as goal

abbrev pub invariant-loop-n : goal.invariant-loop-n
invariant-loop-n l = Summing l.size l.self.lengths.now l.blocks l.initial.progress l.progress l.from l.at l.n-index
