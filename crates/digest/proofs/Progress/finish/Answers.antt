-- `finish` meets its contract. Assumes nothing.
use Rattle.digest.proofs.Closing.{closing, padding_part}
use Rattle.digest.proofs.Progress.finish.Goals as goal

pub returns-clause-sum : goal.returns-clause-sum
returns-clause-sum c = closing _ _ _ _ _ _ c.output-sum.ensures c.feed-2.ensures c.length_bytes.ensures c.feed.ensures (padding_part c.args.self.now.total)
