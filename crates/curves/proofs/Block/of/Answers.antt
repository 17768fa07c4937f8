-- `Block::of` meets its contract. Assumes nothing.
use Rattle.std.proofs.Common.{rules}
use Rattle.curves.proofs.BlockAt.{placed}
use Rattle.curves.proofs.Block.of.Goals as goal

pub returns : goal.returns
returns c = search (placed, rules)
