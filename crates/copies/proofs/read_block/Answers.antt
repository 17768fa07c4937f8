-- `read_block` meets its contract. Assumes nothing.
use Rattle.copies.proofs.Put.{put_part}
use borrow.Author.Rules.{rules}
use Rattle.copies.proofs.read_block.Goals as goal

pub returns : goal.returns
returns c = search (put_part, rules)
