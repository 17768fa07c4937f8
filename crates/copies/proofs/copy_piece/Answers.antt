-- `copy_piece` meets its contract. Assumes nothing.
use Rattle.std.proofs.Common.{rules}
use Rattle.copies.proofs.Put.{put_by_way}
use Rattle.copies.proofs.copy_piece.Goals as goal

pub returns : goal.returns
returns c = search (put_by_way, rules)
