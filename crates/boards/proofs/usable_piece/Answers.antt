-- `usable_piece` meets its contract. Assumes nothing.
use Rattle.boards.proofs.Pieces.{piece_start, piece_next}
use borrow.Author.Rules.{rules}
use Rattle.boards.proofs.usable_piece.Goals as goal

pub loop-i-init : goal.loop-i-init
loop-i-init c = search (piece_start, rules)

pub loop-i-preserved : goal.loop-i-preserved
loop-i-preserved c = search (piece_next, rules)
