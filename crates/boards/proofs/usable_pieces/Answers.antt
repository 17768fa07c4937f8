-- `usable_pieces` meets its contract. Assumes nothing.
use Rattle.boards.proofs.Pieces.{pieces_start, pieces_next, pieces_stop}
use borrow.Author.Rules.{rules}
use Rattle.boards.proofs.usable_pieces.Goals as goal

pub loop-piece-init : goal.loop-piece-init
loop-piece-init c = search (pieces_start, rules)

pub returns-then-not-usable_piece : goal.returns-then-not-usable_piece
returns-then-not-usable_piece c = search (pieces_stop, rules)

pub loop-piece-preserved : goal.loop-piece-preserved
loop-piece-preserved c = search (pieces_next, rules)
