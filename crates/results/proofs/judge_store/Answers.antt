-- `judge_store` meets its contract: on a usable board, a variable that there is has a place in the columns. Assumes nothing.
use Rattle.std.proofs.Common.{arith, refl, sym}
use Rattle.results.proofs.Storing.{size_inside}
use Rattle.results.proofs.judge_store.Goals as goal

pub bounds-board-i : goal.bounds-board-i
bounds-board-i c = size_inside _ _ _ _ (sym c.if-not-usable_board.ensures) refl (omega arith)
