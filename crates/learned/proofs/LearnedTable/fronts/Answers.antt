-- `fronts` meets its contract. Assumes nothing.
use borrow.Author.Rules.{rules}
use Rattle.learned.proofs.Fronts.{no_sizes, no_sets, no_shapes, no_calls, all_fronts}
use Rattle.learned.proofs.LearnedTable.fronts.Goals as goal

pub returns-in_err-front : goal.returns-in_err-front
returns-in_err-front c = no_sizes _ _ c.from_residual.ensures (search rules) c.in_err-front.ensures

pub returns-in_err-front-2 : goal.returns-in_err-front-2
returns-in_err-front-2 c = no_sets _ _ c.from_residual-in_err-front-2.ensures (search rules) c.in_err-front-2.ensures

pub returns-in_err-front-3 : goal.returns-in_err-front-3
returns-in_err-front-3 c = no_shapes _ _ c.from_residual-in_err-front-3.ensures (search rules) c.in_err-front-3.ensures

pub returns-in_err-front-4 : goal.returns-in_err-front-4
returns-in_err-front-4 c = no_calls _ _ c.from_residual-in_err-front-4.ensures (search rules) c.in_err-front-4.ensures

pub returns : goal.returns
returns c = all_fronts _ _ _ _ _ (search rules) (search rules) (search rules) (search rules) c.in_ok-front.ensures c.in_ok-front-2.ensures c.in_ok-front-3.ensures c.in_ok-front-4.ensures
