-- `bsmp_fresh_board` meets its contract: the columns say what the lent records do (`Same.fresh_same`). Assumes nothing.
use Rattle.std.proofs.Common.{List}
use Rattle.bsmp.specs.declared.Variable.{Variable}
use Rattle.plain.specs.Lending.{Lending, lending}
use Rattle.plain.specs.Calls.{fresh_of}
use Rattle.bsmp_c.proofs.Same.{of_lent, with_variables, fresh_same}
use Rattle.bsmp_c.proofs.bsmp_fresh_board.Goals as goal

pub returns : goal.returns
returns c =
    let a = c.args in
    let board : Lending = lending a.variables.now a.curves.now a.functions.now a.groups.now a.values.now a.blocks.now a.lengths.now a.sums.now in
    of_lent (λ (vs : List Variable). fresh_of (with_variables vs board)) a.variables.now
    (fresh_same board) _ _ c.fresh_board.ensures c.take.ensures
