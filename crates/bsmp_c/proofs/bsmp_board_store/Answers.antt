-- `bsmp_board_store` meets its contract: the columns say what the lent records do (`Same.store_same`). Assumes nothing.
use Rattle.std.proofs.Common.{List}
use Rattle.bsmp.specs.declared.Variable.{Variable}
use Rattle.plain.specs.Lending.{Lending, lending}
use Rattle.plain.specs.Calls.{store_of}
use Rattle.bsmp_c.proofs.Same.{of_lent, with_variables, store_same}
use Rattle.bsmp_c.proofs.bsmp_board_store.Goals as goal

pub returns : goal.returns
returns c =
    let a = c.args in
    let board : Lending = lending a.variables.now a.curves.now a.functions.now a.groups.now a.values.now a.blocks.now a.lengths.now a.sums.now in
    of_lent (λ (vs : List Variable). store_of (with_variables vs board) a.variable a.bytes.now) a.variables.now
    (store_same board a.variable a.bytes.now) _ _ c.board_store.ensures c.take.ensures
