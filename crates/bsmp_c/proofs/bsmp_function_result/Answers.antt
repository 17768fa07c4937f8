-- `bsmp_function_result` meets its contract: the columns say what the lent records do (`Same.result_same`). Assumes nothing.
use Rattle.std.proofs.Common.{List}
use Rattle.bsmp.specs.declared.Variable.{Variable}
use Rattle.plain.specs.Lending.{Lending, lending}
use Rattle.plain.specs.Calls.{result_of}
use Rattle.bsmp_c.proofs.Same.{of_lent, with_variables, result_same}
use Rattle.bsmp_c.proofs.bsmp_function_result.Goals as goal

pub returns : goal.returns
returns c =
    let a = c.args in
    let board : Lending = lending a.variables.now a.curves.now a.functions.now a.groups.now a.values.now a.blocks.now a.lengths.now a.sums.now in
    of_lent (λ (vs : List Variable). result_of (with_variables vs board) a.function a.due a.failed a.error a.output.now a.reply.now) a.variables.now
    (result_same board a.function a.due a.failed a.error a.output.now a.reply.now) _ _ c.function_result.ensures c.take.ensures
