-- `take_functions` meets its contract. Assumes nothing.
use Rattle.std.proofs.Common.{refl, ◌∙◌, arith}
use Rattle.learning.proofs.Taking.{functions_next, functions_end}
use Rattle.learning.proofs.take_functions.Goals as goal

pub loop-i-init : goal.loop-i-init
loop-i-init c = refl

pub loop-i-preserved : goal.loop-i-preserved
loop-i-preserved c = let l = c.loop-i in functions_next l.functions c.args.list.now l.i (omega arith) c.loop-i-test.true ∙ l.invariant

pub returns : goal.returns
returns c = functions_end _ _ _ _ c.loop-i-test.false c.loop-i.invariant
