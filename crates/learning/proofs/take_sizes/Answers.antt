-- `take_sizes` meets its contract. Assumes nothing.
use Rattle.std.proofs.Common.{refl, ◌∙◌, arith}
use Rattle.learning.proofs.Taking.{sizes_next, sizes_end}
use Rattle.learning.proofs.take_sizes.Goals as goal

pub loop-i-init : goal.loop-i-init
loop-i-init c = refl

pub loop-i-preserved : goal.loop-i-preserved
loop-i-preserved c = let l = c.loop-i in sizes_next l.sizes c.args.list.now l.i (omega arith) c.loop-i-test.true ∙ l.invariant

pub returns : goal.returns
returns c = sizes_end _ c.args.list.now _ _ c.loop-i-test.false c.loop-i.invariant
