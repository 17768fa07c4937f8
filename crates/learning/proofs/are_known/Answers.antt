-- `are_known` meets its contract. Assumes nothing.
use Rattle.std.proofs.Common.{refl, ◌∙◌}
use Rattle.learning.proofs.Taking.{known_next, known_not, known_all}
use Rattle.learning.proofs.are_known.Goals as goal

pub loop-id-init : goal.loop-id-init
loop-id-init c = refl

pub returns-then-variables-from : goal.returns-then-variables-from
returns-then-variables-from c = known_not _ _ _ _ c.loop-id-test.true (rw c.from.ensures at c.if-variables-from.true) c.loop-id.invariant

pub loop-id-preserved : goal.loop-id-preserved
loop-id-preserved c = known_next _ _ _ c.loop-id-test.true (rw c.from.ensures at c.if-variables-from.false) ∙ c.loop-id.invariant

pub returns : goal.returns
returns c = known_all _ _ _ _ c.loop-id-test.false c.loop-id.invariant
