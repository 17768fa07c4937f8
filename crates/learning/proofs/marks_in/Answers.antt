-- `marks_in` meets its contract. Assumes nothing.
use Rattle.std.proofs.Common.{◌-◌}
use Rattle.learning.proofs.Taking.{bits_start, bits_twice, bits_fit, bits_next, bits_end}
use Rattle.learning.proofs.marks_in.Goals as goal

pub loop-i-init : goal.loop-i-init
loop-i-init c = bits_start _ c.requires

pub overflow_mul-marks : goal.overflow_mul-marks
overflow_mul-marks c = bits_twice _ _ _ c.loop-i.invariant c.loop-i-test.true

pub overflow_add-marks : goal.overflow_add-marks
overflow_add-marks c = rw c.from.ensures (bits_fit _ _ _ c.loop-i.invariant c.loop-i-test.true (c.type_inv.list (c.loop-i.i - 1)).fits)

pub loop-i-preserved : goal.loop-i-preserved
loop-i-preserved c = rw c.from.ensures (bits_next _ _ _ c.loop-i.invariant c.loop-i-test.true (c.type_inv.list (c.loop-i.i - 1)).fits)

pub returns : goal.returns
returns c = bits_end _ _ _ c.loop-i.invariant c.loop-i-test.false
