-- `Ids::of` meets its contract. Assumes nothing.
use Rattle.std.proofs.Common.{refl}
use Rattle.groups.proofs.Ascend.{look_start, look_next}
use Rattle.groups.proofs.Ids.of.Goals as goal

pub loop-id-init : goal.loop-id-init
loop-id-init c = look_start _ _ _ refl refl refl

pub loop-id-preserved : goal.loop-id-preserved
loop-id-preserved c = rw (c.from.ensures, c.from-n.ensures) (look_next _ _ _ _ c.loop-id-test.true c.loop-id.invariant)
