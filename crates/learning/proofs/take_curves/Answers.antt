-- `take_curves` meets its contract. Assumes nothing.
use Rattle.std.proofs.Common.{◌≡◌, ◌+◌, ◌*◌, refl, ◌∙◌, arith}
use Rattle.learning.proofs.Taking.{curves_next, curves_end}
use Rattle.learning.proofs.take_curves.Goals as goal

pub loop-i-init : goal.loop-i-init
loop-i-init c = refl

pub loop-i-preserved : goal.loop-i-preserved
loop-i-preserved c =
    let l = c.loop-i in
    let three : 3 * (l.i + 1) ≡ 3 * l.i + 3 = omega arith in
    let five : 5 * (l.i + 1) ≡ 5 * l.i + 5 = omega arith in
    rw (three, five) (curves_next l.curves _ (3 * l.i) (5 * l.i) _ (omega arith) (omega arith) c.curve_in-c.ensures ∙ l.invariant)

pub returns : goal.returns
returns c = let l = c.loop-i in curves_end l.curves c.args.list.now _ (3 * l.i) (5 * l.i) (omega arith) l.invariant
