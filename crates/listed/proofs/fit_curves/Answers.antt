-- `fit_curves` meets its contract: one walk over the records. Assumes nothing.
use Rattle.std.proofs.Common.{◌≡◌, ◌+◌, ◌*◌, arith}
use Rattle.listed.proofs.Fives.{fives_out, stepped_start, stepped_stop, stepped_fits, stepped_next, stepped_end}
use Rattle.listed.proofs.fit_curves.Goals as goal

pub returns-then-n-ne0 : goal.returns-then-n-ne0
returns-then-n-ne0 c = fives_out _ c.then-n-ne0.either

pub loop-i-init : goal.loop-i-init
loop-i-init c = stepped_start _

pub returns-then-not-usable_curve : goal.returns-then-not-usable_curve
returns-then-not-usable_curve c =
    let l = c.loop-i in
    stepped_stop _ l.bytes (5 * l.i) _ _ (omega arith) l.invariant c.curve_in-c.ensures c.usable_curve.ensures c.if-not-usable_curve.true

pub overflow_add-bytes : goal.overflow_add-bytes
overflow_add-bytes c =
    let l = c.loop-i in
    stepped_fits _ l.bytes (5 * l.i) _ _ (omega arith) l.invariant c.curve_in-c.ensures c.usable_curve.ensures c.if-not-usable_curve.false (omega arith)

pub loop-i-preserved : goal.loop-i-preserved
loop-i-preserved c =
    let l = c.loop-i in
    let e : 5 * (l.i + 1) ≡ 5 * l.i + 5 = omega arith in
    rw e (stepped_next _ l.bytes (5 * l.i) _ _ (omega arith) l.invariant c.curve_in-c.ensures c.usable_curve.ensures c.if-not-usable_curve.false)

pub returns : goal.returns
returns c =
    let l = c.loop-i in
    stepped_end _ l.bytes (5 * l.i) (omega arith) l.invariant (omega arith) (omega arith)
