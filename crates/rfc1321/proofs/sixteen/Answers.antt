-- `sixteen` meets its contract. Assumes nothing.
use Rattle.rfc1321.proofs.Turns.{turn, turned}
use Rattle.rfc1321.proofs.sixteen.Goals as goal

pub loop-turn-preserved : goal.loop-turn-preserved
loop-turn-preserved g c =
    let r = g.R.Round in
    let l = c.loop-turn in
    turn r.k r.BEFORE r.SHIFTS r.function c.args.x.now r.ops g.met.R.Round.listed l.turn l.q _ _ _ _ _ c.loop-turn-test.true
    (rw c.SHIFTS.ensures at c.step-q.ensures)
    (rw c.SHIFTS-in-loop-turn.ensures at c.step-q-in-loop-turn.ensures)
    (rw c.SHIFTS-in-loop-turn-2.ensures at c.step-q-in-loop-turn-2.ensures)
    (rw c.SHIFTS-in-loop-turn-3.ensures at c.step-q-in-loop-turn-3.ensures)
    l.invariant

pub returns : goal.returns
returns g c =
    let r = g.R.Round in
    let l = c.loop-turn in
    turned r.k r.BEFORE r.SHIFTS r.function c.args.x.now r.ops g.met.R.Round.listed l.turn l.q _ c.loop-turn-test.false l.auto.turn-end l.invariant
