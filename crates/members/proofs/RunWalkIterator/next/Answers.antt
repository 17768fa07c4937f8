-- `RunWalk::next` meets its contract. Assumes nothing.
use Rattle.std.proofs.Common.{arith}
use Rattle.members.proofs.Stepped.{gap_small, gap_next, step_start, step_left, step_next, run_small, run_room}
use Rattle.members.proofs.RunWalkIterator.next.Goals as goal

pub overflow_add-at : goal.overflow_add-at
overflow_add-at c =
    let s = c.args.self.now in
    omega (arith, s.small, c.from-at.ensures, gap_small s.sizes.now s.rest s.i s.inside s.left _ _ _ c.loop-rest.invariant)

pub loop-rest-preserved : goal.loop-rest-preserved
loop-rest-preserved c =
    let s = c.args.self.now in
    rw c.from-at.ensures (gap_next s.sizes.now s.rest s.i s.inside s.left _ _ _ c.loop-rest.invariant c.loop-rest-test.true)

pub loop-rest-2-init : goal.loop-rest-2-init
loop-rest-2-init c =
    let s = c.args.self.now in
    rw c.from-bytes.ensures (step_start s.sizes.now s.rest s.i s.inside s.left _ _ _ c.loop-rest.invariant c.loop-rest-test.false)

pub overflow_add-bytes : goal.overflow_add-bytes
overflow_add-bytes c =
    let s = c.args.self.now in
    let n = step_next s.sizes.now s.rest s.i s.inside s.left _ _ _ _ c.loop-rest-2.invariant c.loop-rest-2-test.true in
    omega (arith, s.small, c.from-bytes-in-loop-rest-2.ensures, run_small s.sizes.now s.rest s.i s.inside s.left _ _ _ _ n)

pub loop-rest-2-preserved : goal.loop-rest-2-preserved
loop-rest-2-preserved c =
    let s = c.args.self.now in
    rw c.from-bytes-in-loop-rest-2.ensures (step_next s.sizes.now s.rest s.i s.inside s.left _ _ _ _ c.loop-rest-2.invariant c.loop-rest-2-test.true)

pub overflow_add-self : goal.overflow_add-self
overflow_add-self c =
    let s = c.args.self.now in
    omega (arith, s.small, run_small s.sizes.now s.rest s.i s.inside s.left _ _ _ _ c.loop-rest-2.invariant)

pub overflow_add-self-2 : goal.overflow_add-self-2
overflow_add-self-2 c =
    let s = c.args.self.now in
    omega (arith, run_room s.sizes.now s.rest s.i s.inside s.left _ _ _ _ c.loop-rest-2.invariant s.other s.room)

pub invariant_of-self : goal.invariant_of-self
invariant_of-self c =
    let s = c.args.self.now in
    let q = c.loop-rest-2.invariant in
    record {
      few = s.few;
      small = s.small;
      inside = q.inside;
      left = step_left s.sizes.now s.rest s.i s.inside s.left _ _ _ _ q;
      place = q.ends;
      room = run_room s.sizes.now s.rest s.i s.inside s.left _ _ _ _ q s.other s.room;
    }
