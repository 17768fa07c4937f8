-- `RunWalk::over` meets its contract. Assumes nothing.
use Rattle.std.proofs.Common.{arith}
use Rattle.members.proofs.Stepped.{start_inside, start_left, start_room}
use Rattle.members.proofs.RunWalk.over.Goals as goal

pub invariant_of-result : goal.invariant_of-result
invariant_of-result c =
    record {
      few = omega arith;
      small = omega arith;
      inside = start_inside _ _ _ _ c.declared-members.ensures c.start_of-i.ensures;
      left = start_left _ _ _ _ c.declared-members.ensures c.start_of-i.ensures;
      place = c.offset.ensures;
      room = start_room c.args.sizes.now c.start_of-i.result c.args.other (omega arith);
    }
