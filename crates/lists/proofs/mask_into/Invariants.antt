-- `mask_into` meets its contract. Assumes nothing.
use Rattle.std.proofs.Common.{◌≡◌, drop}
use Rattle.copies.specs.Put.{put}
use Rattle.bsmp.specs.Message.{changed}
use Rattle.lists.proofs.mask_into.Given as goal

abbrev pub invariant-loop-i : goal.invariant-loop-i
invariant-loop-i l = put l.dst l.i (changed l.op (drop l.i l.dst) (drop l.i l.mask)) ≡ put l.initial.dst 0 (changed l.op l.initial.dst l.mask)
