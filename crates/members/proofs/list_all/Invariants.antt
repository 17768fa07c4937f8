-- `list_all` meets its contract. Assumes nothing.
use Rattle.std.proofs.Common.{◌≡◌, ◌+◌, ◌-◌}
use Rattle.bsmp.specs.Base.{up_from}
use Rattle.copies.specs.Put.{put}
use Rattle.members.proofs.list_all.Given as goal

abbrev pub invariant-loop-i : goal.invariant-loop-i
invariant-loop-i l = put l.reply (l.at + l.i) (up_from l.i (l.count - l.i)) ≡ put l.initial.reply l.at (up_from 0 l.count)
