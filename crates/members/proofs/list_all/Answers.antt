-- `list_all` meets its contract. Assumes nothing.
use Rattle.std.proofs.Common.{rules, arith}
use Rattle.members.proofs.Whole.{all_next, all_done}
use Rattle.members.proofs.list_all.Goals as goal

pub loop-i-preserved : goal.loop-i-preserved
loop-i-preserved c = all_next c.loop-i.reply _ c.loop-i.i _ _ c.loop-i-test.true (omega arith) c.loop-i.invariant

pub returns : goal.returns
returns c = search (all_done, rules)
