-- `list_members` meets its contract. Assumes nothing.
use Rattle.std.proofs.Common.{rules, arith}
use Rattle.sets.proofs.Inside.{first_inside}
use Rattle.members.proofs.Walk.{list_start, list_next, list_end}
use Rattle.members.proofs.Whole.{list_whole}
use Rattle.members.proofs.list_members.Goals as goal

pub returns-then-set : goal.returns-then-set
returns-then-set c = search (list_whole, rules)

pub loop-i-init : goal.loop-i-init
loop-i-init c = list_start _ _ _ _ _ (cc) (omega arith)

pub overflow_cast-reply : goal.overflow_cast-reply
overflow_cast-reply c = omega (arith, first_inside _ 64 _ _ c.in-Some.ensures.steps)

pub loop-i-preserved : goal.loop-i-preserved
loop-i-preserved c = search (list_next, rules)

pub returns : goal.returns
returns c = list_end _ _ _ _ _ _ _ c.in-None.ensures.steps.0 c.loop-i.invariant
