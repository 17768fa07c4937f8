-- `change_members` meets its contract. Assumes nothing.
use Rattle.std.proofs.Common.{rules, ◌∙◌}
use Rattle.members.proofs.Whole.{whole_room, change_whole}
use Rattle.members.proofs.Runs.{run_edit_start, run_edit_from, run_edit_to, run_edit_next, run_edit_end}
use Rattle.members.proofs.change_members.Goals as goal

pub change_value-requires : goal.change_value-requires
change_value-requires c = (search rules, search (whole_room, rules))

pub returns-then-set : goal.returns-then-set
returns-then-set c = search (whole_room, change_whole, rules)

pub loop-run-init : goal.loop-run-init
loop-run-init c =
    let b = rw (← c.into_iter-run-iterator.ensures.into_iter_gives) at c.over-run-items.ensures in
    (b.0, run_edit_start _ _ _ _ _ _ _ _ _ c.requires.sound c.requires.sizes_in_bounds b.2 b.1)

pub change_value-requires-in-loop-run : goal.change_value-requires-in-loop-run
change_value-requires-in-loop-run c =
    let q = c.loop-run.invariant in
    let t = c.in-Some.ensures.steps in
    let w = rw q.0 at t.1.2 in
    (run_edit_from _ _ _ _ _ _ _ _ _ _ q.1 _ _ _ _ w, rw t.1.0 (run_edit_to _ _ _ _ _ _ _ _ _ _ q.1 _ _ _ _ w))

pub loop-run-preserved : goal.loop-run-preserved
loop-run-preserved c =
    let q = c.loop-run.invariant in
    let t = c.in-Some.ensures.steps in
    let w = rw q.0 at t.1.2 in
    let r = rw t.1.0 at c.change_value-in-loop-run.ensures in
    (t.0 ∙ q.0, run_edit_next _ _ _ _ _ _ _ _ _ _ q.1 _ _ _ _ w _ _ t.1.1 r)

pub returns : goal.returns
returns c = run_edit_end _ _ _ _ _ _ _ _ _ _ c.loop-run.invariant.1 c.in-None.ensures.steps.1
