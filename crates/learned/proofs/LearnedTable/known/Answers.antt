-- `known` meets its contract. Assumes nothing.
use Rattle.std.proofs.Common.{◌∙◌, ap, not}
use Rattle.learned.proofs.Limits.{no_places, bad_sizes, bad_curves, bad_functions, bad_groups, all_good}
use Rattle.learned.proofs.LearnedTable.known.Goals.{then-not-usable_sizes-via-then-not-usable_sizes, then-not-usable_sizes-via-else-not-usable_sizes+then-is_none, then-not-usable_sizes-via-else-not-usable_sizes+else-is_none+then-not-usable_functions, then-not-usable_sizes-via-else-not-usable_sizes+else-is_none+else-not-usable_functions+then-not-usable_groups}
use Rattle.learned.proofs.LearnedTable.known.Goals as goal

pub returns-in_err-known : goal.returns-in_err-known
returns-in_err-known c = no_places _ _ c.from_residual.ensures c.in_err-known.ensures

pub returns-then-not-usable_sizes : goal.returns-then-not-usable_sizes
returns-then-not-usable_sizes c =
    let k = c.in_ok-known.known in
    elim c.then-not-usable_sizes.branch [
      | then-not-usable_sizes-via-then-not-usable_sizes w ↦ bad_sizes _ k c.in_ok-known.ensures _ c.usable_sizes.ensures w.if-not-usable_sizes.true
      | then-not-usable_sizes-via-else-not-usable_sizes+then-is_none w ↦ bad_curves _ k c.in_ok-known.ensures _ c.usable_sizes.ensures _ w.usable_curves.ensures (w.is_none.ensures ∙ ap not w.if-is_none.true)
      | then-not-usable_sizes-via-else-not-usable_sizes+else-is_none+then-not-usable_functions w ↦ bad_functions _ k c.in_ok-known.ensures _ c.usable_sizes.ensures _ w.usable_curves.ensures _ w.usable_functions.ensures w.if-not-usable_functions.true
      | then-not-usable_sizes-via-else-not-usable_sizes+else-is_none+else-not-usable_functions+then-not-usable_groups w ↦ bad_groups _ k c.in_ok-known.ensures _ c.usable_sizes.ensures _ w.usable_curves.ensures _ w.usable_functions.ensures _ w.usable_groups.ensures w.if-not-usable_groups.true
    ]

pub returns : goal.returns
returns c = all_good _ c.in_ok-known.known c.in_ok-known.ensures _ c.usable_sizes.ensures _ c.usable_curves.ensures _ c.usable_functions.ensures _ c.usable_groups.ensures c.if-not-usable_sizes.false (c.is_none.ensures ∙ ap not c.if-is_none.false) c.if-not-usable_functions.false c.if-not-usable_groups.false
