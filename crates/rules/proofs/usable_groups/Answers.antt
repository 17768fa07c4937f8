-- `usable_groups` meets its contract. Assumes nothing.
use mathlib.Core.Path.{◌≡◌, refl, ap, ◌∙◌}
use mathlib.Core.Bool.{Bool, true, false, not}
use Prim.Native.Nat.{ℕ, ◌+◌, ◌≤◌, ◌<◌}
use lib.ListN.{length, take, get_or}
use Rattle.bsmp.specs.Base.{every}
use Rattle.bsmp.specs.Board.{usable_groups}
use Rattle.records.specs.declared.Groups.{Groups}
use Rattle.records.specs.Lending.{groups_of}
use Rattle.records.proofs.Walk.{Walked, walked_next, walked_stop, walked_end}
use Rattle.records.proofs.Lending.{group_count_lem, groups_lent}
use Rattle.records.proofs.Bounds.{usable_group}
use Rattle.rules.proofs.Checks.{too_many, one_broken, each_passes}
use borrow.Author.Rules.{rules}
use Rattle.rules.proofs.usable_groups.Goals as goal

-- the sets, as the front that is lent of their places
module _ (v : ℕ) (g : Groups) (i : ℕ) (q : Walked (usable_group v) (take g.count g.sets) i) where
  lent_each : g.count ≤ length g.sets → every (usable_group v) (groups_of g) ≡ every (usable_group v) (take g.count g.sets)
  lent_each few = ap (every (usable_group v)) (groups_lent g few)

  module _ (b : Bool) (h : i < length (take g.count g.sets)) (t : b ≡ usable_group v (get_or (take g.count g.sets) i 0)) where
    group_next : not b ≡ false → Walked (usable_group v) (take g.count g.sets) (i + 1)
    group_next z = walked_next (usable_group v) (take g.count g.sets) (length (take g.count g.sets)) i _ 0 b refl h refl t z q

    group_stop : not b ≡ true → g.count ≤ length g.sets → false ≡ usable_groups v (groups_of g)
    unfolding usable_groups
    group_stop z few =
        one_broken (usable_group v) (groups_of g) 5
        (lent_each few ∙ walked_stop (usable_group v) (take g.count g.sets) (length (take g.count g.sets)) i _ 0 b refl h refl t z q)

  group_end : length (take g.count g.sets) ≤ i → g.count ≤ length g.sets → g.count ≤ 5 → true ≡ usable_groups v (groups_of g)
  unfolding usable_groups
  group_end h few l =
      each_passes (usable_group v) (groups_of g) 5 g.count (group_count_lem g) l
      (lent_each few ∙ walked_end (usable_group v) (take g.count g.sets) (length (take g.count g.sets)) i refl h q)

pub returns-then-groups-gt5 : goal.returns-then-groups-gt5
unfolding usable_groups
returns-then-groups-gt5 c = search (too_many, group_count_lem, rules)

pub returns-then-not-usable_group : goal.returns-then-not-usable_group
returns-then-not-usable_group c = search (group_stop, rules)

pub loop-set-preserved : goal.loop-set-preserved
loop-set-preserved c = search (group_next, rules)

pub returns : goal.returns
returns c = search (group_end, rules)
