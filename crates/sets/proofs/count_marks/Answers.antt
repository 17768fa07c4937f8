-- `count_marks` meets its contract. Assumes nothing.
use Prim.Native.Nat.{◌≤◌}
use native.Mathlib.Omega.{arith}
use lib.Count.{ones, ones-le}
use Rattle.sets.proofs.AtOnce.{ones_below}
use borrow.Author.Rules.{rules}
use Rattle.sets.proofs.count_marks.Goals as goal

pub overflow_cast-result : goal.overflow_cast-result
overflow_cast-result c =
    let few : ones c.args.set ≤ 64 = search (ones-le, rules) in
    omega arith

pub returns : goal.returns
returns c = (search (ones_below, rules), search (ones-le, rules))
