-- `lowest` meets its contract. Assumes nothing.
use Prim.Native.Nat.{◌≤◌}
use native.Mathlib.Omega.{arith}
use lib.Count.{count_trailing_zeros, trailing_le}
use Rattle.sets.proofs.First.{lowest_is}
use borrow.Author.Rules.{rules}
use Rattle.sets.proofs.lowest.Goals as goal

pub overflow_cast-result : goal.overflow_cast-result
overflow_cast-result c =
    let few : count_trailing_zeros 64 c.args.set ≤ 64 = trailing_le 64 _ in
    omega arith

pub returns : goal.returns
returns c = search (lowest_is, rules)
