-- `byte_sum` meets its contract. Assumes nothing.
use Rattle.std.proofs.Common.{rules, ◌≡◌, ◌+◌, ◌%◌, arith, fold}
use Rattle.std.proofs.iter.runs.Made.{chains}
use Rattle.lists.proofs.Sum.{sum_wraps}
use Rattle.lists.proofs.byte_sum.Goals as goal

pub returns : goal.returns
returns c =
    let e : c.fold.result ≡ fold (λ s x. (s + x) % 256) 0 c.args.bytes.now = search (rules, chains) in
    omega (arith, sum_wraps 0 c.args.bytes.now)
