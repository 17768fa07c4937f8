-- `of_value` of i64 meets its contract. Assumes nothing.
use Rattle.numbers.proofs.Signed.{meant_low, meant_high}
use borrow.Author.Rules.{rules}
use Rattle.numbers.proofs.I64Number.of_value.Goals as goal

pub returns-then-u-half : goal.returns-then-u-half
returns-then-u-half c = search (meant_low, rules)

pub returns : goal.returns
returns c = search (meant_high, rules)
