-- `read` meets its contract. Assumes nothing.
use Rattle.std.proofs.lemmas.Result.{err_from_is_err_and}
use Rattle.readings.proofs.Tests.{good_size}
use Rattle.readings.proofs.Answers.{read_refused, read_good}
use borrow.Author.Rules.{rules}
use Rattle.readings.proofs.read.Goals as goal

pub returns-in_err-big : goal.returns-in_err-big
returns-in_err-big g c =
    let p = err_from_is_err_and c.from_residual.result c.from_residual.ensures.1 in
    rw (p.1, p.2) (read_refused _ _ _ _ c.SIGNED.ensures _ _ c.in_err-big.ensures)

pub read-number-requires : goal.read-number-requires
read-number-requires g c = search (good_size, rules)

pub returns : goal.returns
returns g c = search (read_good, rules)
