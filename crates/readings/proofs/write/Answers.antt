-- `write` meets its contract. Assumes nothing.
use mathlib.Core.Path.{ap}
use mathlib.Core.Bool.{not}
use Rattle.std.proofs.lemmas.Result.{err_from_is_err_and}
use Rattle.readings.proofs.Tests.{good_size}
use Rattle.readings.proofs.Answers.{write_refused, write_outside, write_done, range_inside}
use borrow.Author.Rules.{rules}
use Rattle.readings.proofs.write.Goals as goal

pub returns-in_err-big : goal.returns-in_err-big
returns-in_err-big g c =
    let p = err_from_is_err_and c.from_residual.result c.from_residual.ensures.1 in
    rw (p.1, p.2) (write_refused _ _ _ _ c.SIGNED.ensures _ _ _ c.in_err-big.ensures)

pub fits-requires : goal.fits-requires
fits-requires g c = search (good_size, rules)

pub returns-then-not-fits : goal.returns-then-not-fits
returns-then-not-fits g c = search (write_outside, rules)

pub write-requires : goal.write-requires
write-requires g c = (search (good_size, rules), search (range_inside, rules))

pub returns : goal.returns
returns g c = write_done _ _ _ _ c.SIGNED.ensures _ _ _ _ c.in_ok-big.ensures c.fits.ensures _ (ap not c.if-not-fits.false) c.write.ensures
