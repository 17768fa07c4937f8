-- `fits_kind` meets its contract. Assumes nothing.
use Rattle.rules.proofs.Checks.{fits_told}
use Rattle.rules.proofs.fits_kind.Goals as goal

pub returns : goal.returns
returns c u = fits_told c.args.size c.args.kind _ (c.fits_number.ensures u)
