-- `variables` meets its contract. Assumes nothing.
use Rattle.asking.specs.Reply.{answers, tells}
use Rattle.listed.proofs.Fitting.{sizes_off}
use Rattle.listed.proofs.variables.Goals as goal

pub returns-in_default : goal.returns-in_default
unfolding answers tells
returns-in_default c = rw (c.in-3.is, sizes_off _ _ c.type_inv.payload c.usable_sizes.ensures c.if-usable_sizes.false)
