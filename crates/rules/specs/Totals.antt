-- What the checks of refusal 1 answer; of what is not usable they tell nothing more. Assumes nothing.
use Rattle.std.specs.Prelude.{List, ℕ, Option, eqb, get_or}
use Rattle.std.specs.Bool.{then_some}
use Rattle.bsmp.specs.Base.{sum, every}
use Rattle.bsmp.specs.Board.{blank_curve, sizes_of, usable_variables, usable_curves}
use Rattle.bsmp.specs.declared.Variable.{Variable}
use Rattle.bsmp.specs.declared.Curve.{Curve}
use Rattle.records.specs.Lending.{curve_bytes, curve_blocks}
use Rattle.rules.specs.declared.CurveTotal.{CurveTotal}

-- the bytes of usable variables
abbrev pub variables_total : List Variable → Option ℕ
variables_total vs = then_some (usable_variables vs) (sum (sizes_of vs))

-- the block size that all curves have; of no curves it is 0
abbrev pub first_size : List Curve → ℕ
first_size cs = (get_or cs 0 blank_curve).size

abbrev pub common_size : List Curve → Option ℕ
common_size cs = then_some (every (λ c. eqb c.size (first_size cs)) cs) (first_size cs)

-- the bytes, blocks and common size of usable curves
abbrev pub curve_total : List Curve → CurveTotal
curve_total cs = record { bytes = curve_bytes cs; blocks = curve_blocks cs; size = common_size cs }

abbrev pub curves_total : List Curve → Option CurveTotal
curves_total cs = then_some (usable_curves cs) (curve_total cs)
