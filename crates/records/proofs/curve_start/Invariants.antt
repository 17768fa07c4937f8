-- The blocks and bytes so far are those of the curves before i. Assumes nothing.
use mathlib.Core.Path.{◌≡◌}
use lib.ListN.{take}
use Rattle.records.specs.Lending.{curves_of, curve_bytes, curve_blocks}
use Rattle.records.proofs.curve_start.Given as goal

abbrev pub invariant-loop-i : goal.invariant-loop-i
invariant-loop-i l = (l.blocks ≡ curve_blocks (take l.i (curves_of l.curves))) × (l.bytes ≡ curve_bytes (take l.i (curves_of l.curves)))
