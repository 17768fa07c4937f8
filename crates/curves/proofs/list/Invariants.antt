-- `list` meets its contract: one walk over the records. Assumes nothing.
use Prim.Native.Nat.{◌*◌}
use lib.ListN.{length}
use Rattle.bsmp.specs.Message.{curve_list}
use Rattle.parts.specs.Parts.{curves_only}
use Rattle.parts.proofs.Listing.{Listing}
use Rattle.records.specs.Lending.{curves_of}
use Rattle.curves.proofs.list.Given as goal

abbrev pub invariant-loop-i : goal.invariant-loop-i
invariant-loop-i l = Listing (curve_list (curves_only (curves_of l.curves))) (5 * length (curves_of l.curves)) l.initial.reply l.at (5 * l.i) l.reply
