-- `list` meets its contract: one walk over the records. Assumes nothing.
use Prim.Native.Nat.{◌-◌}
use lib.ListN.{length}
use Rattle.bsmp.specs.Message.{function_list}
use Rattle.parts.specs.Parts.{functions_only}
use Rattle.parts.proofs.Listing.{Listing}
use Rattle.records.specs.Lending.{functions_of}
use Rattle.functions.proofs.list.Given as goal

abbrev pub invariant-loop-i : goal.invariant-loop-i
invariant-loop-i l = Listing (function_list (functions_only (functions_of l.functions))) (length (functions_of l.functions)) l.initial.reply l.at l.i l.reply
