-- `list` meets its contract. Assumes nothing.
use lib.ListN.{length}
use Rattle.bsmp.specs.Message.{variable_list}
use Rattle.parts.specs.Parts.{variables_only}
use Rattle.parts.proofs.Listing.{Listing}
use Rattle.variables.proofs.list.Given as goal

abbrev pub invariant-loop-i : goal.invariant-loop-i
invariant-loop-i l = Listing (variable_list (variables_only l.sizes l.writable)) (length l.sizes) l.initial.reply l.at l.i l.reply
