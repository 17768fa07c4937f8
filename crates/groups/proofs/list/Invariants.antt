-- `list` meets its contract. Assumes nothing.
use Rattle.bsmp.specs.Board.{group_count}
use Rattle.bsmp.specs.Message.{group_list}
use Rattle.parts.specs.Parts.{variables_only}
use Rattle.parts.proofs.Listing.{Listing}
use Rattle.groups.proofs.list.Given as goal

abbrev pub invariant-loop-g : goal.invariant-loop-g
invariant-loop-g l = Listing (group_list (variables_only l.sizes l.writable) l.groups) (group_count l.groups) l.initial.reply l.at l.g l.reply
