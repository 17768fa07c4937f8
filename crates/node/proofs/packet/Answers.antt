-- `packet` meets its contract. Assumes nothing.
use mathlib.Core.Path.{refl}
use Rattle.node.proofs.Carrying.{packet_fits, packet_left_lem, packet_kept}
use borrow.Author.Rules.{rules}
use Rattle.node.proofs.packet.Goals as goal

pub regroup-requires : goal.regroup-requires
regroup-requires c = packet_fits _ _ _ _ _ _ _ _ _ _ _ _ _ _ _ _ _ c.in-Ok.ensures.carried (search rules)

pub returns-in-Ok : goal.returns-in-Ok
returns-in-Ok c = packet_left_lem _ _ _ _ _ _ _ _ _ _ _ _ _ _ _ _ _ c.in-Ok.ensures.carried _ _ _ _ _ (search rules) (search rules) (search rules) (search rules) c.regroup.ensures

pub returns-in-Err : goal.returns-in-Err
returns-in-Err c = packet_kept _ _ _ _ _ _ _ _ _ _ _ _ _ _ _ _ _ c.in-Err.ensures.carried _ _ _ _ (search rules) (search rules) (search rules) (search rules) refl (search rules)
