-- `mask_into` meets its contract. Assumes nothing.
use Rattle.std.proofs.Common.{sym, ◌∙◌, arith}
use Rattle.lists.proofs.Mask.{mask_turn, mask_done}
use Rattle.lists.proofs.mask_into.Goals as goal

pub loop-i-preserved : goal.loop-i-preserved
loop-i-preserved c = mask_turn _ c.loop-i.dst _ c.loop-i.i (omega arith) (omega arith) _ c.masked_byte.ensures ∙ c.loop-i.invariant

pub returns : goal.returns
returns c = sym (mask_done _ _ _ _ (omega arith)) ∙ c.loop-i.invariant
