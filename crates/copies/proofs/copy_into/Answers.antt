-- `copy_into` meets its contract. Assumes nothing.
use Rattle.std.proofs.Common.{sym, ◌∙◌, arith}
use Rattle.copies.proofs.Put.{put_turn, put_done}
use Rattle.copies.proofs.copy_into.Goals as goal

pub loop-i-preserved : goal.loop-i-preserved
loop-i-preserved c = let l = c.loop-i in put_turn l.dst l.i _ l.i (omega arith) (omega arith) ∙ l.invariant

pub returns : goal.returns
returns c = sym (put_done _ _ _ _ c.loop-i-test.false) ∙ c.loop-i.invariant
