-- `usable_sizes` meets its contract: one walk over the bytes. Assumes nothing.
use lib.Dec.{leb}
use Rattle.learned.proofs.Sizes.{Sized}
use Rattle.learned.proofs.usable_sizes.Given as goal

abbrev pub invariant-loop-byte : goal.invariant-loop-byte
invariant-loop-byte l = Sized l.list (λ b. leb b l.most) l.bytes l.byte-index
