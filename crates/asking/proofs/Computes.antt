-- One name to open every definition of the asking side where a request or a reply is computed. Assumes nothing.
use Rattle.bsmp.proofs.Computes.{computes as bsmp_computes}
use Rattle.asking.specs.Request.{sorted, fields_of, is_address, can_write, asking}
use Rattle.asking.specs.Learned.{usable_sizes, usable_learned}
use Rattle.asking.specs.Reply.{wanted, holds, error_of, answers, tells, hearing}
use Rattle.asking.specs.Learning.{regrouped, followed, taught, change_for}

-- to unfold this is to unfold all that its line names
unfoldable pub computes : Type 0
unfolding sorted fields_of is_address can_write asking usable_sizes usable_learned wanted holds error_of answers tells hearing regrouped followed taught change_for bsmp_computes
computes = Unit {0}
