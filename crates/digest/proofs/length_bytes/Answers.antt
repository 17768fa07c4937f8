-- `length_bytes` meets its contract. Assumes nothing.
use Rattle.std.proofs.Common.{◌∙◌}
use Rattle.digest.proofs.Closing.{length_made}
use Rattle.digest.proofs.length_bytes.Goals as goal

pub returns : goal.returns
returns c = c.to_le_bytes.ensures ∙ length_made c.args.n
