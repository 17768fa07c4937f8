-- `group_told` meets its contract. Assumes nothing.
use Rattle.heard.proofs.Values.{group_told}
use Rattle.heard.proofs.group_told.Goals as goal

pub returns : goal.returns
returns c = group_told _ _ _ _ _ _ _ _ _ c.if-known-g.false c.group_set-set.ensures c.args.known.now.few c.set_bytes.ensures.0 c.bytes_told.ensures
