-- `digest` meets its contract. Assumes nothing.
use Rattle.digest.proofs.Pieces.{digest_made}
use Rattle.digest.proofs.digest.Goals as goal

pub returns : goal.returns
returns c = digest_made _ _ _ _ c.finish.ensures.sum c.feed.ensures c.begin-p.ensures
