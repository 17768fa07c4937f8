-- `added` meets its contract. Assumes nothing.
use Rattle.std.proofs.Common.{refl}
use Rattle.rfc1321.specs.Md5.{◌⊞◌, added}
use Rattle.rfc1321.proofs.added.Goals as goal

pub returns : goal.returns
unfolding added ◌⊞◌
returns c = refl
