-- `begin` meets its contract. Assumes nothing.
use Rattle.std.proofs.Common.{refl}
use Rattle.rfc1321.specs.Md5.{initial, word}
use Rattle.digest.proofs.Progress.begin.Goals as goal

pub returns : goal.returns
unfolding initial word
returns c = refl
