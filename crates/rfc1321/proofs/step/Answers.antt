-- `step` meets its contract. Assumes nothing.
use Rattle.std.proofs.Common.{refl, ap, ◌+◌}
use Rattle.rfc1321.specs.Md5.{table}
use Rattle.rfc1321.proofs.Turns.{operation_made}
use Rattle.rfc1321.proofs.step.Goals as goal

pub returns : goal.returns
unfolding table
returns g c =
    operation_made g.R.Round.function _ _ _ _ _ _ _ _ _ _ c.args.q c.rotate_left.ensures c.requires.2
    c.mix.ensures c.word.ensures c.place.ensures.0 refl (ap (λ n. n + c.args.i) c.BEFORE.ensures)
