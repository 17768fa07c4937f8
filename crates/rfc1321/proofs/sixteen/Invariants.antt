-- `sixteen` meets its contract. Assumes nothing.
use Rattle.std.proofs.Common.{◌≡◌, ◌*◌, drop}
use Rattle.rfc1321.specs.Md5.{operations}
use Rattle.rfc1321.proofs.sixteen.Given as goal

abbrev pub invariant-loop-turn : goal.invariant-loop-turn
invariant-loop-turn g l =
    let r = g.R.Round in
    operations r.function l.x (drop (4 * l.turn) r.ops) l.q ≡ operations r.function l.x r.ops l.initial.q
