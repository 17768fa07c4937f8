-- RFC 1321's test suite, by computation. Assumes nothing.
use Rattle.std.proofs.Common.{◌≡◌, map, refl}
use Rattle.rfc1321.specs.Md5.{digest}
use Rattle.rfc1321.specs.Suite.{rows}
use Rattle.rfc1321.proofs.Computes.{computes}

pub suite : map (λ row. digest row.0) rows ≡ map (λ row. row.1) rows
unfolding computes
suite = refl
