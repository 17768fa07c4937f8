-- A curve's record of the list of curves. Assumes nothing.
use Rattle.std.specs.Prelude.{List, ℕ, ◌+◌}
use Rattle.bsmp.specs.Base.{byte_at, word_at}
use Rattle.bsmp.specs.declared.Curve.{Curve}
use Rattle.asking.specs.Learned.{blocks_of}

-- a curve's record of list 09, from a place on
abbrev pub curve_in : List ℕ → ℕ → Curve
curve_in p i = record { writable = byte_at p i; size = word_at p (i + 1); blocks = blocks_of (word_at p (i + 3)) }
