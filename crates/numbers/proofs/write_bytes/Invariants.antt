-- With the rest of the bytes written from i on, all is as it should be. Assumes nothing.
use mathlib.Core.Path.{◌≡◌}
use Prim.Native.Nat.{◌-◌}
use lib.ListN.{length}
use Rattle.bsmp.specs.Number.{little_bytes, turned}
use Rattle.copies.specs.Put.{put}
use Rattle.numbers.proofs.write_bytes.Given as goal

abbrev pub invariant-loop-i : goal.invariant-loop-i
invariant-loop-i l = put (turned l.big l.out) l.i (little_bytes (length l.initial.out - l.i) l.rest) ≡ little_bytes (length l.initial.out) l.u
