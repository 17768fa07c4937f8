-- The place of each variable in the store. Assumes nothing.
use mathlib.Core.Path.{◌≡◌}
use mathlib.Core.List.{List}
use Prim.Native.Nat.{ℕ, ◌+◌, ◌≤◌, ◌<◌}
use native.Mathlib.Omega.{arith}
use lib.ListN.{length, take, get_or}
use Rattle.bsmp.specs.Base.{sum}
use Rattle.lists.proofs.Sum.{total_within, total_take}
use Rattle.sets.specs.Promises.{Sound}

pub place_next : (ns : List ℕ) (i off n : ℕ) → i < length ns → n ≡ get_or ns i 0 → off ≡ sum (take i ns) → off + n ≡ sum (take (i + 1) ns)
place_next ns i off n h k e = omega (arith, total_take ns i h)

pub place_room : (ns s : List ℕ) (i off : ℕ) → Sound ns s → i < length ns → off ≡ sum (take i ns) → off + get_or ns i 0 ≤ length s
place_room ns s i off z h e = omega (arith, total_within ns i h, z.exact)
