-- That the promise of `lowest` allows one result only. Assumes nothing.
use mathlib.Core.Path.{◌≡◌, sym, ap, ◌∙◌}
use Prim.Native.Nat.{ℕ, ◌^◌, ◌<◌}
use native.Mathlib.Omega.{arith}
use lib.ListN.{get_or}
use Rattle.bsmp.specs.Board.{variable}
use Rattle.sets.specs.Promises.{Lowest}

pub lowest_unique : (set i j : ℕ) → set < 2 ^ 64 → Lowest set i → Lowest set j → i ≡ j
lowest_unique set i j h a b = ap (λ l. (get_or l 0 (variable 0)).0) (sym (a.first 64 (omega arith) h) ∙ b.first 64 (omega arith) h)
