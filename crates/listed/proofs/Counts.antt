-- How many members a group may have, and the walk over the counts of the list of groups. Assumes nothing.
use mathlib.Core.Path.{◌≡◌, sym}
use mathlib.Core.Bool.{Bool, true, false, ◌&&◌, and-false}
use mathlib.Core.List.{List}
use Prim.Native.Nat.{ℕ, suc, ◌+◌, ◌-◌, ◌%◌, ◌≤◌, ◌<◌}
use native.Mathlib.Omega.{arith}
use native.Mathlib.Numerals.{add-one}
use lib.ListN.{length, get_or}
use borrow.Author.Tests.{le-leb}
use Rattle.bsmp.specs.Base.{up_from, every, within, byte_at}
use Rattle.bsmp.specs.Board.{group}
use Rattle.asking.specs.Learned.{slot_of, fits_count}

-- the walk, at group g
module _ (p : List ℕ) where
  abbrev fits_at : ℕ → Bool
  fits_at g = fits_count (group g) (slot_of (byte_at p g)).size

  pub record Counted (g : ℕ) : Type 0 where
    pub inside : g ≤ length p
    pub rest : every fits_at (up_from g (length p - g)) ≡ every fits_at (up_from 0 (length p))

  abbrev Tells : Bool → Type 0
  Tells r = r ≡ (within 3 8 (length p) && every (λ g. fits_count (group g) (slot_of (byte_at p g)).size) (up_from 0 (length p)))

  pub counted_start : Counted 0
  counted_start = record { inside = omega arith; rest = let o : length p - 0 ≡ length p = omega arith in rw o }

  -- b is what the test of group g gave
  module _ (g : ℕ) (b : Bool) (h : g < length p) (q : Counted g) (e : b ≡ fits_count (group g) (get_or p g 0 % 128)) where
    turn : (b && every fits_at (up_from (g + 1) (length p - (g + 1)))) ≡ every fits_at (up_from 0 (length p))
    turn = let o : length p - g ≡ suc (length p - (g + 1)) = omega arith in rw (e, add-one) (rw (o, add-one) at q.rest)

    pub counts_stop : b ≡ false → Tells false
    counts_stop t = rw (← turn, t) (sym (and-false (within 3 8 (length p))))

    pub counted_next : b ≡ true → Counted (g + 1)
    counted_next t = record { inside = omega arith; rest = rw t at turn }

  pub counted_end : (g : ℕ) → 3 ≤ length p → length p ≤ 8 → length p ≤ g → Counted g → Tells true
  counted_end g a b h q =
      let o : length p - g ≡ 0 = omega arith in
      rw (le-leb 3 (length p) a, le-leb (length p) 8 b) (rw o at q.rest)
