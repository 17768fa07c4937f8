-- Marks: the number of a set and its bits. Assumes nothing.
use mathlib.Core.Path.{◌≡◌, sym, ap, ◌∙◌}
use mathlib.Core.Bool.{Bool, true, false, false≢true}
use mathlib.Core.List.{List, [], ◌∷◌, map}
use Prim.Native.Nat.{ℕ, zero, suc, ◌+◌, ◌*◌, ◌^◌, ◌<◌}
use native.Mathlib.Omega.{arith}
use native.Mathlib.Nat.{pow-succ', add-zero}
use lib.ListN.{length, get_or}
use Rattle.bsmp.specs.Base.{bit, marks_of, up_from}

-- the marks of n places are below 2 ^ n
pub marks_below : (bs : List Bool) → marks_of bs < 2 ^ length bs
marks_below [] = omega arith
marks_below (b ∷ bs) = rw (pow-succ' 2 (length bs)) (by b (marks_below bs))
  where
    by : (b : Bool) → marks_of bs < 2 ^ length bs → bit b + 2 * marks_of bs < 2 * 2 ^ length bs
    by true h = omega arith
    by false h = omega arith

-- and not 0 if some place is on
pub marks_some : (bs : List Bool) (k : ℕ) → get_or bs k false ≡ true → 0 < marks_of bs
marks_some [] k h = absurd (false≢true h)
marks_some (b ∷ bs) zero h = rw h (omega arith)
marks_some (b ∷ bs) (suc k) h = by b (marks_some bs k h)
  where
    by : (b : Bool) → 0 < marks_of bs → 0 < bit b + 2 * marks_of bs
    by true h = omega arith
    by false h = omega arith

-- the element at a place of a list in order of number
pub at_number : {A : Type 0} (f : ℕ → A) (i n k : ℕ) (d : A) → k < n → get_or (map f (up_from i n)) k d ≡ f (i + k)
at_number f i zero k d h = absurd (omega (arith, h))
at_number f i (suc n) zero d h = ap f (sym (add-zero i))
at_number f i (suc n) (suc k) d h = at_number f (suc i) n k d (omega (arith, h)) ∙ ap f (omega arith)
