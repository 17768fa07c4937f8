-- The members of a set among the first variables are numbered below their count. Assumes nothing.
use mathlib.Core.Path.{◌≡◌}
use mathlib.Core.Bool.{Bool, true, false, cond}
use mathlib.Core.List.{List, ◌∷◌, map}
use Prim.Native.Nat.{ℕ, zero, suc, ◌+◌, ◌≤◌, ◌<◌}
use native.Mathlib.Omega.{arith}
use lib.ListN.{length, get_or}
use Rattle.bsmp.specs.Base.{up_from, only}
use Rattle.bsmp.specs.Board.{variable, marked}
use Rattle.bsmp.specs.declared.VariableNumber.{VariableNumber}
use Rattle.sets.specs.Members.{members_below}

-- each of these variables is numbered below n
pub record AllBelow (n : ℕ) (is : List VariableNumber) : Type 0 where
  pub below : (k : ℕ) → k < length is → (get_or is k (variable 0)).0 < n

pub all_first : (n : ℕ) (i : VariableNumber) (is : List VariableNumber) → AllBelow n (i ∷ is) → i.0 < n
all_first n i is h = h.below 0 (omega arith)

pub all_others : (n : ℕ) (i : VariableNumber) (is : List VariableNumber) → AllBelow n (i ∷ is) → AllBelow n is
all_others n i is h = record { below = λ k l. h.below (suc k) (omega (arith, l)) }

only_inside : (f : VariableNumber → Bool) (i n m : ℕ) → i + n ≤ m → AllBelow m (only f (map variable (up_from i n)))
only_inside f i zero m h = record { below = λ k l. absurd (omega (arith, l)) }
only_inside f i (suc n) m h = by (f (variable i)) (only_inside f (suc i) n m (omega (arith, h)))
  where
    by : (b : Bool) → AllBelow m (only f (map variable (up_from (suc i) n)))
        → AllBelow m (cond b (variable i ∷ only f (map variable (up_from (suc i) n))) (only f (map variable (up_from (suc i) n))))
    by true q = record { below = at q }
      where
        at : AllBelow m (only f (map variable (up_from (suc i) n))) → (k : ℕ) → k < suc (length (only f (map variable (up_from (suc i) n))))
            → (get_or (variable i ∷ only f (map variable (up_from (suc i) n))) k (variable 0)).0 < m
        at q zero l = omega (arith, h)
        at q (suc k) l = q.below k (omega (arith, l))
    by false q = q

pub members_inside : (m n : ℕ) → AllBelow n (members_below m n)
unfolding members_below
members_inside m n = only_inside (marked m) 0 n n (omega arith)

pub first_inside : (m n : ℕ) (i : VariableNumber) (is : List VariableNumber) → members_below m n ≡ i ∷ is → i.0 < n
first_inside m n i is e = all_first n i is (rw e at (members_inside m n))
