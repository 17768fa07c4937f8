-- Sums of lists, with the laws that callers cite. Assumes nothing.
use mathlib.Core.Path.{◌≡◌, refl, ◌∙◌}
use mathlib.Core.List.{List, [], ◌∷◌}
use Prim.Native.Nat.{ℕ, zero, suc, ◌+◌, ◌%◌, ◌≤◌, ◌<◌}
use native.Mathlib.Numerals.{add-one}
use native.Mathlib.Omega.{arith}
use lib.ListN.{length, take, drop, get_or}
use Rattle.bsmp.specs.Base.{sum}
use Rattle.bsmp.proofs.Lists.{sum_append}
use Rattle.std.specs.Prelude.{fold}
use lib.Seq.{take-suc, drop-cons}

pub total_nil : sum [] ≡ 0
unfolding sum
total_nil = refl

pub total_cons : (x : ℕ) (xs : List ℕ) → sum (x ∷ xs) ≡ x + sum xs
unfolding sum
total_cons x xs = refl

-- what is left from i on: its first, and what is left from i + 1 on
pub total_drop : (l : List ℕ) (i : ℕ) → i < length l → sum (drop i l) ≡ get_or l i 0 + sum (drop (i + 1) l)
total_drop l i h = rw (add-one, drop-cons l i 0, total_cons)

-- one more
pub total_take : (l : List ℕ) (i : ℕ) → i < length l → sum (take (i + 1) l) ≡ sum (take i l) + get_or l i 0
unfolding sum
total_take l i h = rw (add-one, take-suc l i 0, sum_append) (omega arith)

pub total_split : (l : List ℕ) (n : ℕ) → sum (take n l) + sum (drop n l) ≡ sum l
unfolding sum
total_split l zero = omega arith
total_split [] (suc n) = omega arith
total_split (x ∷ l) (suc n) = omega (arith, total_split l n)

-- the value at n lies within the whole
pub total_within : (l : List ℕ) (n : ℕ) → n < length l → sum (take n l) + get_or l n 0 ≤ sum l
total_within l n h = omega (arith, total_take l n h, total_split l (n + 1))

-- the bytes added up as the machine does, each sum modulo 256
pub sum_wraps : (a : ℕ) (l : List ℕ) → fold (λ s x. (s + x) % 256) a l % 256 ≡ (a + sum l) % 256
unfolding sum
sum_wraps a [] = omega arith
sum_wraps a (x ∷ l) = sum_wraps ((a + x) % 256) l ∙ omega arith
