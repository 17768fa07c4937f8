-- The lowest member of a set, as the zeros behind its last digit tell it, and the set without it. Assumes nothing.
use mathlib.Core.Path.{◌≡◌, refl, ap, ◌∙◌}
use mathlib.Core.Bool.{true, false, cond}
use mathlib.Core.List.{◌∷◌, map}
use Prim.Native.Nat.{ℕ, zero, suc, ◌-◌, ◌*◌, ◌/◌, ◌%◌, ◌^◌, ◌≤◌, ◌<◌}
use native.Mathlib.Omega.{arith}
use native.Mathlib.Nat.{mod-eq_of_lt, one-mul}
use lib.Count.{count_trailing_zeros, under}
use lib.Pow.{pow-lt}
use Rattle.bsmp.specs.Base.{has}
use Rattle.bsmp.specs.Board.{variable}
use Rattle.sets.specs.Members.{members_below}
use Rattle.sets.specs.Promises.{Lowest}
use Rattle.sets.proofs.Marks.{has_half, has_low, bit_same}
use Rattle.sets.proofs.AtOnce.{next, below_half}

-- the lowest digit is 1, or it is 0
low_one : (m : ℕ) → m % 2 ≡ 1 → has m 0 ≡ true
low_one m e = bit_same (has m 0) true (has_low m ∙ e)

low_zero : (m : ℕ) → m % 2 ≡ 0 → has m 0 ≡ false
low_zero m e = bit_same (has m 0) false (has_low m ∙ e)

-- no mark stands below the first
none_before : (d m k : ℕ) → k < count_trailing_zeros d m → has m k ≡ false
unfolding count_trailing_zeros
none_before zero m k h = absurd (omega (arith, h))
none_before (suc d) m k h = by (m % 2) refl (none_before d (m / 2)) k h
  where
    by : (r : ℕ) → m % 2 ≡ r → ((k : ℕ) → k < count_trailing_zeros d (m / 2) → has (m / 2) k ≡ false)
        → (k : ℕ) → k < under r (count_trailing_zeros d (m / 2)) → has m k ≡ false
    by zero e q zero l = low_zero m e
    by zero e q (suc k) l = has_half m k ∙ q k (omega (arith, l))
    by (suc r) e q k l = absurd (omega (arith, l))

-- it stands among the first n, where all marks do
first_below : (d m n : ℕ) → 0 < m → m < 2 ^ n → count_trailing_zeros d m < n
unfolding count_trailing_zeros
first_below d m zero p h = absurd (omega (arith, p, h))
first_below zero m (suc n) p h = omega arith
first_below (suc d) m (suc n) p h = by (m % 2) refl (λ q. first_below d (m / 2) n q (omega (arith, h)))
  where
    by : (r : ℕ) → m % 2 ≡ r → (0 < m / 2 → count_trailing_zeros d (m / 2) < n) → under r (count_trailing_zeros d (m / 2)) < suc n
    by zero e q = omega (arith, q (omega (arith, p, e)))
    by (suc r) e q = omega arith

first_there : (d m : ℕ) → 0 < m → m < 2 ^ d → 2 ^ count_trailing_zeros d m ≤ m
unfolding count_trailing_zeros
first_there zero m p h = absurd (omega (arith, p, h))
first_there (suc d) m p h = by (m % 2) (count_trailing_zeros d (m / 2)) refl (λ q. first_there d (m / 2) q (omega (arith, h)))
  where
    by : (r t : ℕ) → m % 2 ≡ r → (0 < m / 2 → 2 ^ t ≤ m / 2) → 2 ^ under r t ≤ m
    by zero t e q =
        let f : 2 ^ suc t ≤ m = omega (arith, q (omega (arith, p, e))) in
        f
    by (suc r) t e q =
        let f : 2 ^ 0 ≤ m = omega (arith, p) in
        f

-- and is the first of the members; the set without it has the others
first_member : (d n m : ℕ) → n ≤ d → 0 < m → m < 2 ^ n → members_below m n ≡ variable (count_trailing_zeros d m) ∷ members_below (m - 2 ^ count_trailing_zeros d m) n
unfolding count_trailing_zeros
first_member d zero m l p h = absurd (omega (arith, p, h))
first_member zero (suc n) m l p h = absurd (omega (arith, l))
first_member (suc d) (suc n) m l p h = below_half m n ∙ by (m % 2) (count_trailing_zeros d (m / 2)) refl (λ q. first_member d n (m / 2) (omega (arith, l)) q (omega (arith, h)))
  where
    by : (r t : ℕ) → m % 2 ≡ r → (0 < m / 2 → members_below (m / 2) n ≡ variable t ∷ members_below (m / 2 - 2 ^ t) n)
        → cond (has m 0) (variable 0 ∷ map next (members_below (m / 2) n)) (map next (members_below (m / 2) n))
        ≡ variable (under r t) ∷ members_below (m - 2 ^ under r t) (suc n)
    by zero t e q =
        let f : (m - 2 ^ suc t) / 2 ≡ m / 2 - 2 ^ t = omega arith in
        rw (below_half (m - 2 ^ suc t) n, low_zero m e, low_zero (m - 2 ^ suc t) (omega (arith, e)), f) (ap (map next) (q (omega (arith, p, e))))
    by (suc r) t e q =
        let f : (m - 2 ^ 0) / 2 ≡ m / 2 = omega (arith, e) in
        rw (below_half (m - 2 ^ 0) n, low_one m (omega (arith, e)), low_zero (m - 2 ^ 0) (omega (arith, e)), f)

pub lowest_is : (m : ℕ) → 0 < m → m < 2 ^ 64 → Lowest m (count_trailing_zeros 64 m)
lowest_is m p h = record {
  few = first_below 64 m 64 p h;
  there = first_there 64 m p h;
  before = λ k l. none_before 64 m k l;
  below = λ n l. first_below 64 m n p l;
  first = λ n few l. first_member 64 n m few p l;
}

-- the code's own terms for it
pub mark_there : (m i : ℕ) → Lowest m i → 1 * 2 ^ i % 2 ^ 64 ≤ m
mark_there m i q = rw (one-mul, mod-eq_of_lt (pow-lt q.few)) q.there

pub mark_off : (m i : ℕ) → Lowest m i → m - 1 * 2 ^ i % 2 ^ 64 ≡ m - 2 ^ i
mark_off m i q = rw (one-mul, mod-eq_of_lt (pow-lt q.few))
