-- Marks: single bits of a number, of its complement and of a union; a number from its bits, and back. Assumes nothing.
use mathlib.Core.Path.{◌≡◌, refl, sym, ap, ap₂, ◌∙◌}
use mathlib.Core.Bool.{Bool, true, false, not, ◌||◌}
use mathlib.Core.List.{List, [], ◌∷◌, map}
use Prim.Native.Nat.{ℕ, zero, suc, ◌+◌, ◌-◌, ◌*◌, ◌/◌, ◌%◌, ◌^◌, max, ◌<◌}
use native.Mathlib.Nat.{div-div-eq-div-mul, pow-succ'}
use native.Mathlib.Omega.{arith}
use lib.Dec.{eqb, eqb-zero-suc, eqb-suc-zero, eqb-suc-suc}
use lib.Bits.{bit_or, or_shr, or_step}
use lib.ListN.{length}
use Rattle.bsmp.specs.Base.{has, bit, marks_of, up_from}

-- the other marks are those of the half
pub has_half : (m i : ℕ) → has m (suc i) ≡ has (m / 2) i
unfolding has
has_half m i =
    let e : m / 2 / 2 ^ i ≡ m / 2 ^ suc i = rw (div-div-eq-div-mul, pow-succ') in
    rw e

-- the lowest mark
pub has_low : (m : ℕ) → bit (has m 0) ≡ m % 2
unfolding has
has_low m = by (m / 2 ^ 0 % 2) (omega arith) ∙ omega arith
  where
    by : (x : ℕ) → x < 2 → bit (eqb x 1) ≡ x
    by zero h = refl
    by (suc zero) h = refl
    by (suc (suc x)) h = absurd (omega (arith, h))

-- a bit of one is not that of the other, or is that of either
bit_not : (a b : Bool) → bit a + bit b ≡ 1 → a ≡ not b
bit_not true true h = absurd (omega (arith, h))
bit_not true false h = refl
bit_not false true h = refl
bit_not false false h = absurd (omega (arith, h))

pub bit_same : (a b : Bool) → bit a ≡ bit b → a ≡ b
bit_same true true h = refl
bit_same true false h = absurd (omega (arith, h))
bit_same false true h = absurd (omega (arith, h))
bit_same false false h = refl

bit_or_is : (a b c : Bool) → bit a ≡ max (bit b) (bit c) → a ≡ (b || c)
bit_or_is true true c h = refl
bit_or_is true false true h = refl
bit_or_is true false false h = absurd (omega (arith, h))
bit_or_is false true c h = absurd (omega (arith, h))
bit_or_is false false true h = absurd (omega (arith, h))
bit_or_is false false false h = refl

-- marks below n, the other way round
pub has_not : (n m k : ℕ) → m < 2 ^ n → k < n → has (2 ^ n - 1 - m) k ≡ not (has m k)
has_not zero m k h l = absurd (omega (arith, l))
has_not (suc n) m zero h l = bit_not (has (2 ^ suc n - 1 - m) 0) (has m 0) (omega (arith, has_low (2 ^ suc n - 1 - m), has_low m))
has_not (suc n) m (suc k) h l =
    let e : (2 ^ suc n - 1 - m) / 2 ≡ 2 ^ n - 1 - m / 2 = omega arith in
    has_half (2 ^ suc n - 1 - m) k ∙ ap (λ (x : ℕ). has x k) e ∙ has_not n (m / 2) k (omega arith) (omega (arith, l)) ∙ ap not (sym (has_half m k))

-- no marks at all
pub has_none : (k : ℕ) → has 0 k ≡ false
unfolding has
has_none zero = refl
has_none (suc k) = has_half 0 k ∙ has_none k

-- all of them, up to 64
pub has_all : (k : ℕ) → k < 64 → has (2 ^ 64 - 1) k ≡ true
has_all k h = has_not 64 0 k (omega arith) h ∙ ap not (has_none k)

-- a number is the marks of its bits
has_up : (m i n : ℕ) → map (has m) (up_from (suc i) n) ≡ map (has (m / 2)) (up_from i n)
has_up m i zero = refl
has_up m i (suc n) = ap₂ ◌∷◌ (has_half m i) (has_up m (suc i) n)

pub marks_has : (n m : ℕ) → m < 2 ^ n → marks_of (map (has m) (up_from 0 n)) ≡ m
marks_has zero m h = omega (arith, h)
marks_has (suc n) m h =
    ap (λ x. bit (has m 0) + 2 * marks_of x) (has_up m 0 n)
    ∙ omega (arith, marks_has n (m / 2) (omega arith), has_low m)

-- and the bits of the marks are the places that are on
pub has_marks : (bs : List Bool) → map (has (marks_of bs)) (up_from 0 (length bs)) ≡ bs
has_marks [] = refl
has_marks (b ∷ bs) =
    let m : ℕ = bit b + 2 * marks_of bs in
    ap₂ ◌∷◌ (bit_same (has m 0) b (has_low m ∙ low b))
    (has_up m 0 (length bs) ∙ ap (λ (x : ℕ). map (has x) (up_from 0 (length bs))) (half b) ∙ has_marks bs)
  where
    low : (b : Bool) → (bit b + 2 * marks_of bs) % 2 ≡ bit b
    low true = omega arith
    low false = omega arith

    half : (b : Bool) → (bit b + 2 * marks_of bs) / 2 ≡ marks_of bs
    half true = omega arith
    half false = omega arith

-- a union
pub has_or : (a b k : ℕ) → has (bit_or a b) k ≡ (has a k || has b k)
has_or a b zero = bit_or_is (has (bit_or a b) 0) (has a 0) (has b 0) (omega (arith, has_low (bit_or a b), or_step a b, has_low a, has_low b))
has_or a b (suc k) =
    has_half (bit_or a b) k ∙ ap (λ (x : ℕ). has x k) (or_shr a b 1) ∙ has_or (a / 2) (b / 2) k
    ∙ sym (ap₂ ◌||◌ (has_half a k) (has_half b k))

-- a single mark
pub has_pow : (i k : ℕ) → has (2 ^ i) k ≡ eqb k i
has_pow zero zero = bit_not (has 1 0) false (omega (arith, has_low 1))
has_pow zero (suc k) = has_half 1 k ∙ has_none k ∙ sym (eqb-suc-zero k)
has_pow (suc i) zero = bit_not (has (2 ^ suc i) 0) true (omega (arith, has_low (2 ^ suc i))) ∙ sym (eqb-zero-suc i)
has_pow (suc i) (suc k) =
    let e : 2 ^ suc i / 2 ≡ 2 ^ i = omega arith in
    has_half (2 ^ suc i) k ∙ ap (λ (x : ℕ). has x k) e ∙ has_pow i k ∙ sym (eqb-suc-suc k i)
