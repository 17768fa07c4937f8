-- The rules of refusal 1 as the code meets them, one after another. Assumes nothing.
use mathlib.Core.Path.{◌≡◌, refl, sym, ◌∙◌}
use mathlib.Core.Bool.{Bool, true, false, not, ◌&&◌, ◌||◌, and-false, and-true as and-on, and_assoc, false≢true}
use mathlib.Core.List.{List, [], ◌∷◌}
use Prim.Native.Nat.{ℕ, zero, suc, ◌+◌, ◌-◌, ◌*◌, ◌/◌, ◌^◌, ◌≤◌, ◌<◌}
use native.Mathlib.Omega.{arith}
use native.Mathlib.Nat.{lt_of_lt_of_le, mul-le-mul, one-mul, one-le-pow, pow-le-pow_right, div-eq_of_lt, le-div_iff_mul-le}
use lib.Bits.{bit_and, bit_or}
use lib.Dec.{leb, ltb, eqb, lit<}
use lib.ListN.{length, get_or}
use mir.Syntax.{w8, w32}
use mir.Val.{Fits}
use borrow.Author.Tests.{lt-ltb, lt-leb, le-leb, ne_eqb, ltb-true, ltb-false, leb-true, not-false}
use Rattle.bsmp.specs.Base.{sum, up_from, all, every, some, within}
use Rattle.bsmp.specs.Codes.{kind_of}
use Rattle.bsmp.specs.Board.{fits_kind, sizes_of, usable_variable, variable_rules, usable_variables, usable_curve, curve_rules, usable_curves}
use Rattle.bsmp.specs.declared.Variable.{Variable}
use Rattle.bsmp.specs.declared.Curve.{Curve}
use Rattle.bsmp.proofs.Bools.{and_true}
use Rattle.records.proofs.Bounds.{curve_rules_lem, usable_group}
use Rattle.rules.specs.Totals.{variables_total}
use Rattle.std.specs.Bool.{then_some}
use Rattle.records.specs.Lending.{curve_bytes}

-- what the code tests of a size, computed over all bytes
abbrev one_low_bit : ℕ → Bool
one_low_bit n = eqb (bit_and n (bit_or (bit_or n 128 - 1) 112)) 0

abbrev alike : Bool → Bool → Bool
alike true b = b
alike false b = not b

abbrev size_test : ℕ → Bool
size_test n = not (within 1 127 n) || alike (one_low_bit n) (some (eqb n) (1 ∷ 2 ∷ 4 ∷ 8 ∷ []))

all_sizes : every size_test (up_from 0 256) ≡ true
all_sizes = refl

all_above : every (λ n. leb 1 (bit_or n 128)) (up_from 0 256) ≡ true
all_above = refl

each_up : (f : ℕ → Bool) (k n i : ℕ) → every f (up_from k n) ≡ true → i < n → f (k + i) ≡ true
each_up f k zero i h l = absurd (omega (arith, l))
each_up f k (suc n) zero h l = let z : k + 0 ≡ k = omega arith in rw z (and_true (f k) _ h).0
each_up f k (suc n) (suc i) h l = let z : suc k + i ≡ k + suc i = omega arith in rw z at (each_up f (suc k) n i (and_true (f k) _ h).1 (omega (arith, l)))

of_all : (f : ℕ → Bool) → every f (up_from 0 256) ≡ true → (n : ℕ) → Fits w8 n → f n ≡ true
of_all f h n l = let z : 0 + n ≡ n = omega arith in rw z at (each_up f 0 256 n h l.fits)

told_alike : (a b : Bool) → alike a b ≡ true → a ≡ b
told_alike true b h = sym h
told_alike false true h = absurd (false≢true h)
told_alike false false h = refl

pub size_less : (n : ℕ) → Fits w8 n → 1 ≤ bit_or n 128
size_less n l = leb-true 1 _ (of_all (λ m. leb 1 (bit_or m 128)) all_above n l)

pub size_told : (n : ℕ) → Fits w8 n → within 1 127 n ≡ true → one_low_bit n ≡ some (eqb n) (1 ∷ 2 ∷ 4 ∷ 8 ∷ [])
size_told n l u = told_alike _ _ (rw u at (of_all size_test all_sizes n l))

-- kind 0 fits every size, 1 to 4 a number's sizes, and no other fits
pub fits_told : (n k : ℕ) (b : Bool) → b ≡ some (eqb n) (1 ∷ 2 ∷ 4 ∷ 8 ∷ []) → (eqb k 0 || (leb k 4 && b)) ≡ fits_kind n (kind_of k)
unfolding kind_of
fits_told n zero b e = refl
fits_told n (suc zero) b e = e
fits_told n (suc (suc zero)) b e = e
fits_told n (suc (suc (suc zero))) b e = e
fits_told n (suc (suc (suc (suc zero)))) b e = e
fits_told n (suc (suc (suc (suc (suc k))))) b e =
    let x : ℕ = suc (suc (suc (suc (suc k)))) in
    rw (lt-leb x 4 (omega arith), ne_eqb x 0 (λ z. omega (arith, z)), ne_eqb x 1 (λ z. omega (arith, z)), ne_eqb x 2 (λ z. omega (arith, z)), ne_eqb x 3 (λ z. omega (arith, z)), ne_eqb x 4 (λ z. omega (arith, z)))

-- a kind counts only where the size is a usable one
pub variable_told : (v : Variable) (b : Bool) → (within 1 127 v.size ≡ true → b ≡ fits_kind v.size (kind_of v.kind))
    → (((leb v.writable 1 && leb 1 v.size) && leb v.size 127) && b) ≡ usable_variable v
variable_told v b h = by (within 1 127 v.size) refl
  where
    w : Bool
    w = leb v.writable 1

    by : (u : Bool) → within 1 127 v.size ≡ u → (((w && leb 1 v.size) && leb v.size 127) && b) ≡ ((w && within 1 127 v.size) && fits_kind v.size (kind_of v.kind))
    by true e = rw (and_assoc w (leb 1 v.size) (leb v.size 127), h e)
    by false e = rw (and_assoc w (leb 1 v.size) (leb v.size 127), e, and-false w)

-- rules joined by &&, one after another
module _ (a b : Bool) where
  pub both_on : a ≡ true → b ≡ true → (a && b) ≡ true
  both_on h e = rw h e

  pub left_off : a ≡ false → (a && b) ≡ false
  left_off h = rw h

  pub right_off : b ≡ false → (a && b) ≡ false
  right_off h = rw h (and-false a)

-- a rule that is broken breaks the board
pub all_off : (bs : List Bool) (k : ℕ) → get_or bs k true ≡ false → all bs ≡ false
all_off [] k h = h
all_off (b ∷ bs) zero h = rw h
all_off (b ∷ bs) (suc k) h = rw (all_off bs k h) (and-false b)

-- a walk that adds up the bytes of usable curves; b is what the test of one gave
module _ (c : Curve) (b : Bool) (e : b ≡ usable_curve c) (h : not b ≡ false) where
  curve_small : c.size * c.blocks ≤ 268435456
  curve_small = let w = curve_rules_lem c (sym e ∙ not-false b h) in mul-le-mul w.0.1 w.1.1

  pub curve_fits : Fits w32 (c.size * c.blocks)
  curve_fits = record { fits = omega (arith, curve_small) }

  pub curve_sum_fits : (s i n : ℕ) → s ≤ 268435456 * i → i < n → n ≤ 8 → Fits w32 (s + c.size * c.blocks)
  curve_sum_fits s i n k l m = record { fits = omega (arith, curve_small) }

  pub curve_count_small : (k i : ℕ) → k ≤ 65536 * i → k + c.blocks ≤ 65536 * (i + 1)
  curve_count_small k i q = omega (arith, curve_rules_lem c (sym e ∙ not-false b h))

  pub curve_sum_small : (s i : ℕ) → s ≤ 268435456 * i → s + c.size * c.blocks ≤ 268435456 * (i + 1)
  curve_sum_small s i k = omega (arith, curve_small)

-- variables
module _ (vs : List Variable) where
  pub variables_few : (k : ℕ) → k ≡ length vs → k < 1 → usable_variables vs ≡ false
  unfolding usable_variables
  variables_few k e h = rw (← e, lt-leb 1 k h)

  pub variables_many : (k : ℕ) → k ≡ length vs → 64 < k → usable_variables vs ≡ false
  unfolding usable_variables
  variables_many k e h = rw (← e, lt-leb k 64 h, and-false (leb 1 k))

  pub variables_broken : every usable_variable vs ≡ false → usable_variables vs ≡ false
  unfolding usable_variables
  variables_broken h = all_off (variable_rules vs) 1 h

  pub variables_large : (n : ℕ) → n ≡ sum (sizes_of vs) → 4096 < n → usable_variables vs ≡ false
  unfolding usable_variables
  variables_large n e h = all_off (variable_rules vs) 2 (rw (← e) (lt-leb n 4096 h))

  pub variables_pass : (k n : ℕ) → k ≡ length vs → 1 ≤ k → k ≤ 64 → every usable_variable vs ≡ true → n ≡ sum (sizes_of vs) → n ≤ 4096 → usable_variables vs ≡ true
  unfolding usable_variables
  variables_pass k n q a b h e l = rw (← q, le-leb 1 k a, le-leb k 64 b, h, ← e, le-leb n 4096 l)

  -- the last of the rules decides
  pub variables_total_lem : (k n : ℕ) → k ≡ length vs → 1 ≤ k → k ≤ 64 → every usable_variable vs ≡ true → n ≡ sum (sizes_of vs) → then_some (leb n 4096) n ≡ variables_total vs
  unfolding usable_variables
  variables_total_lem k n q a b h e = rw (← q, le-leb 1 k a, le-leb k 64 b, h, ← e, and-on (leb n 4096))

-- curves
module _ (cs : List Curve) where
  pub curves_many : (k : ℕ) → k ≡ length cs → 8 < k → usable_curves cs ≡ false
  unfolding usable_curves
  curves_many k e h = rw (← e, lt-leb k 8 h)

  pub curves_broken : every usable_curve cs ≡ false → usable_curves cs ≡ false
  unfolding usable_curves
  curves_broken h = all_off (curve_rules cs) 1 h

  pub curves_last : (k n : ℕ) → k ≡ length cs → k ≤ 8 → every usable_curve cs ≡ true → n ≡ curve_bytes cs → usable_curves cs ≡ leb n 65536
  unfolding usable_curves
  curves_last k n q l h e = rw (← q, le-leb k 8 l, h, ← e) (and-on (leb n 65536))

-- functions and groups: at most m of them, and each passes the test f
module _ {A : Type 0} (f : A → Bool) (xs : List A) (m : ℕ) where
  pub too_many : (k : ℕ) → k ≡ length xs → m < k → false ≡ (leb (length xs) m && every f xs)
  too_many k e h = rw (← e, lt-leb k m h)

  pub one_broken : every f xs ≡ false → false ≡ (leb (length xs) m && every f xs)
  one_broken h = rw h (sym (and-false (leb (length xs) m)))

  pub each_passes : (k : ℕ) → k ≡ length xs → k ≤ m → every f xs ≡ true → true ≡ (leb (length xs) m && every f xs)
  each_passes k e l h = rw (← e, le-leb k m l, h)

-- a set's members are declared where nothing is left of it past the last variable
module _ (m n : ℕ) where
  pub group_any : 0 < m → 64 ≤ n → m < 2 ^ 64 → leb 64 n ≡ usable_group n m
  group_any a h l =
      let p : 2 ^ 64 ≤ 2 ^ n = pow-le-pow_right (lit< tt) h in
      rw (le-leb 64 n h, lt-ltb 0 m a, lt-ltb m (2 ^ n) (lt_of_lt_of_le l p))

  pub group_declared : 0 < m → eqb (m / 2 ^ n) 0 ≡ usable_group n m
  group_declared a = rw (lt-ltb 0 m a) (by (ltb m (2 ^ n)) refl)
    where
      by : (b : Bool) → ltb m (2 ^ n) ≡ b → eqb (m / 2 ^ n) 0 ≡ b
      by true e = rw (div-eq_of_lt (ltb-true m (2 ^ n) e))
      by false e =
          let q : 1 ≤ m / 2 ^ n = (le-div_iff_mul-le (one-le-pow n 2 (lit< tt))).1 (rw (one-mul (2 ^ n)) (ltb-false m (2 ^ n) e)) in
          ne_eqb (m / 2 ^ n) 0 (λ z. omega (arith, z, q))
