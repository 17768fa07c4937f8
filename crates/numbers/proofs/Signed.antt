-- Signed numbers as the machine has them, against what the bytes mean. Assumes nothing.
use mathlib.Core.Path.{◌≡◌, refl, sym, ap, ◌∙◌, subst}
use mathlib.Core.Bool.{true, false}
use Prim.Native.Nat.{ℕ, zero, suc, ◌-◌, ◌*◌, ◌^◌, ◌≤◌, ◌<◌}
use native.Mathlib.Nat.{zero-add, not-suc-le-zero}
use native.Mathlib.Omega.{arith}
use borrow.Author.Tests.{le-leb, lt-leb, leb-true, lt-ltb, ltb-true}
use lib.Dec.{T, leb, ltb}
use lib.IntN.{ℤ, pos, negsuc, ◌-ℤ◌}
use lib.Pow.{pow_pos}
use lib.Signed.{mag, lt_z}
use mir.Syntax.{w64}
use mir.Val.{SFits, to_z, of_z}
use mir.Facts.{to_z_pos, to_z-of_z}
use Rattle.bsmp.specs.Number.{meant, in_range, unsigned_of}
use Rattle.bsmp.proofs.Bools.{bool_eq}
use Rattle.numbers.specs.Size.{is_size, largest_of, half_of}
use Rattle.numbers.proofs.Sizes.{span}

-- z as the machine has it, read from its bits
abbrev pub seen : ℤ → ℤ
seen z = to_z w64 (of_z w64 z)

-- the magnitude of z: z by its sign ---------------------------------------------------------------------------------------
below_zero : (z : ℤ) → lt_z z (pos 0) ≡ true → z ≡ negsuc (mag z)
below_zero (pos n) h = absurd (not-suc-le-zero (ltb-true n 0 h))
below_zero (negsuc k) h = refl

not_below : (z : ℤ) → lt_z z (pos 0) ≡ false → z ≡ pos (mag z)
not_below (pos n) h = refl
not_below (negsuc k) h = absurd (subst T h tt)

neg_one_less : (k : ℕ) → negsuc 0 -ℤ pos k ≡ negsuc k
neg_one_less zero = refl
neg_one_less (suc n) = ap (λ (x : ℕ). negsuc (suc x)) (zero-add n)

module _ (z : ℤ) (f : SFits w64 z) where
  pub is_negative : lt_z (seen z) (pos 0) ≡ true → z ≡ negsuc (mag z)
  is_negative h = below_zero z (rw (to_z-of_z f) at h)

  pub is_positive : lt_z (seen z) (pos 0) ≡ false → seen z ≡ pos (mag z)
  is_positive h = to_z-of_z f ∙ not_below z (rw (to_z-of_z f) at h)

-- ranges ------------------------------------------------------------------------------------------------------------------
pub unsigned_range : (n u t : ℕ) → t ≡ largest_of n → leb u t ≡ in_range false n (pos u)
unfolding in_range
unsigned_range n u t g =
    let p : 0 < 2 ^ (8 * n) = pow_pos (8 * n) in
    bool_eq _ _ (λ e. lt-ltb u (2 ^ (8 * n)) (omega (arith, leb-true u t e))) (λ e. le-leb u t (omega (arith, ltb-true u (2 ^ (8 * n)) e)))

-- z, whose magnitude m a call gave: its range, and the value that stands for it
module _ (z : ℤ) (m : ℕ) (f : SFits w64 z) (e : m ≡ mag (seen z)) where
  given : m ≡ mag z
  given = rw (to_z-of_z f) at e

  pub signed_range : (n h : ℕ) → h ≡ half_of n → ltb m h ≡ in_range true n z
  unfolding in_range
  signed_range n h g = rw (given, g) (by z)
    where
      by : (y : ℤ) → ltb (mag y) (half_of n) ≡ in_range true n y
      by (pos k) = refl
      by (negsuc k) = refl

  pub value_within : (n t : ℕ) → is_size n ≡ true → t ≡ largest_of n → in_range true n z ≡ true → m ≤ t
  value_within n t s g h =
      let r = span n s in
      omega (arith, ltb-true m (half_of n) (signed_range n (half_of n) refl ∙ h))

  pub value_negative : (n t : ℕ) → t ≡ largest_of n → lt_z (seen z) (pos 0) ≡ true → t - m ≡ unsigned_of n z
  unfolding unsigned_of
  value_negative n t g h = rw (is_negative z f h) (omega (arith, given))

  pub value_positive : (n : ℕ) → lt_z (seen z) (pos 0) ≡ false → m ≡ unsigned_of n z
  unfolding unsigned_of
  value_positive n h = given ∙ sym (ap (unsigned_of n) (sym (to_z-of_z f) ∙ is_positive z f h))

-- what a value u means, by the half h of its range
module _ (n u h : ℕ) (s : is_size n ≡ true) (e : h ≡ half_of n) where
  pub meant_low : u < h → to_z w64 u ≡ meant true n u
  unfolding meant
  meant_low l =
      let r = span n s in
      let k : u < half_of n = omega arith in
      let b : u < 2 ^ 63 = omega arith in
      simp (lt-leb _ _ k) (to_z_pos w64 b)

  module _ (t : ℕ) (l : h ≤ u) (k : u < 2 ^ (8 * n)) (g : t ≡ largest_of n) where
    room : t - u < 2 ^ 63
    room = let r = span n s in omega arith

    down : negsuc 0 -ℤ to_z w64 (t - u) ≡ negsuc (t - u)
    down = rw (to_z_pos w64 room) (neg_one_less (t - u))

    meant_fits : SFits w64 (negsuc 0 -ℤ to_z w64 (t - u))
    meant_fits = rw down (record { sfits = room })

    pub meant_high : seen (negsuc 0 -ℤ to_z w64 (t - u)) ≡ meant true n u
    unfolding meant
    meant_high =
        let b : half_of n ≤ u = omega arith in
        let w : t - u ≡ 2 ^ (8 * n) - u - 1 = omega arith in
        to_z-of_z meant_fits ∙ down ∙ rw w (simp (le-leb _ _ b))
