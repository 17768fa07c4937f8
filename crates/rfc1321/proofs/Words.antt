-- Words: they stay below 2 ^ 32, a word is its four bytes, and what a rotation is. Assumes nothing.
use Rattle.std.proofs.Common.{◌≡◌, ℕ, ◌+◌, ◌-◌, ◌*◌, ◌/◌, ◌%◌, ◌^◌, ◌<◌, ◌≤◌, sym, ap, ◌∙◌, ap₂, lt_of_le_of_lt, add-zero, mod-lt, arith, pow_pos, shr_lt}
use native.Mathlib.Nat.{mul-mod_left, div-add-mod, div-div-eq-div-mul}
use lib.Arith.{sub-sub_self}
use lib.Bits.{bit_or, or_lt, or_shifted}
use lib.Pow.{shl-shr, shr_le, split, high, low, mod-pow-add}
use Rattle.rfc1321.specs.Md5.{word, bytes, ◌⊞◌, ◌<<<◌}

pub sum_below : (x y : ℕ) → x ⊞ y < 2 ^ 32
unfolding ◌⊞◌
sum_below x y = omega arith

-- a word is its four bytes
digits : (w u v z r₀ r₁ r₂ : ℕ) → w ≡ 256 * u + r₀ → u ≡ 256 * v + r₁ → v ≡ 256 * z + r₂ → r₀ + 2 ^ 8 * r₁ + 2 ^ 16 * r₂ + 2 ^ 24 * z ≡ w
digits w u v z r₀ r₁ r₂ e₀ e₁ e₂ = omega arith

pub word_bytes : (w : ℕ) → w < 2 ^ 32 → word (bytes w) 0 ≡ w
unfolding word bytes
word_bytes w h =
    let e : w / 2 ^ 16 ≡ w / 256 / 256 = sym (div-div-eq-div-mul w 256 256) in
    let f : w / 2 ^ 24 ≡ w / 256 / 256 / 256 = sym (ap (λ (n : ℕ). n / 256) (div-div-eq-div-mul w 256 256) ∙ div-div-eq-div-mul w (2 ^ 16) 256) in
    let g : w / 2 ^ 24 % 256 ≡ w / 256 / 256 / 256 = ap (λ (n : ℕ). n % 256) f ∙ omega arith in
    rw (e, g) (digits w _ _ _ _ _ _ (sym (div-add-mod w 256)) (sym (div-add-mod (w / 256) 256)) (sym (div-add-mod (w / 256 / 256) 256)))

pub rotated_below : (x s : ℕ) → x < 2 ^ 32 → (x <<< s) < 2 ^ 32
unfolding ◌<<<◌
rotated_below x s h = or_lt 32 (x * 2 ^ s % 2 ^ 32) (x / 2 ^ (32 - s)) (mod-lt (x * 2 ^ s) (pow_pos 32)) (lt_of_le_of_lt (shr_le x (32 - s)) h)

-- a rotation by s of a word of t + s bits: its t low bits go up by s, and its s high bits come down
module _ (x s t : ℕ) where
  up : x * 2 ^ s % 2 ^ (t + s) ≡ x % 2 ^ t * 2 ^ s
  up =
      mod-pow-add (x * 2 ^ s) t s
      ∙ ap₂ (λ (y z : ℕ). y % 2 ^ t * 2 ^ s + z) (shl-shr x s) (mul-mod_left x (2 ^ s))
      ∙ add-zero (x % 2 ^ t * 2 ^ s)

  down : x < 2 ^ (s + t) → x / 2 ^ t < 2 ^ s
  down h = shr_lt s t h

  parts : x < 2 ^ (s + t) → bit_or (x * 2 ^ s % 2 ^ (t + s)) (x / 2 ^ t) ≡ x % 2 ^ t * 2 ^ s + x / 2 ^ t
  parts h = ap (λ (y : ℕ). bit_or y (x / 2 ^ t)) up ∙ or_shifted (x % 2 ^ t) s (x / 2 ^ t) (down h)

module _ (x s : ℕ) (h : x < 2 ^ 32) (k : s ≤ 32) where
  all : (32 - s) + s ≡ 32
  all = omega arith

  all' : s + (32 - s) ≡ 32
  all' = omega arith

  wide : x < 2 ^ (s + (32 - s))
  wide = rw all' h

  rotated_high : (x <<< s) ≡ x % 2 ^ (32 - s) * 2 ^ s + x / 2 ^ (32 - s)
  unfolding ◌<<<◌
  rotated_high = ap (λ (n : ℕ). bit_or (x * 2 ^ s % 2 ^ n) (x / 2 ^ (32 - s))) (sym all) ∙ parts x s (32 - s) wide

  -- the two parts have no bit in common
  pub rotated_sum : (x <<< s) ≡ x * 2 ^ s % 2 ^ 32 + x / 2 ^ (32 - s)
  rotated_sum = rotated_high ∙ ap (λ (y : ℕ). y + x / 2 ^ (32 - s)) (sym (up x s (32 - s)) ∙ ap (λ (n : ℕ). x * 2 ^ s % 2 ^ n) all)

-- rotated by s, and by as much as is left of 32: the word itself
pub rotated_back : (x s : ℕ) → x < 2 ^ 32 → s ≤ 32 → ((x <<< s) <<< (32 - s)) ≡ x
rotated_back x s h k =
    let t : ℕ = 32 - s in
    let e : 32 - (32 - s) ≡ s = sub-sub_self k in
    let l : x / 2 ^ t < 2 ^ s = down x s t (wide x s h k) in
    let y : (x <<< s) ≡ x % 2 ^ t * 2 ^ s + x / 2 ^ t = rotated_high x s h k in
    rotated_high (x <<< s) t (rotated_below x s h) (omega arith)
    ∙ ap (λ (n : ℕ). (x <<< s) % 2 ^ n * 2 ^ t + (x <<< s) / 2 ^ n) e
    ∙ ap (λ (z : ℕ). z % 2 ^ s * 2 ^ t + z / 2 ^ s) y
    ∙ ap₂ (λ (z w : ℕ). z * 2 ^ t + w) (low (x % 2 ^ t) s l) (high (x % 2 ^ t) s l)
    ∙ split x t
