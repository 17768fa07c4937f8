-- What holds at sizes 1, 2, 4 and 8. Assumes nothing.
use mathlib.Core.Path.{◌≡◌, ap, ◌∙◌}
use mathlib.Core.Logic.{◌⊎◌, inl, inr}
use mathlib.Core.Bool.{Bool, true, ◌||◌, false≢true}
use Prim.Native.Nat.{ℕ, suc, ◌-◌, ◌*◌, ◌^◌, ◌≤◌}
use native.Mathlib.Nat.{pow-succ'}
use native.Mathlib.Omega.{arith}
use borrow.Author.Tests.{eqb-true}
use lib.Dec.{eqb, lit≤}
use lib.Pow.{pow_pos, pow_mono}
use Rattle.bsmp.proofs.Bools.{or_true}
use Rattle.numbers.specs.Size.{is_size, half_of}

-- what holds at these four holds at every size
one_of : (P : ℕ → Type 0) (n a : ℕ) (b : Bool) → P a → (b ≡ true → P n) → (eqb n a || b) ≡ true → P n
one_of P n a b p q h = by (or_true (eqb n a) b h)
  where
    by : (eqb n a ≡ true) ⊎ (b ≡ true) → P n
    by (inl e) = rw (eqb-true n a e) p
    by (inr e) = q e

pub at_sizes : (P : ℕ → Type 0) → P 1 → P 2 → P 4 → P 8 → (n : ℕ) → is_size n ≡ true → P n
at_sizes P p q r s n = one_of P n 1 _ p (one_of P n 2 _ q (one_of P n 4 _ r (one_of P n 8 _ s (λ e. absurd (false≢true e)))))

pub size_least : (n : ℕ) → is_size n ≡ true → 1 ≤ n
size_least = at_sizes (λ n. 1 ≤ n) (lit≤ tt) (lit≤ tt) (lit≤ tt) (lit≤ tt)

pub size_most : (n : ℕ) → is_size n ≡ true → n ≤ 8
size_most = at_sizes (λ n. n ≤ 8) (lit≤ tt) (lit≤ tt) (lit≤ tt) (lit≤ tt)

-- the range of a size is twice its half, which isn't empty and within that of 8 bytes
pub record Span (n : ℕ) : Type 0 where
  pub twice : 2 ^ (8 * n) ≡ 2 * half_of n
  pub filled : 1 ≤ half_of n
  pub within : half_of n ≤ 2 ^ 63

pub span : (n : ℕ) → is_size n ≡ true → Span n
span n h =
    let l : 1 ≤ n = size_least n h in
    let m : n ≤ 8 = size_most n h in
    let e : 8 * n ≡ suc (8 * n - 1) = omega arith in
    let b : 8 * n - 1 ≤ 63 = omega arith in
    record { twice = ap (2 ^◌) e ∙ pow-succ' 2 (8 * n - 1); filled = pow_pos (8 * n - 1); within = pow_mono b }
