-- Uniqueness: any two numbers that the promise of `read` allows are equal. Assumes nothing.
use mathlib.Core.Path.{◌≡◌, sym, ◌∙◌}
use Prim.Native.Nat.{ℕ}
use lib.IntN.{ℤ, pos}

pub same_unsigned : (n m : ℕ) → pos n ≡ pos m → n ≡ m
same_unsigned n m h = cc

-- of a number that is the integer z
pub read_unique : {A : Type 0} (meaning : A → ℤ) → ((a b : A) → meaning a ≡ meaning b → a ≡ b) → (z : ℤ) (n m : A) → meaning n ≡ z → meaning m ≡ z → n ≡ m
read_unique meaning apart z n m h k = apart n m (h ∙ sym k)

pub unsigned_unique : (z : ℤ) (n m : ℕ) → pos n ≡ z → pos m ≡ z → n ≡ m
unsigned_unique = read_unique pos same_unsigned
