-- Uniqueness: any two results that the promise of a reading allows are equal. Assumes nothing.
use mathlib.Core.Path.{◌≡◌, sym, ap, ◌∙◌}
use mathlib.Core.List.{List}
use Prim.Native.Nat.{ℕ}
use lib.IntN.{ℤ, pos}
use Rattle.std.specs.Prelude.{Result, Ok, Err}
use Rattle.bsmp.specs.Number.{Reading, is}
use Rattle.bsmp.specs.declared.Refusal.{Refusal}
use Rattle.numbers.proofs.Unique.{same_unsigned}
use Rattle.readings.specs.Answers.{reading_of, WritingLeft, writing_left}

-- what is read means one integer
the_integer : (z y : ℤ) → is z ≡ is y → z ≡ y
the_integer z y h = cc

reading_same : {A : Type 0} (meaning : A → ℤ) → ((a b : A) → meaning a ≡ meaning b → a ≡ b) → (a b : Result A Refusal) → reading_of meaning a ≡ reading_of meaning b → a ≡ b
reading_same meaning apart (Ok z) (Ok y) h = ap Ok (apart z y (the_integer (meaning z) (meaning y) h))
reading_same meaning apart (Ok z) (Err n) h = absurd (cc)
reading_same meaning apart (Err m) (Ok y) h = absurd (cc)
reading_same meaning apart (Err m) (Err n) h = cc

-- x is the promise's other side: what the definition gives for these inputs
pub read_unique : {A : Type 0} (meaning : A → ℤ) → ((a b : A) → meaning a ≡ meaning b → a ≡ b) → (x : Reading) (a b : Result A Refusal)
    → reading_of meaning a ≡ x → reading_of meaning b ≡ x → a ≡ b
read_unique meaning apart x a b h k = reading_same meaning apart a b (h ∙ sym k)

pub read_signed_unique : (x : Reading) (a b : Result ℤ Refusal) → reading_of (λ z. z) a ≡ x → reading_of (λ z. z) b ≡ x → a ≡ b
read_signed_unique = read_unique (λ z. z) (λ a b h. h)

pub read_unsigned_unique : (x : Reading) (a b : Result ℕ Refusal) → reading_of pos a ≡ x → reading_of pos b ≡ x → a ≡ b
read_unsigned_unique = read_unique pos same_unsigned

-- both writings: the answers are equal, and so are the buffers
pub write_unique : (x : WritingLeft) (a₁ a₂ : Result (Unit {0}) Refusal) (b₁ b₂ : List ℕ) → writing_left a₁ b₁ ≡ x → writing_left a₂ b₂ ≡ x → (a₁ ≡ a₂) × (b₁ ≡ b₂)
write_unique x a₁ a₂ b₁ b₂ h k = (ap (λ (w : WritingLeft). w.answer) (h ∙ sym k), ap (λ (w : WritingLeft). w.buffer) (h ∙ sym k))
