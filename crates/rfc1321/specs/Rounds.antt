-- How the code goes through a round of the RFC. Assumes nothing.
use Rattle.std.specs.Prelude.{◌≡◌, ℕ, suc, ◌+◌, ◌*◌, ◌%◌, ◌<◌, ◌≤◌, List, [], ◌∷◌, ◌++◌, slice_index, refl}
use Rattle.std.proofs.Common.{lit<, lit≤}
use Rattle.rfc1321.specs.Md5.{round1, round2, round3, round4}

-- four operations from operation i on, which goes from 0 to 15 in each round, where the RFC's goes from 1 to 64 through all of them: k is the word
-- of each, so many operations came before the round, and the shifts are those of all turns of four
abbrev pub four : (k : ℕ → ℕ) (before : ℕ) (shifts : List ℕ) (i : ℕ) → List (ℕ × ℕ × ℕ)
four k before shifts i =
    (k i, slice_index shifts 0, suc (before + i))
    ∷ (k (i + 1), slice_index shifts 1, suc (before + (i + 1)))
    ∷ (k (i + 2), slice_index shifts 2, suc (before + (i + 2)))
    ∷ (k (i + 3), slice_index shifts 3, suc (before + (i + 3)))
    ∷ []

-- all sixteen
abbrev pub listed : (k : ℕ → ℕ) (before : ℕ) (shifts : List ℕ) → List (ℕ × ℕ × ℕ)
listed k before shifts = four k before shifts 0 ++ (four k before shifts 4 ++ (four k before shifts 8 ++ four k before shifts 12))

-- a shift of a word
abbrev pub Shift : ℕ → Type 0
Shift s = (0 < s) × (s < 32)

-- what the code has of a round comes to the RFC's "following 16 operations"
pub record Listed (k : ℕ → ℕ) (before : ℕ) (shifts : List ℕ) (operations : List (ℕ × ℕ × ℕ)) : Type 0 where
  pub same : operations ≡ listed k before shifts
  pub inside : before ≤ 48
  pub first : Shift (slice_index shifts 0)
  pub second : Shift (slice_index shifts 1)
  pub third : Shift (slice_index shifts 2)
  pub fourth : Shift (slice_index shifts 3)

-- what the code has of each round comes to the RFC's list
pub first : Listed (λ i. i) 0 (7 ∷ 12 ∷ 17 ∷ 22 ∷ []) round1
unfolding round1
first = record { same = refl; inside = lit≤ tt; first = (lit< tt, lit< tt); second = (lit< tt, lit< tt); third = (lit< tt, lit< tt); fourth = (lit< tt, lit< tt) }

pub second : Listed (λ i. (1 + 5 * i) % 16) 16 (5 ∷ 9 ∷ 14 ∷ 20 ∷ []) round2
unfolding round2
second = record { same = refl; inside = lit≤ tt; first = (lit< tt, lit< tt); second = (lit< tt, lit< tt); third = (lit< tt, lit< tt); fourth = (lit< tt, lit< tt) }

pub third : Listed (λ i. (5 + 3 * i) % 16) 32 (4 ∷ 11 ∷ 16 ∷ 23 ∷ []) round3
unfolding round3
third = record { same = refl; inside = lit≤ tt; first = (lit< tt, lit< tt); second = (lit< tt, lit< tt); third = (lit< tt, lit< tt); fourth = (lit< tt, lit< tt) }

pub fourth : Listed (λ i. 7 * i % 16) 48 (6 ∷ 10 ∷ 15 ∷ 21 ∷ []) round4
unfolding round4
fourth = record { same = refl; inside = lit≤ tt; first = (lit< tt, lit< tt); second = (lit< tt, lit< tt); third = (lit< tt, lit< tt); fourth = (lit< tt, lit< tt) }
