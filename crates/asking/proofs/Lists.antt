-- Laws of tests and lists that several pages share. Assumes nothing.
use mathlib.Core.Path.{◌≡◌, refl, ap₂}
use mathlib.Core.Bool.{Bool, true, ◌&&◌}
use mathlib.Core.List.{List, [], ◌∷◌, ◌++◌, map}
use Prim.Native.Nat.{ℕ, zero, suc, ◌+◌, ◌≤◌, ◌<◌}
use native.Mathlib.Omega.{arith}
use lib.ListN.{take, drop}
use borrow.Author.Tests.{le-leb}
use Rattle.bsmp.specs.Base.{up_from, every, within}
use Rattle.bsmp.specs.Board.{variable}
use Rattle.bsmp.specs.declared.VariableNumber.{VariableNumber}
use Rattle.bsmp.proofs.Bools.{and_true}

-- two constructors that differ, as `cc` tells it
pub clash : ◌≡◌ {A = ℕ} 0 1 → ⊥
clash h = omega arith

pub and_both : (a b : Bool) → a ≡ true → b ≡ true → (a && b) ≡ true
and_both a b h k = rw (h, k)

pub in_range_lem : (a b x : ℕ) → a ≤ x → x ≤ b → within a b x ≡ true
in_range_lem a b x h k = rw (le-leb a x h, le-leb x b k)

pub map_same : {A B : Type 0} (f g : A → B) (l : List A) → ((a : A) → f a ≡ g a) → map f l ≡ map g l
map_same f g l h i = map (λ a. h a i) l

-- numbers in order, and what holds of each of them
pub map_numbered : {A : Type 0} (f g : ℕ → A) (i n : ℕ) → ((k : ℕ) → i ≤ k → k < i + n → f k ≡ g k) → map f (up_from i n) ≡ map g (up_from i n)
map_numbered f g i zero h = refl
map_numbered f g i (suc n) h = ap₂ ◌∷◌ (h i (omega arith) (omega arith)) (map_numbered f g (suc i) n (λ k a b. h k (omega arith) (omega arith)))

pub every_numbered : (f : ℕ → Bool) (i n : ℕ) → ((k : ℕ) → i ≤ k → k < i + n → f k ≡ true) → every f (up_from i n) ≡ true
every_numbered f i zero h = refl
every_numbered f i (suc n) h = and_both _ _ (h i (omega arith) (omega arith)) (every_numbered f (suc i) n (λ k a b. h k (omega arith) (omega arith)))

-- the numbers of variables, and the variables again
pub numbers_again : (is : List VariableNumber) → map variable (map (λ i. i.0) is) ≡ is
numbers_again [] = refl
numbers_again (i ∷ is) = ap₂ ◌∷◌ refl (numbers_again is)

module _ {A : Type 0} (f : A → Bool) where
  pub every_append : (xs ys : List A) → every f xs ≡ true → every f ys ≡ true → every f (xs ++ ys) ≡ true
  every_append [] ys h k = k
  every_append (x ∷ xs) ys h k = let w : (f x ≡ true) × (every f xs ≡ true) = and_true _ _ h in and_both _ _ w.0 (every_append xs ys w.1 k)

  pub every_take : (n : ℕ) (xs : List A) → every f xs ≡ true → every f (take n xs) ≡ true
  every_take zero xs h = refl
  every_take (suc n) [] h = refl
  every_take (suc n) (x ∷ xs) h = let w : (f x ≡ true) × (every f xs ≡ true) = and_true _ _ h in and_both _ _ w.0 (every_take n xs w.1)

  pub every_drop : (n : ℕ) (xs : List A) → every f xs ≡ true → every f (drop n xs) ≡ true
  every_drop zero xs h = h
  every_drop (suc n) [] h = refl
  every_drop (suc n) (x ∷ xs) h = every_drop n xs (and_true (f x) _ h).1
