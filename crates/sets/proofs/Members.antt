-- The members of a set from a variable on, as a walk meets them, and two sets of the same members. Assumes nothing.
use mathlib.Core.Path.{◌≡◌, refl, sym, ap, ap₂, ◌∙◌}
use mathlib.Core.Bool.{Bool, false, cond}
use mathlib.Core.List.{List, [], ◌∷◌, map}
use Prim.Native.Nat.{ℕ, zero, suc, ◌+◌, ◌-◌, ◌≤◌, ◌<◌}
use native.Mathlib.Omega.{arith}
use native.Mathlib.Numerals.{add-one}
use Rattle.bsmp.specs.Base.{up_from, only}
use Rattle.bsmp.specs.Board.{variable, marked}
use Rattle.bsmp.specs.declared.VariableNumber.{VariableNumber}
use Rattle.sets.specs.Members.{members_below}

-- a test that fails from a variable on chooses none after it
pub only_none : (f : VariableNumber → Bool) (i n : ℕ) → ((k : ℕ) → i ≤ k → f (variable k) ≡ false) → only f (map variable (up_from i n)) ≡ []
only_none f i zero e = refl
only_none f i (suc n) e = rw (e i (omega arith)) (only_none f (suc i) n (λ k h. e k (omega (arith, h))))

module _ (m n : ℕ) where
  unfoldable pub members_from : ℕ → List VariableNumber
  members_from i = only (marked m) (map variable (up_from i (n - i)))

  pub from_next : (i : ℕ) → i < n → members_from i ≡ cond (marked m (variable i)) (variable i ∷ members_from (i + 1)) (members_from (i + 1))
  unfolding members_from
  from_next i h =
      let k : n - i ≡ suc (n - (i + 1)) = omega arith in
      rw (k, add-one)

  pub from_all : members_from 0 ≡ members_below m n
  unfolding members_from members_below
  from_all =
      let k : n - 0 ≡ n = omega arith in
      rw k

  -- where none stands before a variable, and where none is left from it on
  pub from_start : (i : ℕ) → i ≤ n → ((k : ℕ) → k < i → marked m (variable k) ≡ false) → members_below m n ≡ members_from i
  from_start zero h e = sym from_all
  from_start (suc i) h e =
      let l : i < n = omega (arith, h) in
      from_start i (omega (arith, h)) (λ k o. e k (omega (arith, o))) ∙ from_next i l
      ∙ ap (λ (b : Bool). cond b (variable i ∷ members_from (i + 1)) (members_from (i + 1))) (e i (omega arith)) ∙ ap members_from (add-one i)

  pub from_none : (i : ℕ) → ((k : ℕ) → i ≤ k → marked m (variable k) ≡ false) → members_from i ≡ []
  unfolding members_from
  from_none i e = only_none (marked m) i (n - i) e

-- tests that agree on all variables below a number choose the same of them
pub only_same : (f h : VariableNumber → Bool) (i n : ℕ) → ((k : ℕ) → k < i + n → f (variable k) ≡ h (variable k))
    → only f (map variable (up_from i n)) ≡ only h (map variable (up_from i n))
only_same f h i zero e = refl
only_same f h i (suc n) e =
    ap₂ (λ (b : Bool) (x : List VariableNumber). cond b (variable i ∷ x) x) (e i (omega arith)) (only_same f h (suc i) n (λ k l. e k (omega (arith, l))))
