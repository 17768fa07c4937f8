-- A number that no row of a table has is what stands for all others: what a match's last arm is told, for tables of any length. Assumes nothing.
use mathlib.Core.Path.{◌≡◌, refl}
use mathlib.Core.List.{List, [], ◌∷◌}
use Prim.Native.Nat.{ℕ}
use borrow.Author.Tests.{ne_eqb}
use Rattle.bsmp.specs.Codes.{coded}

module _ {A : Type 0} (other : A) (n : ℕ) where
  -- a fact for each row, the last row's outermost
  abbrev pub Missed : List (ℕ × A) → Type 0 → Type 0
  Missed [] before = before
  Missed (x ∷ xs) before = Missed xs (before × (n ≡ x.0 → ⊥))

  earlier : (xs : List (ℕ × A)) (before : Type 0) → Missed xs before → before
  earlier [] before h = h
  earlier (x ∷ xs) before h = (earlier xs (before × (n ≡ x.0 → ⊥)) h).0

  pub coded_other : (xs : List (ℕ × A)) (before : Type 0) → Missed xs before → other ≡ coded xs other n
  coded_other [] before h = refl
  coded_other (x ∷ xs) before h =
      let here : Type 0 = before × (n ≡ x.0 → ⊥) in
      rw (ne_eqb n x.0 (earlier xs here h).1) (coded_other xs here h)
