-- Three numbers: not the same as a list that has not three. Assumes nothing.
use mathlib.Core.Path.{◌≡◌, ap}
use mathlib.Core.Bool.{false}
use mathlib.Core.List.{List, [], ◌∷◌}
use Prim.Native.Nat.{ℕ}
use lib.ListN.{length}
use Rattle.bsmp.specs.Base.{same}
use Rattle.bsmp.proofs.Bools.{not_so}
use Rattle.bsmp.proofs.Store.{same_eq}

pub three_count : (p : List ℕ) (a b c : ℕ) → (length p ≡ 3 → ⊥) → same p (a ∷ b ∷ c ∷ []) ≡ false
three_count p a b c h = not_so (same p (a ∷ b ∷ c ∷ [])) (λ u. h (ap length (same_eq p (a ∷ b ∷ c ∷ []) u)))
