-- The variable that a payload's byte names: its number, and its change. Assumes nothing.
use mathlib.Core.Path.{◌≡◌, sym, ap, ◌∙◌}
use mathlib.Core.List.{List, [], ◌∷◌}
use Prim.Native.Nat.{ℕ, ◌+◌, ◌≤◌, ◌<◌}
use native.Mathlib.Omega.{arith}
use lib.ListN.{length, drop}
use Rattle.bsmp.specs.Base.{cut, byte_at}
use Rattle.bsmp.specs.Message.{variable_at, edited}
use Rattle.bsmp.specs.declared.Operation.{Operation}
use Rattle.bsmp.specs.declared.VariableNumber.{VariableNumber}
use Rattle.sets.specs.Members.{size_at}
use Rattle.variables.specs.Fits.{OneFits}

module _ (p : List ℕ) (j : ℕ) (i : VariableNumber) (h : i ≡ variable_at p j) where
  number : i.0 ≡ byte_at p j
  number = ap (λ (x : VariableNumber). x.0) h

  pub named_below : (n : ℕ) → byte_at p j < n → i.0 < n
  named_below n l = rw number l

  pub named_within : (n : ℕ) → byte_at p j < n → i.0 ≤ n
  named_within n l = omega (arith, number)

module _ (ns p : List ℕ) (f : ℕ) (i : VariableNumber) (h : i ≡ variable_at p 0) where
  pub named_fits : OneFits ns p f → length p ≡ f + size_at ns i
  named_fits o = o.whole ∙ ap (λ (x : VariableNumber). f + size_at ns x) (sym h)

  pub named_edited : (op : Operation) (s s' : List ℕ) → cut ns s' ≡ edited op (i ∷ []) (drop f p ∷ []) (cut ns s)
      → cut ns s' ≡ edited op (variable_at p 0 ∷ []) (drop f p ∷ []) (cut ns s)
  named_edited op s s' e = rw h at e
