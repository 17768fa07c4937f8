-- The curve that a payload names, and its record. Assumes nothing.
use mathlib.Core.Path.{◌≡◌, ap, ◌∙◌}
use mathlib.Core.List.{List}
use Prim.Native.Nat.{ℕ}
use lib.ListN.{get_or}
use Rattle.bsmp.specs.Base.{byte_at}
use Rattle.bsmp.specs.Board.{blank_curve}
use Rattle.bsmp.specs.Message.{curve_at}
use Rattle.bsmp.specs.declared.Curve.{Curve}
use Rattle.bsmp.specs.declared.CurveNumber.{CurveNumber}
use Rattle.curves.specs.Fits.{named_curve}

module _ (cs : List Curve) (p : List ℕ) (c : CurveNumber) (h : c ≡ curve_at p 0) where
  pub number : c.0 ≡ byte_at p 0
  number = ap (λ (x : CurveNumber). x.0) h

  -- x is its record
  module _ (x : Curve) (e : x ≡ get_or cs c.0 blank_curve) where
    pub named_record : x ≡ named_curve cs p
    named_record = e ∙ ap (λ (i : ℕ). get_or cs i blank_curve) number
