-- What a pass of a command's tests tells its change and its answer, on every board with these sizes. Assumes nothing.
use mathlib.Core.Path.{◌≡◌}
use mathlib.Core.Bool.{false}
use mathlib.Core.List.{List}
use Prim.Native.Nat.{ℕ, ◌<◌}
use native.Mathlib.Omega.{arith}
use lib.ListN.{length}
use borrow.Author.Tests.{ltb-true, ltb-false, eqb-true, not-false}
use Rattle.bsmp.specs.Base.{byte_at}
use Rattle.bsmp.specs.Message.{line, tests_of, writes_variable, variable_at, no_variable}
use Rattle.bsmp.specs.declared.Curve.{Curve}
use Rattle.bsmp.specs.declared.Function.{Function}
use Rattle.bsmp.specs.declared.Command.{Command}
use Rattle.bsmp.specs.declared.Command.TheVariants.{ReadVariable, WriteVariable, MaskVariable, WriteRead}
use Rattle.bsmp.proofs.Bools.{or_false}
use Rattle.bsmp.proofs.Chain.{broken_at, clear_at}
use Rattle.parts.specs.Parts.{layout_of, Passed}
use Rattle.parts.proofs.Passed.{passed_clear}
use Rattle.variables.specs.Fits.{OneFits}

module _ (ns : List ℕ) (w : ℕ) (cs : List Curve) (fs : List Function) (gs p : List ℕ) where
  -- test j of the command passed
  passed_at : (k : Command) (h : Passed (layout_of ns w cs fs) gs p k) (j : ℕ) → broken_at (tests_of (line (layout_of ns w cs fs) gs p k) h.marks) j ≡ false
  passed_at k h j = clear_at (tests_of (line (layout_of ns w cs fs) gs p k) h.marks) (passed_clear (layout_of ns w cs fs) gs p k h) j

  pub read_some : Passed (layout_of ns w cs fs) gs p ReadVariable → 0 < length p
  unfolding line
  read_some h =
      let e : length p ≡ 1 = eqb-true _ _ (not-false _ (passed_at ReadVariable h 0)) in
      omega arith

  pub read_known : Passed (layout_of ns w cs fs) gs p ReadVariable → byte_at p 0 < length ns
  unfolding line
  read_known h = ltb-true _ _ (not-false _ (passed_at ReadVariable h 1))

  pub write_fits : Passed (layout_of ns w cs fs) gs p WriteVariable → OneFits ns p 1
  unfolding line writes_variable
  write_fits h = record {
    some = ltb-false _ _ (passed_at WriteVariable h 0);
    known = ltb-true _ _ (not-false _ (passed_at WriteVariable h 1));
    whole = eqb-true _ _ (not-false _ (passed_at WriteVariable h 2));
  }

  pub mask_second : Passed (layout_of ns w cs fs) gs p MaskVariable → 1 < length p
  unfolding line
  mask_second h = ltb-false _ _ (passed_at MaskVariable h 0)

  pub mask_fits : Passed (layout_of ns w cs fs) gs p MaskVariable → OneFits ns p 2
  unfolding line writes_variable
  mask_fits h = record {
    some = omega (arith, mask_second h);
    known = ltb-true _ _ (not-false _ (passed_at MaskVariable h 1));
    whole = eqb-true _ _ (not-false _ (passed_at MaskVariable h 3));
  }

  pub write_read_second : Passed (layout_of ns w cs fs) gs p WriteRead → 1 < length p
  unfolding line
  write_read_second h = ltb-false _ _ (passed_at WriteRead h 0)

  both_known : Passed (layout_of ns w cs fs) gs p WriteRead → (byte_at p 0 < length ns) × (byte_at p 1 < length ns)
  unfolding line
  both_known h =
      let o = or_false (no_variable (layout_of ns w cs fs) (variable_at p 0)) _ (passed_at WriteRead h 1) in
      (ltb-true _ _ (not-false _ o.0), ltb-true _ _ (not-false _ o.1))

  pub write_read_known : Passed (layout_of ns w cs fs) gs p WriteRead → byte_at p 1 < length ns
  write_read_known h = (both_known h).1

  pub write_read_fits : Passed (layout_of ns w cs fs) gs p WriteRead → OneFits ns p 2
  unfolding line writes_variable
  write_read_fits h = record {
    some = omega (arith, write_read_second h);
    known = (both_known h).0;
    whole = eqb-true _ _ (not-false _ (passed_at WriteRead h 2));
  }
