-- What a pass of a command's tests tells its change and its answer, on every board with these curves. Assumes nothing.
use mathlib.Core.Path.{◌≡◌}
use mathlib.Core.Bool.{false}
use mathlib.Core.List.{List}
use Prim.Native.Nat.{ℕ, ◌-◌, ◌≤◌}
use native.Mathlib.Omega.{arith}
use lib.ListN.{length}
use borrow.Author.Tests.{ltb-true, ltb-false, eqb-true, not-false}
use Rattle.bsmp.specs.Message.{line, tests_of}
use Rattle.bsmp.specs.declared.Curve.{Curve}
use Rattle.bsmp.specs.declared.Function.{Function}
use Rattle.bsmp.specs.declared.Command.{Command}
use Rattle.bsmp.specs.declared.Command.TheVariants.{ReadSum, ReadBlock, WriteBlock, RenewSum}
use Rattle.bsmp.proofs.Bools.{inside}
use Rattle.bsmp.proofs.Chain.{broken_at, clear_at}
use Rattle.parts.specs.Parts.{layout_of, Passed}
use Rattle.parts.proofs.Passed.{passed_clear}
use Rattle.curves.specs.Fits.{named_curve, BlockRead, BlockFits, CurveNamed}

module _ (ns : List ℕ) (w : ℕ) (cs : List Curve) (fs : List Function) (gs p : List ℕ) where
  -- test j of the command passed
  passed_at : (k : Command) (h : Passed (layout_of ns w cs fs) gs p k) (j : ℕ) → broken_at (tests_of (line (layout_of ns w cs fs) gs p k) h.marks) j ≡ false
  passed_at k h j = clear_at (tests_of (line (layout_of ns w cs fs) gs p k) h.marks) (passed_clear (layout_of ns w cs fs) gs p k h) j

  pub read_fits : Passed (layout_of ns w cs fs) gs p ReadBlock → BlockRead cs p
  unfolding line
  read_fits h =
      let e : length p ≡ 3 = eqb-true _ _ (not-false _ (passed_at ReadBlock h 0)) in
      record {
        named = record {
          front = omega arith;
          known = ltb-true _ _ (not-false _ (passed_at ReadBlock h 1));
          below = ltb-true _ _ (not-false _ (passed_at ReadBlock h 2));
        };
        whole = e;
      }

  pub write_fits : Passed (layout_of ns w cs fs) gs p WriteBlock → BlockFits cs p
  unfolding line
  write_fits h =
      let front : 3 ≤ length p = ltb-false _ _ (passed_at WriteBlock h 0) in
      let o = inside 1 (named_curve cs p).size (length p - 3) (not-false _ (passed_at WriteBlock h 3)) in
      record {
        named = record {
          front = front;
          known = ltb-true _ _ (not-false _ (passed_at WriteBlock h 1));
          below = ltb-true _ _ (not-false _ (passed_at WriteBlock h 2));
        };
        some = omega arith;
        fits = omega arith;
      }

  pub sum_read : Passed (layout_of ns w cs fs) gs p ReadSum → CurveNamed cs p
  unfolding line
  sum_read h =
      let e : length p ≡ 1 = eqb-true _ _ (not-false _ (passed_at ReadSum h 0)) in
      record { some = omega arith; known = ltb-true _ _ (not-false _ (passed_at ReadSum h 1)) }

  pub sum_renewed : Passed (layout_of ns w cs fs) gs p RenewSum → CurveNamed cs p
  unfolding line
  sum_renewed h =
      let e : length p ≡ 1 = eqb-true _ _ (not-false _ (passed_at RenewSum h 0)) in
      record { some = omega arith; known = ltb-true _ _ (not-false _ (passed_at RenewSum h 1)) }
