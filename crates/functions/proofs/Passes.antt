-- What a pass of 50's tests tells, on every board with these functions. Assumes nothing.
use mathlib.Core.Path.{◌≡◌}
use mathlib.Core.Bool.{false}
use mathlib.Core.List.{List}
use Prim.Native.Nat.{ℕ, ◌<◌}
use lib.ListN.{length}
use borrow.Author.Tests.{ltb-true, ltb-false, not-false}
use Rattle.bsmp.specs.Message.{function_at, line, tests_of}
use Rattle.bsmp.specs.declared.Curve.{Curve}
use Rattle.bsmp.specs.declared.Function.{Function}
use Rattle.bsmp.specs.declared.Command.TheVariants.{RunFunction}
use Rattle.bsmp.proofs.Chain.{broken_at, clear_at}
use Rattle.parts.specs.Parts.{layout_of, Passed}
use Rattle.parts.proofs.Passed.{passed_clear}

module _ (ns : List ℕ) (w : ℕ) (cs : List Curve) (fs : List Function) (gs p : List ℕ) (h : Passed (layout_of ns w cs fs) gs p RunFunction) where
  passed_at : (j : ℕ) → broken_at (tests_of (line (layout_of ns w cs fs) gs p RunFunction) h.marks) j ≡ false
  passed_at j = clear_at (tests_of (line (layout_of ns w cs fs) gs p RunFunction) h.marks) (passed_clear (layout_of ns w cs fs) gs p RunFunction h) j

  -- each by itself, and all
  pub run_some : 0 < length p
  unfolding line
  run_some = ltb-false _ _ (passed_at 0)

  pub run_named : (function_at p 0).0 < length fs
  unfolding line
  run_named = ltb-true _ _ (not-false _ (passed_at 1))
