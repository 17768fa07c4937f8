-- What a usable record bounds, and the tests of a function and a group. Assumes nothing.
use mathlib.Core.Path.{◌≡◌}
use mathlib.Core.Bool.{Bool, true, ◌&&◌}
use Prim.Native.Nat.{ℕ, ◌^◌, ◌≤◌}
use lib.Dec.{leb, ltb}
use borrow.Author.Tests.{leb-true}
use Rattle.bsmp.specs.Base.{within}
use Rattle.bsmp.specs.Board.{is_type, usable_variable, usable_curve}
use Rattle.bsmp.specs.declared.Variable.{Variable}
use Rattle.bsmp.specs.declared.Curve.{Curve}
use Rattle.bsmp.specs.declared.Function.{Function}
use Rattle.bsmp.proofs.Bools.{and_true, inside}

pub variable_rules_lem : (v : Variable) → usable_variable v ≡ true → (v.writable ≤ 1) × ((1 ≤ v.size) × (v.size ≤ 127))
variable_rules_lem v u =
    let w = and_true (is_type v.writable) (within 1 127 v.size) (and_true _ _ u).0 in
    (leb-true _ _ w.0, inside 1 127 v.size w.1)

pub curve_rules_lem : (c : Curve) → usable_curve c ≡ true → ((1 ≤ c.size) × (c.size ≤ 4096)) × ((1 ≤ c.blocks) × (c.blocks ≤ 65536))
curve_rules_lem c u =
    let w = and_true _ (within 1 65536 c.blocks) u in
    (inside 1 4096 c.size (and_true (is_type c.writable) _ w.0).1, inside 1 65536 c.blocks w.1)

abbrev pub usable_function : Function → Bool
usable_function f = leb f.input 15 && leb f.output 15

abbrev pub usable_group : (variables : ℕ) → ℕ → Bool
usable_group n m = ltb 0 m && ltb m (2 ^ n)
