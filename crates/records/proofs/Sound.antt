-- What a usable board lets its caller lean on: the bounds of 01's table. Assumes nothing.
use mathlib.Core.Path.{◌≡◌}
use mathlib.Core.Bool.{true}
use mathlib.Core.List.{List, [], ◌∷◌}
use Prim.Native.Nat.{ℕ, ◌*◌, ◌^◌, ◌≤◌, ◌<◌}
use native.Mathlib.Omega.{arith}
use native.Mathlib.Nat.{mul-le-mul_right}
use mir.Syntax.{w16}
use mir.Val.{Fits}
use lib.Dec.{leb}
use lib.ListN.{length, get_or}
use borrow.Author.Tests.{leb-true, ltb-true}
use Rattle.bsmp.specs.Base.{sum, every}
use Rattle.bsmp.specs.Board.{Table, blank_curve, blank_function, layout, sizes_of, block_sizes, fitting, sum_sizes, usable_variable, variable_rules, usable_variables, usable_curve, curve_rules, usable_curves, usable_functions, usable_groups, usable}
use Rattle.bsmp.specs.Store.{Lent, held}
use Rattle.bsmp.specs.declared.Variable.{Variable}
use Rattle.bsmp.specs.declared.Curve.{Curve}
use Rattle.bsmp.specs.declared.Function.{Function}
use Rattle.bsmp.proofs.Bools.{and_true, inside, all_at}
use Rattle.bsmp.proofs.Store.{store_length, lengths_cut}
use Rattle.bsmp.proofs.Usable.{usable_parts, usable_whole}
use Rattle.records.specs.Lending.{curve_bytes, curve_blocks}
use Rattle.bsmp.proofs.Lists.{every_at}
use Rattle.records.proofs.Bounds.{curve_rules_lem, usable_function, usable_group}

pub record Sound (t : Table) (x : Lent) : Type 0 where
  pub variables : usable_variables t.variables ≡ true
  pub values : length x.values ≡ sum (sizes_of t.variables)
  pub curves : usable_curves t.curves ≡ true
  pub blocks : length x.blocks ≡ sum (block_sizes t.curves)
  pub lengths : fitting (block_sizes t.curves) x.lengths ≡ true
  pub sums : length x.sums ≡ sum (sum_sizes t.curves)
  pub functions : usable_functions t.functions ≡ true
  pub groups : usable_groups (length t.variables) x.groups ≡ true

pub usable_sound : (t : Table) (x : Lent) → usable t (held (layout t) x) ≡ true → Sound t x
usable_sound t x u =
    let p = usable_parts t (held (layout t) x) u in
    record {
      variables = p.variables;
      values = store_length (sizes_of t.variables) x.values p.values;
      curves = p.curves;
      blocks = store_length (block_sizes t.curves) x.blocks p.blocks;
      lengths = p.lengths;
      sums = store_length (sum_sizes t.curves) x.sums p.sums;
      functions = p.functions;
      groups = p.groups;
    }

pub sound_usable : (t : Table) (x : Lent) → Sound t x → usable t (held (layout t) x) ≡ true
sound_usable t x s = usable_whole t (held (layout t) x) (record {
  variables = s.variables;
  values = lengths_cut (sizes_of t.variables) x.values s.values;
  curves = s.curves;
  blocks = lengths_cut (block_sizes t.curves) x.blocks s.blocks;
  lengths = s.lengths;
  sums = lengths_cut (sum_sizes t.curves) x.sums s.sums;
  functions = s.functions;
  groups = s.groups;
})

module _ (vs : List Variable) (u : usable_variables vs ≡ true) where
  pub variables_most : length vs ≤ 64
  unfolding usable_variables
  variables_most = (inside 1 64 (length vs) (all_at (variable_rules vs) u 0)).1

  pub variables_each : every usable_variable vs ≡ true
  unfolding usable_variables
  variables_each = all_at (variable_rules vs) u 1

  pub variables_small : sum (sizes_of vs) ≤ 4096
  unfolding usable_variables
  variables_small = leb-true _ _ (all_at (variable_rules vs) u 2)

fewer : (cs : List Curve) → every usable_curve cs ≡ true → curve_blocks cs ≤ curve_bytes cs
unfolding sum
fewer [] h = omega arith
fewer (c ∷ cs) h =
    let w : (usable_curve c ≡ true) × (every usable_curve cs ≡ true) = and_true _ _ h in
    let o : 1 * c.blocks ≤ c.size * c.blocks = mul-le-mul_right c.blocks (curve_rules_lem c w.0).0.0 in
    omega (arith, o, fewer cs w.1)

module _ (cs : List Curve) (u : usable_curves cs ≡ true) where
  pub curves_most : length cs ≤ 8
  unfolding usable_curves
  curves_most = leb-true _ _ (all_at (curve_rules cs) u 0)

  pub curves_small : curve_bytes cs ≤ 65536
  unfolding usable_curves
  curves_small = leb-true _ _ (all_at (curve_rules cs) u 2)

  -- a block has a byte, so there are no more blocks than bytes
  pub blocks_small : curve_blocks cs ≤ 65536
  unfolding usable_curves
  blocks_small = omega (arith, curves_small, fewer cs (all_at (curve_rules cs) u 1))

  module _ (c : ℕ) (h : c < length cs) where
    usable_here : usable_curve (get_or cs c blank_curve) ≡ true
    unfolding usable_curves
    usable_here = every_at usable_curve cs c blank_curve (all_at (curve_rules cs) u 1) h

    pub curve_size : (1 ≤ (get_or cs c blank_curve).size) × ((get_or cs c blank_curve).size ≤ 4096)
    curve_size = (curve_rules_lem (get_or cs c blank_curve) usable_here).0

-- a block's size is one that a length can say
pub size_short : (cs : List Curve) (n i : ℕ) (x : Curve) → usable_curves cs ≡ true → n ≡ length cs → i < n → x ≡ get_or cs i blank_curve → Fits w16 x.size
size_short cs n i x u l h e = record { fits = rw e (omega (arith, curve_size cs u i (omega arith))) }

module _ (fs : List Function) (u : usable_functions fs ≡ true) where
  pub functions_most : length fs ≤ 16
  unfolding usable_functions
  functions_most = leb-true _ _ (and_true _ _ u).0

  pub function_bytes : (f : ℕ) → f < length fs → ((get_or fs f blank_function).input ≤ 15) × ((get_or fs f blank_function).output ≤ 15)
  unfolding usable_functions
  function_bytes f h =
      let w = and_true _ _ (every_at usable_function fs f blank_function (and_true (leb (length fs) 16) _ u).1 h) in
      (leb-true _ _ w.0, leb-true _ _ w.1)

module _ (n : ℕ) (gs : List ℕ) (u : usable_groups n gs ≡ true) where
  pub groups_most : length gs ≤ 5
  unfolding usable_groups
  groups_most = leb-true _ _ (and_true _ _ u).0

  pub group_members_lem : (g : ℕ) → g < length gs → (0 < get_or gs g 0) × (get_or gs g 0 < 2 ^ n)
  unfolding usable_groups
  group_members_lem g h =
      let w = and_true _ _ (every_at (usable_group n) gs g 0 (and_true (leb (length gs) 5) _ u).1 h) in
      (ltb-true _ _ w.0, ltb-true _ _ w.1)
