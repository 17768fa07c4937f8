-- A usable board, part by part and back, and its faults as an entry tests them. Proofs know Board's `rules` and `faults` by these laws alone, so that
-- a further rule is a further part. Assumes nothing.
use mathlib.Core.Path.{◌≡◌, refl, ap}
use mathlib.Core.Bool.{true, false, not}
use mathlib.Core.List.{List, [], ◌∷◌, map}
use Prim.Native.Nat.{ℕ}
use lib.ListN.{length}
use borrow.Author.Tests.{not-false}
use Rattle.bsmp.specs.Base.{every, first}
use Rattle.bsmp.specs.Board.{Table, State, with_groups, sizes_of, block_sizes, sum_sizes, fitting, whole_values, whole_curves, fit_lengths, whole_sums, rules, usable, usable_variables, usable_curves, usable_functions, usable_groups, faults}
use Rattle.bsmp.specs.Board.{is_type, usable_size, usable_variable, variable_rules}
use Rattle.bsmp.specs.declared.Variable.{Variable}
use Rattle.bsmp.specs.declared.Refusal.{Refusal}
use Rattle.bsmp.specs.declared.Refusal.TheVariants.{BoardUnusable}
use Rattle.bsmp.proofs.Bools.{or_false, and_true, all_at, not_so}
use Rattle.bsmp.proofs.Chain.{clear, first_next, first_stop, first_end}
use Rattle.bsmp.proofs.Store.{same_eq, same_refl}

pub record Usable (t : Table) (s : State) : Type 0 where
  pub variables : usable_variables t.variables ≡ true
  pub values : map length s.values ≡ sizes_of t.variables
  pub curves : usable_curves t.curves ≡ true
  pub blocks : map length s.blocks ≡ block_sizes t.curves
  pub lengths : fitting (block_sizes t.curves) s.lengths ≡ true
  pub sums : map length s.sums ≡ sum_sizes t.curves
  pub functions : usable_functions t.functions ≡ true
  pub groups : usable_groups (length t.variables) s.groups ≡ true

module _ (t : Table) (s : State) where
  pub usable_parts : usable t s ≡ true → Usable t s
  unfolding usable whole_values whole_curves fit_lengths whole_sums
  usable_parts h =
      let at = all_at (rules t s) h in
      record { variables = at 0; values = same_eq _ _ (at 1); curves = at 2; blocks = same_eq _ _ (at 3); lengths = at 4; sums = same_eq _ _ (at 5); functions = at 6; groups = at 7 }

  pub usable_whole : Usable t s → usable t s ≡ true
  unfolding usable whole_values whole_curves fit_lengths whole_sums
  usable_whole u = rw (u.variables, u.values, same_refl (sizes_of t.variables), u.curves, u.blocks, same_refl (block_sizes t.curves), u.lengths, u.sums, same_refl (sum_sizes t.curves), u.functions, u.groups)

  pub not_usable : (Usable t s → ⊥) → usable t s ≡ false
  not_usable n = not_so (usable t s) (λ h. n (usable_parts h))

  -- the faults: none on a usable board, refusal 1 on another
  pub clear_usable : clear (faults t s) → usable t s ≡ true
  unfolding faults
  clear_usable c = not-false _ (or_false _ _ c).0

  pub usable_clear : usable t s ≡ true → clear (faults t s)
  unfolding faults
  usable_clear h = rw h

  module _ {B : Type 0} (f : Refusal → B) (ok x : B) where
    pub faults_none : usable t s ≡ true → x ≡ ok → x ≡ first (faults t s) f ok
    unfolding faults
    faults_none h e = first_next _ _ _ _ _ _ _ (ap not h) (first_end f ok x e)

    pub faults_some : usable t s ≡ false → x ≡ f BoardUnusable → x ≡ first (faults t s) f ok
    unfolding faults
    faults_some h e = first_stop _ _ _ _ _ _ _ (ap not h) e

-- usability goes by lengths and groups alone, and by a block's length only as it fits
pub usable_fit : (t : Table) (s s' : State) → map length s.values ≡ map length s'.values → map length s.blocks ≡ map length s'.blocks
    → fitting (block_sizes t.curves) s.lengths ≡ fitting (block_sizes t.curves) s'.lengths → map length s.sums ≡ map length s'.sums
    → s.groups ≡ s'.groups → usable t s ≡ usable t s'
unfolding usable whole_values whole_curves fit_lengths whole_sums
usable_fit t s s' a b c d e = rw (a, b, c, d, e)

pub usable_by : (t : Table) (s s' : State) → map length s.values ≡ map length s'.values → map length s.blocks ≡ map length s'.blocks
    → s.lengths ≡ s'.lengths → map length s.sums ≡ map length s'.sums → s.groups ≡ s'.groups → usable t s ≡ usable t s'
usable_by t s s' a b c d e = usable_fit t s s' a b (ap (fitting (block_sizes t.curves)) c) d e

pub faults_by : (t : Table) (s s' : State) → usable t s ≡ usable t s' → faults t s ≡ faults t s'
unfolding faults
faults_by t s s' h = rw h

pub usable_regrouped : (t : Table) (s : State) (gs : List ℕ) → usable t s ≡ true → usable_groups (length t.variables) gs ≡ true → usable t (with_groups s gs) ≡ true
usable_regrouped t s gs h k =
    let u = usable_parts t s h in
    usable_whole t (with_groups s gs) (record { variables = u.variables; values = u.values; curves = u.curves; blocks = u.blocks; lengths = u.lengths; sums = u.sums; functions = u.functions; groups = k })

-- each size of usable variables is one
pub sizes_usable : (vs : List Variable) → usable_variables vs ≡ true → every usable_size (sizes_of vs) ≡ true
unfolding usable_variables
sizes_usable vs u = by vs (all_at (variable_rules vs) u 1)
  where
    by : (vs : List Variable) → every usable_variable vs ≡ true → every usable_size (sizes_of vs) ≡ true
    by [] h = refl
    by (v ∷ vs) h =
        let o = and_true (usable_variable v) _ h in
        rw (and_true (is_type v.writable) _ (and_true _ _ o.0).0).1 (by vs o.1)
