-- What the tests of the learned table meet, one return at a time. Assumes nothing.
use mathlib.Core.Path.{◌≡◌, refl, ap, ◌∙◌}
use mathlib.Core.Bool.{Bool, true, false, cond, ◌&&◌, and-false}
use Rattle.std.proofs.Common.{Option, Some, None, is_some, option_map}
use Rattle.std.specs.Bool.{then_some}
use mathlib.Core.List.{List, [], ◌∷◌, map}
use Prim.Native.Nat.{ℕ, ◌%◌, ◌≤◌}
use native.Mathlib.Omega.{arith}
use lib.Dec.{leb}
use lib.ListN.{length, get_or}
use borrow.Author.Tests.{leb-true, le-leb}
use Rattle.bsmp.specs.Base.{every}
use Rattle.bsmp.specs.Board.{usable_size, usable_curves, usable_functions, usable_groups}
use Rattle.bsmp.proofs.Bools.{and_true, inside, all_at, bool_eq, not_so}
use Rattle.asking.specs.Learned.{Learned, size_rules, usable_sizes, usable_learned}
use Rattle.records.specs.Lending.{curves_of, functions_of, groups_by, groups_of}
use Rattle.records.proofs.Lending.{made_count}
use Rattle.records.proofs.Sound.{curves_most, functions_most, groups_most}
use Rattle.rules.specs.declared.CurveTotal.{CurveTotal}
use Rattle.rules.specs.Totals.{curve_total, curves_total}
use Rattle.learned.specs.Table.{has_places, known_table, held_table}
use Rattle.learned.specs.declared.LearnedTable.{LearnedTable}
use Rattle.learned.specs.declared.Known.{Known}
use Rattle.learned.proofs.Fronts.{size_count, curve_count, function_count}

-- bytes of at most 127 are sizes themselves, and no size is above
low_sizes : (l : List ℕ) → every (λ b. leb b 127) l ≡ true → map (λ b. b % 128) l ≡ l
low_sizes [] h = refl
low_sizes (b ∷ l) h =
    let w : (leb b 127 ≡ true) × (every (λ b. leb b 127) l ≡ true) = and_true (leb b 127) _ h in
    let e : b % 128 ≡ b = omega (arith, leb-true b 127 w.0) in
    rw (e, low_sizes l w.1)

sizes_low : (l : List ℕ) → every usable_size l ≡ true → every (λ b. leb b 127) l ≡ true
sizes_low [] h = refl
sizes_low (b ∷ l) h =
    let w : (usable_size b ≡ true) × (every usable_size l ≡ true) = and_true (usable_size b) _ h in
    rw (and_true (leb 1 b) _ w.0).1 (sizes_low l w.1)

all_sizes : (l : List ℕ) → (every (λ b. leb b 127) l && usable_sizes (map (λ b. b % 128) l)) ≡ usable_sizes l
unfolding usable_sizes
all_sizes l = bool_eq _ _ there back
  where
    there : (every (λ b. leb b 127) l && usable_sizes (map (λ b. b % 128) l)) ≡ true → usable_sizes l ≡ true
    there h = let w = and_true (every (λ b. leb b 127) l) _ h in rw (low_sizes l w.0) at w.1

    back : usable_sizes l ≡ true → (every (λ b. leb b 127) l && usable_sizes (map (λ b. b % 128) l)) ≡ true
    back h =
        let o : every (λ b. leb b 127) l ≡ true = sizes_low l (all_at (size_rules l) h 1) in
        rw (o, low_sizes l o) h

module _ (t : LearnedTable) where
  abbrev x : Learned
  x = held_table t

  -- one that keeps the limits has no more of each than there are places
  few : usable_learned (held_table t) ≡ true → has_places t ≡ true
  unfolding usable_learned usable_sizes has_places
  few h =
      let parts : List Bool = usable_sizes x.layout.sizes ∷ usable_curves x.layout.curves ∷ usable_functions x.layout.functions ∷ usable_groups (length x.layout.sizes) x.groups ∷ [] in
      let at : (i : ℕ) → get_or parts i true ≡ true = all_at parts h in
      let v : t.variables ≤ 64 = omega (arith, size_count t.variables t.sizes, inside 1 64 (length x.layout.sizes) (all_at (size_rules x.layout.sizes) (at 0) 0)) in
      let g : t.groups ≤ 5 = omega (arith, made_count t.groups t.sets, groups_most (length x.layout.sizes) x.groups (at 3)) in
      let c : t.curves ≤ 8 = omega (arith, curve_count t.curves t.shapes, curves_most x.layout.curves (at 1)) in
      let f : t.functions ≤ 16 = omega (arith, function_count t.functions t.calls, functions_most x.layout.functions (at 2)) in
      rw (le-leb t.variables 64 v, le-leb t.groups 5 g, le-leb t.curves 8 c, le-leb t.functions 16 f)

  pub no_places : (r : Option Known) → r ≡ None → None ≡ cond (has_places t) (Some x) None → option_map known_table r ≡ cond (usable_learned x) (Some x) None
  no_places r e h =
      let o : usable_learned x ≡ false = not_so (usable_learned x) (λ u. absurd (places_none (has_places t) (few u) h)) in
      rw (e, o)
    where
      places_none : (b : Bool) → b ≡ true → None ≡ cond b (Some x) None → ⊥
      places_none true e h = cc
      places_none false e h = cc

  -- what is known, as long as there are places
  module _ (k : Known) (e : Some (known_table k) ≡ cond (has_places t) (Some x) None) where
    same : (b : Bool) (y : Learned) → Some y ≡ cond b (Some x) None → y ≡ x
    same true y h = cc
    same false y h = cc

    all : known_table k ≡ x
    all = same (has_places t) (known_table k) e

    Unusable : Type 0
    Unusable = None ≡ cond (usable_learned x) (Some x) None

    -- what the tests of its parts gave
    module _ (v : Bool) (ve : v ≡ (every (λ b. leb b 127) k.sizes.now && usable_sizes (map (λ b. b % 128) k.sizes.now))) where
      sizes : v ≡ usable_sizes x.layout.sizes
      sizes = ve ∙ all_sizes k.sizes.now ∙ ap (λ (y : Learned). usable_sizes y.layout.sizes) all

      pub bad_sizes : v ≡ false → None ≡ cond (usable_learned x) (Some x) None
      unfolding usable_learned
      bad_sizes h = rw (← sizes, h)

      module _ (c : Option CurveTotal) (ce : c ≡ curves_total (curves_of k.shapes.now)) where
        curves : is_some c ≡ usable_curves x.layout.curves
        curves = ap is_some ce ∙ some_if (usable_curves (curves_of k.shapes.now)) ∙ ap (λ (y : Learned). usable_curves y.layout.curves) all
          where
            some_if : (b : Bool) → is_some (then_some b (curve_total (curves_of k.shapes.now))) ≡ b
            some_if true = refl
            some_if false = refl

        pub bad_curves : is_some c ≡ false → None ≡ cond (usable_learned x) (Some x) None
        unfolding usable_learned
        bad_curves h = simp (← curves, h, and-false)

        module _ (f : Bool) (fe : f ≡ usable_functions (functions_of k.calls.now)) where
          functions : f ≡ usable_functions x.layout.functions
          functions = fe ∙ ap (λ (y : Learned). usable_functions y.layout.functions) all

          pub bad_functions : f ≡ false → None ≡ cond (usable_learned x) (Some x) None
          unfolding usable_learned
          bad_functions h = simp (← functions, h, and-false)

          module _ (g : Bool) (ge : g ≡ usable_groups (length k.sizes.now) (groups_of (groups_by t.groups t.sets))) where
            groups : g ≡ usable_groups (length x.layout.sizes) x.groups
            groups = ge ∙ ap (λ (y : Learned). usable_groups (length y.layout.sizes) x.groups) all

            pub bad_groups : g ≡ false → None ≡ cond (usable_learned x) (Some x) None
            unfolding usable_learned
            bad_groups h = simp (← groups, h, and-false)

            pub all_good : v ≡ true → is_some c ≡ true → f ≡ true → g ≡ true → Some (known_table k) ≡ cond (usable_learned x) (Some x) None
            unfolding usable_learned
            all_good a b d o = rw (all, ← sizes, ← curves, ← functions, ← groups, a, b, d, o)
