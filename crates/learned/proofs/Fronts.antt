-- So many records are the front of their places, as long as there are that many. Assumes nothing.
use mathlib.Core.Path.{◌≡◌, refl, sym, ap, ap₂, ◌∙◌}
use mathlib.Core.List.{List, ◌∷◌, map}
use Prim.Native.Nat.{ℕ, zero, suc, ◌+◌, ◌*◌, ◌/◌, ◌≤◌, ◌<◌}
use native.Mathlib.Omega.{arith}
use lib.ListN.{length, take, get_or}
use mathlib.Core.Bool.{Bool, true, false, cond, and-false}
use lib.Dec.{leb}
use mir.Syntax.{w64}
use mir.Val.{Fits}
use Rattle.std.proofs.lemmas.Nat.{mul-le}
use Rattle.std.proofs.Math.Nat.{le-mul_of_pos_right}
use Rattle.std.proofs.Common.{Option, Some, None, option_map}
use lib.Seq.{length-take-le, get_or-take}
use borrow.Author.Tests.{lt-ltb, leb-true, leb-false, le-leb, lt-leb}
use Rattle.bsmp.specs.Base.{up_from}
use Rattle.records.specs.Lending.{numbered, curve_at, function_at, curves_of, functions_of, groups_by, groups_of}
use Rattle.records.proofs.Walk.{length_numbered}
use Rattle.records.proofs.Lending.{groups_lent}
use Rattle.learned.specs.Table.{sizes_in, curves_in, functions_in, has_places, table_in, known_table, held_table}
use Rattle.learned.specs.declared.LearnedTable.{LearnedTable}
use Rattle.learned.specs.declared.Known.{Known}

-- so many records of w places each, among l places
module _ (n w l : ℕ) where
  pub too_many : 0 < w → l < n → leb (n * w) l ≡ false
  too_many p h = lt-leb (n * w) l (omega (arith, le-mul_of_pos_right n p))

  pub few_fit : w ≤ 3 → l ≤ 96 → n ≤ l → Fits w64 (n * w)
  few_fit a b h = record { fits = omega (arith, mul-le n w 96 3 (omega arith) a) }

-- things that agree at each number
module _ {A : Type 0} (f g : ℕ → A) where
  same_up : (k n : ℕ) → ((i : ℕ) → i < k + n → f i ≡ g i) → map f (up_from k n) ≡ map g (up_from k n)
  same_up k zero h = refl
  same_up k (suc n) h = ap₂ ◌∷◌ (h k (omega arith)) (same_up (suc k) n (λ i l. h i (omega arith)))

  same_numbered : (n m : ℕ) → n ≡ m → ((i : ℕ) → i < n → f i ≡ g i) → numbered f n ≡ numbered g m
  same_numbered n m e h = same_up 0 n (λ i l. h i (omega arith)) ∙ ap (numbered g) e

module _ (n : ℕ) where
  pub size_count : (ss : List ℕ) → n ≡ length (sizes_in n ss)
  unfolding sizes_in
  size_count ss = sym (length_numbered (λ i. get_or ss i 0) n)

  pub curve_count : (ns : List ℕ) → n ≡ length (curves_in n ns)
  unfolding curves_in
  curve_count ns = sym (length_numbered (curve_at ns) n)

  pub function_count : (ns : List ℕ) → n ≡ length (functions_in n ns)
  unfolding functions_in
  function_count ns = sym (length_numbered (function_at ns) n)

  -- sizes are numbers in places, as the sets of the groups are
  pub sizes_front : (ss : List ℕ) → n ≤ length ss → sizes_in n ss ≡ take n ss
  unfolding sizes_in groups_of
  sizes_front ss h = groups_lent (groups_by n ss) h

  pub curves_front : (ns : List ℕ) → 3 * n ≤ length ns → curves_in n ns ≡ curves_of (take (3 * n) ns)
  unfolding curves_in curves_of
  curves_front ns h = same_numbered (curve_at ns) (curve_at (take (3 * n) ns)) n ((length (take (3 * n) ns) + 2) / 3) (omega (arith, l)) at
    where
      l : length (take (3 * n) ns) ≡ 3 * n
      l = length-take-le (3 * n) ns h

      at : (c : ℕ) → c < n → curve_at ns c ≡ curve_at (take (3 * n) ns) c
      at c k =
          let a : c < length ns / 3 = omega arith in
          let b : c < length (take (3 * n) ns) / 3 = omega (arith, l) in
          let x : 3 * c < 3 * n = omega arith in
          let y : 3 * c + 1 < 3 * n = omega arith in
          let z : 3 * c + 2 < 3 * n = omega arith in
          rw (lt-ltb _ _ a, lt-ltb _ _ b, get_or-take (3 * n) ns (3 * c) 0 x, get_or-take (3 * n) ns (3 * c + 1) 0 y, get_or-take (3 * n) ns (3 * c + 2) 0 z)

  pub functions_front : (ns : List ℕ) → 2 * n ≤ length ns → functions_in n ns ≡ functions_of (take (2 * n) ns)
  unfolding functions_in functions_of
  functions_front ns h = same_numbered (function_at ns) (function_at (take (2 * n) ns)) n ((length (take (2 * n) ns) + 1) / 2) (omega (arith, l)) at
    where
      l : length (take (2 * n) ns) ≡ 2 * n
      l = length-take-le (2 * n) ns h

      at : (f : ℕ) → f < n → function_at ns f ≡ function_at (take (2 * n) ns) f
      at f k =
          let a : f < length ns / 2 = omega arith in
          let b : f < length (take (2 * n) ns) / 2 = omega (arith, l) in
          let x : 2 * f < 2 * n = omega arith in
          let y : 2 * f + 1 < 2 * n = omega arith in
          rw (lt-ltb _ _ a, lt-ltb _ _ b, get_or-take (2 * n) ns (2 * f) 0 x, get_or-take (2 * n) ns (2 * f + 1) 0 y)

-- what a front of places says of the places: there are so many, and it is those
module _ {A : Type 0} (b : Bool) (s : List A) where
  pub front_off : None ≡ cond b (Some s) None → b ≡ false
  front_off e = by b e
    where
      by : (b : Bool) → None ≡ cond b (Some s) None → b ≡ false
      by true e = cc
      by false e = refl

  pub front_on : (r : List A) → Some r ≡ cond b (Some s) None → (b ≡ true) × (r ≡ s)
  front_on r e = by b e
    where
      by : (b : Bool) → Some r ≡ cond b (Some s) None → (b ≡ true) × (r ≡ s)
      by true e = (refl, cc)
      by false e = cc

-- the table, lent by its fronts, as far as there are places
abbrev Told : LearnedTable → Option Known → Type 0
Told t r = option_map known_table r ≡ cond (has_places t) (Some (held_table t)) None

abbrev Front : {A : Type 0} (r : Option (List A)) (l : List A) (n k : ℕ) → Type 0
Front r l n k = r ≡ cond (leb (n * k) (length l)) (Some (take (n * k) l)) None

module _ (t : LearnedTable) where
  nothing : (r : Option Known) → r ≡ None → has_places t ≡ false → Told t r
  nothing r e h = rw (e, h)

  pub no_sizes : (r : Option Known) → r ≡ None → length t.sizes ≡ 64 → Front None t.sizes t.variables 1 → Told t r
  unfolding has_places
  no_sizes r e l h = let o : 64 < t.variables = omega (arith, leb-false _ _ (front_off _ _ h)) in nothing r e (rw (lt-leb t.variables 64 o))

  pub no_sets : (r : Option Known) → r ≡ None → length t.sets ≡ 5 → Front None t.sets t.groups 1 → Told t r
  unfolding has_places
  no_sets r e l h = let o : 5 < t.groups = omega (arith, leb-false _ _ (front_off _ _ h)) in nothing r e (simp (lt-leb t.groups 5 o, and-false))

  pub no_shapes : (r : Option Known) → r ≡ None → length t.shapes ≡ 24 → Front None t.shapes t.curves 3 → Told t r
  unfolding has_places
  no_shapes r e l h = let o : 8 < t.curves = omega (arith, leb-false _ _ (front_off _ _ h)) in nothing r e (simp (lt-leb t.curves 8 o, and-false))

  pub no_calls : (r : Option Known) → r ≡ None → length t.calls ≡ 32 → Front None t.calls t.functions 2 → Told t r
  unfolding has_places
  no_calls r e l h = let o : 16 < t.functions = omega (arith, leb-false _ _ (front_off _ _ h)) in nothing r e (simp (lt-leb t.functions 16 o, and-false))

  pub all_fronts : (ss gs cs fs : List ℕ) → length t.sizes ≡ 64 → length t.sets ≡ 5 → length t.shapes ≡ 24 → length t.calls ≡ 32
      → Front (Some ss) t.sizes t.variables 1 → Front (Some gs) t.sets t.groups 1 → Front (Some cs) t.shapes t.curves 3 → Front (Some fs) t.calls t.functions 2
      → Some (table_in ss t.writable gs cs fs) ≡ cond (has_places t) (Some (held_table t)) None
  unfolding has_places
  all_fronts ss gs cs fs x y z w a b c d =
      let v = front_on _ _ ss a in
      let g = front_on _ _ gs b in
      let n = front_on _ _ cs c in
      let f = front_on _ _ fs d in
      let vl : t.variables ≤ 64 = omega (arith, leb-true _ _ v.0) in
      let gl : t.groups ≤ 5 = omega (arith, leb-true _ _ g.0) in
      let nl : t.curves ≤ 8 = omega (arith, leb-true _ _ n.0) in
      let fl : t.functions ≤ 16 = omega (arith, leb-true _ _ f.0) in
      let v1 : t.variables * 1 ≡ t.variables = omega arith in
      let g1 : t.groups * 1 ≡ t.groups = omega arith in
      let n3 : t.curves * 3 ≡ 3 * t.curves = omega arith in
      let f2 : t.functions * 2 ≡ 2 * t.functions = omega arith in
      rw (
        le-leb t.variables 64 vl,
        le-leb t.groups 5 gl,
        le-leb t.curves 8 nl,
        le-leb t.functions 16 fl,
        v.1,
        g.1,
        n.1,
        f.1,
        v1,
        g1,
        n3,
        f2,
        sizes_front t.variables t.sizes (omega arith),
        groups_lent (groups_by t.groups t.sets) (omega arith),
        curves_front t.curves t.shapes (omega arith),
        functions_front t.functions t.calls (omega arith),
      )
