-- The lists that a board lends: how long they are, what stands at a number, and the same as a part of what is lent. Assumes nothing.
use mathlib.Core.Path.{◌≡◌, refl, sym, ap, ◌∙◌}
use mathlib.Core.Bool.{Bool, true, false}
use mathlib.Core.List.{List, ◌∷◌, map, map-map}
use Prim.Native.Nat.{ℕ, zero, suc, ◌+◌, ◌*◌, ◌/◌, ◌≤◌, ◌<◌}
use native.Mathlib.Omega.{arith}
use lib.Dec.{ltb}
use lib.ListN.{length, take, drop, get_or, get_or-eq_default}
use lib.Seq.{drop-cons}
use borrow.Author.Tests.{ltb-true, ltb-false}
use Rattle.bsmp.specs.Base.{up_from, marks_of}
use Rattle.bsmp.specs.Board.{is_writable, blank_curve, blank_function, sizes_of, writable_of, layout}
use Rattle.bsmp.specs.declared.Variable.{Variable}
use Rattle.bsmp.specs.declared.Curve.{Curve}
use Rattle.bsmp.specs.declared.Function.{Function}
use Rattle.records.specs.declared.Records.{Records}
use Rattle.records.specs.declared.Groups.{Groups}
use Rattle.records.specs.Lending.{numbered, records_by, record_at, writable_marks, curve_at, function_at, records_of, curves_of, functions_of, table_of, groups_by, groups_of}
use Rattle.records.proofs.Walk.{length_numbered, numbered_at, padded_whole, padded_broken}

-- the first n numbers of a list
take_up : (l : List ℕ) (k n : ℕ) → k + n ≤ length l → map (λ i. get_or l i 0) (up_from k n) ≡ take n (drop k l)
take_up l k zero h = refl
take_up l k (suc n) h =
    let q : k < length l = omega arith in
    rw (drop-cons l k 0) (ap (get_or l k 0 ∷◌) (take_up l (suc k) n (omega arith)))

take_numbered : (l : List ℕ) (n : ℕ) → n ≤ length l → numbered (λ i. get_or l i 0) n ≡ take n l
take_numbered l n h = take_up l 0 n (omega arith)

abbrev pub no_variable : Variable
no_variable = record { writable = 0; size = 0; kind = 0 }

module _ (r : Records) where
  pub record_count : r.count ≡ length (records_of r)
  unfolding records_of
  record_count = sym (length_numbered (record_at r) r.count)

  pub record_at_lem : (i : ℕ) → i < r.count → record_at r i ≡ get_or (records_of r) i no_variable
  unfolding records_of
  record_at_lem i h = sym (numbered_at (record_at r) r.count i no_variable h)

  -- the sizes as a part of their column
  pub sizes_lent : r.count ≤ length r.sizes → sizes_of (records_of r) ≡ take r.count r.sizes
  unfolding records_of
  sizes_lent h = map-map (λ v. v.size) (record_at r) (up_from 0 r.count) ∙ take_numbered r.sizes r.count h

  -- the types likewise, and their marks
  pub types_lent : r.count ≤ length r.writable → map (λ v. v.writable) (records_of r) ≡ take r.count r.writable
  unfolding records_of
  types_lent h = map-map (λ v. v.writable) (record_at r) (up_from 0 r.count) ∙ take_numbered r.writable r.count h

  pub marks_lent : r.count ≤ length r.writable → writable_of (records_of r) ≡ writable_marks (take r.count r.writable)
  marks_lent h = ap marks_of (sym (map-map is_writable (λ v. v.writable) (records_of r)) ∙ ap (map is_writable) (types_lent h))

pub column_count : (n : ℕ) (ws ss ks : List ℕ) → n ≡ length (records_of (records_by n ws ss ks))
column_count n ws ss ks = record_count (records_by n ws ss ks)

-- whole records, and what stands for one that is broken or missing
module _ (ns : List ℕ) where
  pub curve_count : (length ns + 2) / 3 ≡ length (curves_of ns)
  unfolding curves_of
  curve_count = sym (length_numbered (curve_at ns) ((length ns + 2) / 3))

  abbrev whole_curve : ℕ → Curve
  whole_curve c = record { writable = get_or ns (3 * c) 0; size = get_or ns (3 * c + 1) 0; blocks = get_or ns (3 * c + 2) 0 }

  pub curve_whole : (c : ℕ) → c < length ns / 3
      → record { writable = get_or ns (3 * c) 0; size = get_or ns (3 * c + 1) 0; blocks = get_or ns (3 * c + 2) 0 } ≡ get_or (curves_of ns) c blank_curve
  unfolding curves_of
  curve_whole c h = padded_whole whole_curve blank_curve blank_curve (length ns / 3) ((length ns + 2) / 3) c h (omega arith)

  pub curve_broken : (c : ℕ) → length ns / 3 ≤ c → blank_curve ≡ get_or (curves_of ns) c blank_curve
  unfolding curves_of
  curve_broken c h = by (ltb c ((length ns + 2) / 3)) refl
    where
      by : (b : Bool) → ltb c ((length ns + 2) / 3) ≡ b → blank_curve ≡ get_or (curves_of ns) c blank_curve
      by true e = padded_broken whole_curve blank_curve blank_curve (length ns / 3) ((length ns + 2) / 3) c h (ltb-true _ _ e)
      by false e = sym (get_or-eq_default (curves_of ns) blank_curve (rw (← curve_count) (ltb-false _ _ e)))

  pub function_count : (length ns + 1) / 2 ≡ length (functions_of ns)
  unfolding functions_of
  function_count = sym (length_numbered (function_at ns) ((length ns + 1) / 2))

  abbrev whole_function : ℕ → Function
  whole_function f = record { input = get_or ns (2 * f) 0; output = get_or ns (2 * f + 1) 0 }

  pub function_whole : (f : ℕ) → f < length ns / 2 → record { input = get_or ns (2 * f) 0; output = get_or ns (2 * f + 1) 0 } ≡ get_or (functions_of ns) f blank_function
  unfolding functions_of
  function_whole f h = padded_whole whole_function _ blank_function (length ns / 2) ((length ns + 1) / 2) f h (omega arith)

  pub function_broken : (f : ℕ) → f < length (functions_of ns) → length ns / 2 ≤ f → record { input = 16; output = 0 } ≡ get_or (functions_of ns) f blank_function
  unfolding functions_of
  function_broken f k h = padded_broken whole_function _ blank_function (length ns / 2) ((length ns + 1) / 2) f h (omega (arith, function_count))

module _ (g : Groups) where
  pub group_count_lem : g.count ≡ length (groups_of g)
  unfolding groups_of
  group_count_lem = sym (length_numbered (λ i. get_or g.sets i 0) g.count)

  pub group_at : (i : ℕ) → i < g.count → get_or g.sets i 0 ≡ get_or (groups_of g) i 0
  unfolding groups_of
  group_at i h = sym (numbered_at (λ i. get_or g.sets i 0) g.count i 0 h)

  -- the groups as a part of their places
  pub groups_lent : g.count ≤ length g.sets → groups_of g ≡ take g.count g.sets
  unfolding groups_of
  groups_lent h = take_numbered g.sets g.count h

-- the same by the count and the places
pub made_count : (n : ℕ) (ps : List ℕ) → n ≡ length (groups_of (groups_by n ps))
made_count n ps = group_count_lem (groups_by n ps)

pub made_at : (n : ℕ) (ps : List ℕ) (i : ℕ) → i < n → get_or ps i 0 ≡ get_or (groups_of (groups_by n ps)) i 0
made_at n ps = group_at (groups_by n ps)

-- what messages look at, from the columns of sizes and types
pub layout_lent : (r : Records) (cs fs : List ℕ) → r.count ≤ length r.sizes → r.count ≤ length r.writable
    → record { sizes = take r.count r.sizes; writable = writable_marks (take r.count r.writable); curves = curves_of cs; functions = functions_of fs } ≡ layout (table_of r cs fs)
layout_lent r cs fs h k = rw (sizes_lent r h, marks_lent r k)
