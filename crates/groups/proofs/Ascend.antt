-- A walk over the IDs of a new group: whether one is unknown, whether they ascend. Assumes nothing.
use mathlib.Core.Path.{◌≡◌, refl, sym, ap, ap₂, ◌∙◌}
use mathlib.Core.Bool.{Bool, true, false, not, ◌&&◌, ◌||◌, or_assoc, or-false, and_assoc, and-true}
use mathlib.Core.List.{List, [], ◌∷◌}
use Prim.Native.Nat.{ℕ, ◌+◌, ◌≤◌, ◌<◌}
use native.Mathlib.Numerals.{add-one}
use lib.Dec.{leb, ltb, leb-zero}
use lib.ListN.{length, drop, get_or, drop_of_length-le}
use Rattle.bsmp.specs.Base.{some, ascending}
use Rattle.copies.proofs.Put.{drop_one}
use Rattle.groups.specs.Promises.{Looked}
use Rattle.groups.specs.declared.Ids.{Ids}
use Rattle.groups.proofs.Known.{leb_not}

-- they ascend, from n on
unfoldable pub above : ℕ → List ℕ → Bool
above n [] = true
above n (x ∷ xs) = leb n x && above (x + 1) xs

above_next : (x : ℕ) (xs : List ℕ) → above (x + 1) xs ≡ ascending (x ∷ xs)
unfolding above
above_next x [] = refl
above_next x (y ∷ ys) = ap₂ ◌&&◌ (ap (λ (n : ℕ). leb n y) (add-one x)) (above_next y ys)

above_all : (xs : List ℕ) → above 0 xs ≡ ascending xs
unfolding above
above_all [] = refl
above_all (x ∷ xs) = ap (λ (b : Bool). b && above (x + 1) xs) (leb-zero x) ∙ above_next x xs

module _ (ids : List ℕ) (count : ℕ) where
  abbrev unknown : ℕ → Bool
  unknown i = not (ltb i count)

  -- what is left from place i on
  pub record Looking (i : ℕ) (s : Ids) : Type 0 where
    pub unknowns : (s.unknown || some unknown (drop i ids)) ≡ some unknown ids
    pub ascends : (s.ascending && above s.least (drop i ids)) ≡ ascending ids

  pub look_start : (s : Ids) → s.unknown ≡ false → s.ascending ≡ true → s.least ≡ 0 → Looking 0 s
  look_start s u a n = record { unknowns = rw u; ascends = rw (a, n) (above_all ids) }

  pub look_next : (i : ℕ) (s : Ids) → i < length ids → Looking i s
      → Looking (i + 1) (record { unknown = s.unknown || leb count (get_or ids i 0); ascending = s.ascending && leb s.least (get_or ids i 0); least = get_or ids i 0 + 1 })
  unfolding above
  look_next i s h q = record {
    unknowns = rw (leb_not count (get_or ids i 0), or_assoc) (rw (drop_one ids i h) at q.unknowns);
    ascends = rw and_assoc (rw (drop_one ids i h) at q.ascends);
  }

  pub look_end : (i : ℕ) (s : Ids) → length ids ≤ i → Looking i s → Looked ids count s
  unfolding above
  look_end i s h q = record {
    unknown = sym (or-false s.unknown) ∙ (rw (drop_of_length-le ids h) at q.unknowns);
    ascends = sym (and-true s.ascending) ∙ (rw (drop_of_length-le ids h) at q.ascends);
  }
