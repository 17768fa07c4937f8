-- Function records as the bytes that are lent, two to a record, which the code tests all at once. Assumes nothing.
use mathlib.Core.Path.{◌≡◌, sym, ap, ◌∙◌}
use mathlib.Core.Bool.{Bool, true, false, ◌&&◌, and_assoc, and-false, and-true as and-on, false≢true}
use mathlib.Core.Logic.{◌⊎◌, inl, inr}
use mathlib.Core.List.{List, [], ◌∷◌, map}
use Prim.Native.Nat.{ℕ, zero, suc, ◌+◌, ◌*◌, ◌/◌, ◌%◌, ◌≤◌, ◌<◌}
use native.Mathlib.Omega.{arith}
use native.Mathlib.Numerals.{add-one}
use lib.Bits.{bit_or, or_lt, or_add_and, and_le_l, and_le_r}
use lib.Dec.{leb}
use Rattle.std.specs.List.{fold}
use lib.ListN.{length, drop, get_or, drop_of_length-le}
use lib.Seq.{drop-cons}
use borrow.Author.Tests.{lt-ltb, lt-leb, le-leb, leb-true}
use Rattle.bsmp.specs.Base.{up_from, every}
use Rattle.bsmp.specs.Board.{blank_function, usable_functions}
use Rattle.bsmp.proofs.Bools.{and_true, bool_eq, not_so}
use Rattle.records.specs.Lending.{function_at, functions_of}
use Rattle.bsmp.proofs.Lists.{every_at}
use Rattle.records.proofs.Lending.{function_count, function_broken}
use Rattle.records.proofs.Bounds.{usable_function}

abbrev small : ℕ → Bool
small b = leb b 15

-- bits of two numbers together are small exactly if both numbers are
or_small : (a b : ℕ) → small (bit_or a b) ≡ (small a && small b)
or_small a b = bool_eq (small (bit_or a b)) (small a && small b) there back
  where
    there : small (bit_or a b) ≡ true → (small a && small b) ≡ true
    there h =
        let l : bit_or a b ≤ 15 = leb-true _ _ h in
        let x : a ≤ 15 = omega (arith, l, or_add_and a b, and_le_r a b) in
        let y : b ≤ 15 = omega (arith, l, or_add_and a b, and_le_l a b) in
        rw (le-leb a 15 x, le-leb b 15 y)

    back : (small a && small b) ≡ true → small (bit_or a b) ≡ true
    back h =
        let w = and_true (small a) (small b) h in
        let x : a < 16 = omega (arith, leb-true a 15 w.0) in
        let y : b < 16 = omega (arith, leb-true b 15 w.1) in
        le-leb (bit_or a b) 15 (omega (arith, or_lt 4 a b x y))

-- the bits m, with those of more bytes
joined : (m : ℕ) (ns : List ℕ) → small (fold bit_or m ns) ≡ (small m && every small ns)
joined m [] = sym (and-on (small m))
joined m (n ∷ ns) = joined (bit_or m n) ns ∙ ap (◌&& every small ns) (or_small m n) ∙ and_assoc (small m) (small n) (every small ns)

module _ (ns : List ℕ) where
  -- k records from record f on are the bytes from 2 f on
  pairs : (f k : ℕ) → 2 * (f + k) ≡ length ns → every usable_function (map (function_at ns) (up_from f k)) ≡ every small (drop (2 * f) ns)
  pairs f zero e = let h : length ns ≤ 2 * f = omega arith in rw (drop_of_length-le ns h)
  pairs f (suc k) e =
      let a : 2 * f < length ns = omega arith in
      let b : suc (2 * f) < length ns = omega arith in
      let q : f < length ns / 2 = omega arith in
      let o : 2 * suc f ≡ suc (suc (2 * f)) = omega arith in
      rw (lt-ltb f (length ns / 2) q, drop-cons ns (2 * f) 0, drop-cons ns (suc (2 * f)) 0, pairs (suc f) k (omega arith), o, add-one) (and_assoc (small (get_or ns (2 * f) 0)) (small (get_or ns (suc (2 * f)) 0)) (every small (drop (suc (suc (2 * f))) ns)))

  abbrev Tells : Bool → Type 0
  Tells b = b ≡ usable_functions (functions_of ns)

  pub functions_many : 32 < length ns → Tells false
  unfolding usable_functions
  functions_many h =
      let l : 16 < (length ns + 1) / 2 = omega arith in
      rw (← function_count ns, lt-leb ((length ns + 1) / 2) 16 l)

  -- a record that is cut off
  pub functions_odd : (length ns % 2 ≡ 0 → ⊥) → Tells false
  unfolding usable_functions
  functions_odd h =
      let k : length ns / 2 < length (functions_of ns) = omega (arith, function_count ns) in
      rw (not_so (every usable_function (functions_of ns)) (λ u. bad (every_at usable_function (functions_of ns) (length ns / 2) blank_function u k) k)) (sym (and-false (leb (length (functions_of ns)) 16)))
    where
      bad : usable_function (get_or (functions_of ns) (length ns / 2) blank_function) ≡ true → length ns / 2 < length (functions_of ns) → ⊥
      bad u k = let z = rw (← function_broken ns (length ns / 2) k (omega arith)) at u in false≢true z

  pub functions_broken : (length ns % 2 ≡ 0 → ⊥) ⊎ ((length ns % 2 ≡ 0) × (32 < length ns)) → Tells false
  functions_broken (inl h) = functions_odd h
  functions_broken (inr h) = functions_many h.1

  pub functions_told : length ns % 2 ≡ 0 → length ns ≤ 32 → Tells (small (fold bit_or 0 ns))
  unfolding usable_functions functions_of
  functions_told o l =
      let e : 2 * (0 + (length ns + 1) / 2) ≡ length ns = omega arith in
      let k : (length ns + 1) / 2 ≤ 16 = omega arith in
      rw (← function_count ns, le-leb ((length ns + 1) / 2) 16 k, pairs 0 ((length ns + 1) / 2) e) (joined 0 ns)
