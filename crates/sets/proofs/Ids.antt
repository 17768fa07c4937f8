-- The set of the variables that a list of IDs names: built by unions, and as the board's definition has it. Assumes nothing.
use mathlib.Core.Path.{◌≡◌, refl, sym, ap, ap₂, ◌∙◌}
use mathlib.Core.Bool.{Bool, false, not, ◌||◌, or_assoc, or-false as or-none}
use mathlib.Core.List.{List, [], ◌∷◌, map}
use Prim.Native.Nat.{ℕ, zero, suc, ◌+◌, ◌*◌, ◌%◌, ◌^◌, ◌≤◌, ◌<◌}
use native.Mathlib.Nat.{one-mul, mod-eq_of_lt}
use native.Mathlib.Omega.{arith}
use lib.Pow.{pow-lt, pow_pos}
use lib.Dec.{eqb, ltb}
use borrow.Author.Tests.{ltb-true, not-false}
use lib.Bits.{bit_or, or_lt}
use lib.ListN.{length, drop, get_or, drop_of_length-le}
use Rattle.bsmp.specs.Base.{has, marks_of, up_from, some}
use Rattle.bsmp.specs.Board.{Layout, variable, is_same, set_of}
use Rattle.bsmp.specs.declared.VariableNumber.{VariableNumber}
use Rattle.bsmp.proofs.Bools.{or_false}
use Rattle.copies.proofs.Put.{drop_one}
use Rattle.sets.specs.Promises.{Below, Named}
use Rattle.sets.proofs.Marks.{has_none, has_or, has_pow, marks_has}

-- the IDs, one after another, into a set
unfoldable pub set_from : ℕ → List ℕ → ℕ
set_from acc [] = acc
set_from acc (i ∷ is) = set_from (bit_or acc (2 ^ i)) is

-- a turn of the loop, with `1 << id` as the machine has it, and the loop's end
pub set_next : (l : List ℕ) (i acc x : ℕ) → i < length l → Below 64 l → set_from acc (drop i l) ≡ x → set_from (bit_or acc ((1 * 2 ^ get_or l i 0) % 2 ^ 64)) (drop (i + 1) l) ≡ x
unfolding set_from
set_next l i acc x h b e =
    let k : 2 ^ get_or l i 0 < 2 ^ 64 = pow-lt (b.below i h) in
    let s : (1 * 2 ^ get_or l i 0) % 2 ^ 64 ≡ 2 ^ get_or l i 0 = rw one-mul (mod-eq_of_lt k) in
    rw s (rw (drop_one l i h) at e)

-- which variables it has
has_set : (ids : List ℕ) (acc k : ℕ) → has (set_from acc ids) k ≡ (has acc k || some (eqb k) ids)
unfolding set_from
has_set [] acc k = sym (or-none (has acc k))
has_set (i ∷ is) acc k =
    has_set is (bit_or acc (2 ^ i)) k
    ∙ ap (λ (x : Bool). x || some (eqb k) is) (has_or acc (2 ^ i) k ∙ ap (λ (x : Bool). has acc k || x) (has_pow i k))
    ∙ or_assoc (has acc k) (eqb k i) (some (eqb k) is)

set_lt : (n : ℕ) (ids : List ℕ) (acc : ℕ) → acc < 2 ^ n → Below n ids → set_from acc ids < 2 ^ n
unfolding set_from
set_lt n [] acc h b = h
set_lt n (i ∷ is) acc h b =
    set_lt n is (bit_or acc (2 ^ i)) (or_lt n acc (2 ^ i) h (pow-lt (b.below 0 (omega arith))))
    (record { below = λ k g. b.below (suc k) (omega (arith, g)) })

-- as the board has it
pub some_named : (k : ℕ) (ids : List ℕ) → some (eqb k) ids ≡ some (is_same (variable k)) (map variable ids)
some_named k [] = refl
some_named k (i ∷ is) = ap (λ (x : Bool). eqb k i || x) (some_named k is)

map_same : (f : ℕ → Bool) (g : VariableNumber → Bool) → ((k : ℕ) → f k ≡ g (variable k)) → (i n : ℕ) → map f (up_from i n) ≡ map g (map variable (up_from i n))
map_same f g e i zero = refl
map_same f g e i (suc n) = ap₂ ◌∷◌ (e i) (map_same f g e (suc i) n)

pub set_end : (l : List ℕ) (i acc : ℕ) → length l ≤ i → set_from acc (drop i l) ≡ set_from 0 l → Named l acc
unfolding set_from set_of
set_end l i acc h e = record {
  set_is = λ b low.
      let n : ℕ = length b.sizes in
      sym (ap (set_from acc) (drop_of_length-le l h)) ∙ e
      ∙ sym (marks_has n (set_from 0 l) (set_lt n l 0 (pow_pos n) low))
      ∙ ap marks_of (map_same (has (set_from 0 l)) (λ j. some (is_same j) (map variable l))
      (λ k. has_set l 0 k ∙ ap (λ (x : Bool). x || some (eqb k) l) (has_none k) ∙ some_named k l) 0 n);
}

-- what callers have: a message's IDs that all exist, and the board's set of them
pub known_below : (n : ℕ) (ids : List ℕ) → some (λ i. not (ltb i n)) ids ≡ false → Below n ids
known_below n ids h = record { below = by ids h }
  where
    by : (ids : List ℕ) → some (λ i. not (ltb i n)) ids ≡ false → (k : ℕ) → k < length ids → get_or ids k 0 < n
    by [] h k i = absurd (omega (arith, i))
    by (x ∷ xs) h zero i = ltb-true x n (not-false (ltb x n) (or_false (not (ltb x n)) _ h).0)
    by (x ∷ xs) h (suc k) i = by xs (or_false (not (ltb x n)) _ h).1 k (omega (arith, i))

pub below_more : (n k : ℕ) (ids : List ℕ) → Below n ids → n ≤ k → Below k ids
below_more n k ids b h = record { below = λ j i. omega (arith, b.below j i) }

pub set_told : (l : Layout) (ids : List ℕ) (set : ℕ) → Named ids set → Below (length l.sizes) ids → set ≡ set_of l (map variable ids)
set_told l ids set h b = h.set_is l b
