-- The walk over the members of a group: each is a variable's number, and they ascend. Assumes nothing.
use mathlib.Core.Path.{◌≡◌, refl, sym, ap, ◌∙◌}
use mathlib.Core.Bool.{Bool, true, false, ◌&&◌}
use mathlib.Core.List.{List, [], ◌∷◌}
use Prim.Native.Nat.{ℕ, ◌+◌, ◌≤◌, ◌<◌}
use native.Mathlib.Numerals.{add-one}
use lib.Dec.{leb, ltb, leb-zero}
use lib.ListN.{length, drop, get_or, drop_of_length-le}
use lib.Seq.{drop-cons}
use borrow.Author.Tests.{le-leb, lt-leb, lt-ltb, le-ltb}
use Rattle.bsmp.specs.Base.{every, ascending}
use Rattle.rules.proofs.Checks.{left_off, right_off}
use Rattle.records.proofs.Walk.{Walked, walked_start, walked_next, walked_stop, walked_end}

abbrev is_low : ℕ → Bool
is_low i = ltb i 64

-- the first is not below n
abbrev starts : ℕ → List ℕ → Bool
starts n [] = true
starts n (x ∷ xs) = leb n x

starts_all : (xs : List ℕ) → starts 0 xs ≡ true
starts_all [] = refl
starts_all (x ∷ xs) = leb-zero x

ascends : (x : ℕ) (xs : List ℕ) → ascending (x ∷ xs) ≡ (starts (x + 1) xs && ascending xs)
ascends x [] = refl
ascends x (y ∷ ys) = ap (λ (n : ℕ). leb n y && ascending (y ∷ ys)) (sym (add-one x))

-- at place i: the next is not below n
pub record Ordered (p : List ℕ) (n i : ℕ) : Type 0 where
  pub walked : Walked is_low p i
  pub rest : (starts n (drop i p) && ascending (drop i p)) ≡ ascending p

module _ (p : List ℕ) where
  abbrev Tells : Bool → Type 0
  Tells r = r ≡ (ascending p && every (λ i. ltb i 64) p)

  pub ordered_start : Ordered p 0 0
  ordered_start = record { walked = walked_start is_low p; rest = rw (starts_all p) }

  module _ (n i : ℕ) (h : i < length p) (q : Ordered p n i) where
    abbrev x : ℕ
    x = get_or p i 0

    here : (leb n x && ascending (x ∷ drop (i + 1) p)) ≡ ascending p
    here = rw (add-one i) (rw (drop-cons p i 0 h) at q.rest)

    pub order_over : 64 ≤ get_or p i 0 → Tells false
    order_over k = sym (right_off (ascending p) _ (walked_stop is_low p (length p) i x 0 false refl h refl (sym (le-ltb x 64 k)) refl q.walked))

    pub order_below : get_or p i 0 < n → Tells false
    order_below k = sym (left_off (ascending p) _ (sym (rw (lt-leb n x k) at here)))

    pub ordered_next : get_or p i 0 < 64 → n ≤ get_or p i 0 → Ordered p (get_or p i 0 + 1) (i + 1)
    ordered_next k l = record {
      walked = walked_next is_low p (length p) i x 0 true refl h refl (sym (lt-ltb x 64 k)) refl q.walked;
      rest = sym (ascends x (drop (i + 1) p)) ∙ (rw (le-leb n x l) at here);
    }

  pub ordered_end : (n i : ℕ) → length p ≤ i → Ordered p n i → Tells true
  ordered_end n i h q = rw (walked_end is_low p (length p) i refl h q.walked, ← (rw (drop_of_length-le p h) at q.rest))
