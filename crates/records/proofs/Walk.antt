-- Numbered lists, and a walk over a list: what is left of a test and of a sum from a place on. Assumes nothing.
use mathlib.Core.Path.{◌≡◌, refl, sym, ap, ◌∙◌}
use mathlib.Core.Bool.{Bool, true, false, cond, not, ◌&&◌, and_assoc, and-true as and-on}
use mathlib.Core.List.{List, [], ◌∷◌, map}
use Prim.Native.Nat.{ℕ, zero, suc, ◌+◌, ◌≤◌, ◌<◌}
use native.Mathlib.Omega.{arith}
use native.Mathlib.Numerals.{add-one}
use lib.Dec.{ltb}
use lib.ListN.{length, drop, get_or, drop_of_length-le}
use lib.Seq.{drop-cons}
use borrow.Author.Tests.{lt-ltb, le-ltb, not-true, not-false}
use Rattle.bsmp.specs.Base.{sum, up_from, every}
use Rattle.records.specs.Lending.{numbered}

-- numbered lists
module _ {A : Type 0} (f : ℕ → A) where
  length_up : (k n : ℕ) → length (map f (up_from k n)) ≡ n
  length_up k zero = refl
  length_up k (suc n) = ap suc (length_up (suc k) n)

  at_up : (k n i : ℕ) (d : A) → i < n → get_or (map f (up_from k n)) i d ≡ f (k + i)
  at_up k zero i d h = absurd (omega (arith, h))
  at_up k (suc n) zero d h = ap f (omega arith)
  at_up k (suc n) (suc i) d h = at_up (suc k) n i d (omega (arith, h)) ∙ ap f (omega arith)

  pub length_numbered : (n : ℕ) → length (numbered f n) ≡ n
  length_numbered n = length_up 0 n

  pub numbered_at : (n i : ℕ) (d : A) → i < n → get_or (numbered f n) i d ≡ f i
  numbered_at n i d h = at_up 0 n i d h ∙ ap f (omega arith)

-- the same where only the first m are whole, and y stands for any other
module _ {A : Type 0} (x : ℕ → A) (y d : A) (m n i : ℕ) where
  abbrev padded : List A
  padded = numbered (λ k. cond (ltb k m) (x k) y) n

  pub padded_whole : i < m → m ≤ n → x i ≡ get_or padded i d
  padded_whole h l = sym (numbered_at (λ k. cond (ltb k m) (x k) y) n i d (omega arith) ∙ rw (lt-ltb i m h))

  pub padded_broken : m ≤ i → i < n → y ≡ get_or padded i d
  padded_broken h l = sym (numbered_at (λ k. cond (ltb k m) (x k) y) n i d l ∙ rw (le-ltb i m h))

-- a walk that looks whether each passes a test: it stands at i, and so far each did
pub record Walked {A : Type 0} (f : A → Bool) (xs : List A) (i : ℕ) : Type 0 where
  pub inside : i ≤ length xs
  pub rest : every f (drop i xs) ≡ every f xs

drop_next : {A : Type 0} (xs : List A) (i : ℕ) (x d : A) → i < length xs → x ≡ get_or xs i d → drop i xs ≡ x ∷ drop (i + 1) xs
drop_next xs i x d h e = rw (add-one, e) (drop-cons xs i d h)

pub walked_start : {A : Type 0} (f : A → Bool) (xs : List A) → Walked f xs 0
walked_start f xs = record { inside = omega arith; rest = refl }

-- n is how many there are
module _ {A : Type 0} (f : A → Bool) (xs : List A) (n : ℕ) where
  -- x stands at i, and b is what the test of x gave
  module _ (i : ℕ) (x d : A) (b : Bool) where
    pub walked_next : n ≡ length xs → i < n → x ≡ get_or xs i d → b ≡ f x → not b ≡ false → Walked f xs i → Walked f xs (i + 1)
    walked_next l h e t z w =
        let o : f x ≡ true = sym t ∙ not-false b z in
        record { inside = omega arith; rest = rw (drop_next xs i x d (omega arith) e, o) at w.rest }

    pub walked_stop : n ≡ length xs → i < n → x ≡ get_or xs i d → b ≡ f x → not b ≡ true → Walked f xs i → every f xs ≡ false
    walked_stop l h e t z w =
        let o : f x ≡ false = sym t ∙ not-true b z in
        sym (rw (drop_next xs i x d (omega arith) e, o) at w.rest)

  pub walked_end : (i : ℕ) → n ≡ length xs → n ≤ i → Walked f xs i → every f xs ≡ true
  walked_end i l h w = sym (rw (drop_of_length-le xs {i = i} (omega arith)) at w.rest)

-- a sum, with what is left of it from i on
module _ {A : Type 0} (xs : List A) (n i : ℕ) (x d : A) (l : n ≡ length xs) (h : i < n) (e : x ≡ get_or xs i d) where
  pub sum_next : (g : A → ℕ) (s z y : ℕ) → z ≡ g x → s + sum (map g (drop i xs)) ≡ y → s + z + sum (map g (drop (i + 1) xs)) ≡ y
  unfolding sum
  sum_next g s z y o k = let q = rw (drop_next xs i x d (omega arith) e) at k in omega (arith, q)

  -- likewise of a test: a says of those before i that each passed, and b of x
  pub all_next : (f : A → Bool) (a b y : Bool) → b ≡ f x → (a && every f (drop i xs)) ≡ y → ((a && b) && every f (drop (i + 1) xs)) ≡ y
  all_next f a b y o k = ap (λ c. (a && c) && every f (drop (i + 1) xs)) o ∙ and_assoc a (f x) _ ∙ (rw (drop_next xs i x d (omega arith) e) at k)

module _ {A : Type 0} (xs : List A) (n i : ℕ) (l : n ≡ length xs) (h : n ≤ i) where
  none_left : drop i xs ≡ []
  none_left = drop_of_length-le xs {i = i} (omega arith)

  pub sum_end : (g : A → ℕ) (s y : ℕ) → s + sum (map g (drop i xs)) ≡ y → s ≡ y
  unfolding sum
  sum_end g s y k = let q = rw none_left at k in omega (arith, q)

  pub all_end : (f : A → Bool) (a y : Bool) → (a && every f (drop i xs)) ≡ y → a ≡ y
  all_end f a y k = sym (and-on a) ∙ (rw none_left at k)
