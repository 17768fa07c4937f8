-- Bytes of either order: where each stands, read and written. Assumes nothing.
use mathlib.Core.Path.{◌≡◌, refl, sym, ap, ◌∙◌}
use mathlib.Core.Bool.{Bool, true, false}
use mathlib.Core.List.{List, [], ◌∷◌, ◌++◌, append_assoc, reverse, reverse-cons, reverse-append}
use Prim.Native.Nat.{ℕ, suc, ◌-◌, ◌<◌}
use native.Mathlib.Omega.{arith}
use lib.ListN.{length, take, drop, get_or, set, length-reverse, length-drop}
use lib.Seq.{split_at, set_split, get_or_at, set_at}
use Rattle.bsmp.specs.Number.{turned}
use Rattle.numbers.specs.Size.{place_of}

reverse_at : (p : List ℕ) (y : ℕ) (q : List ℕ) → reverse (p ++ y ∷ q) ≡ reverse q ++ y ∷ reverse p
reverse_at p y q = reverse-append p (y ∷ q) ∙ ap (◌++ reverse p) (reverse-cons y q) ∙ append_assoc (reverse q) (y ∷ []) (reverse p)

-- the place i of a list is the place j of the list the other way round
module _ (l : List ℕ) (i j : ℕ) (h : i < length l) (e : j ≡ length l - 1 - i) where
  split : l ≡ take j l ++ get_or l j 0 ∷ drop (suc j) l
  split = split_at l j 0 (omega arith)

  before : length (reverse (drop (suc j) l)) ≡ i
  before = length-reverse (drop (suc j) l) ∙ length-drop (suc j) l ∙ omega arith

  read_back : get_or (reverse l) i 0 ≡ get_or l j 0
  read_back =
      ap (λ (x : List ℕ). get_or (reverse x) i 0) split
      ∙ ap (λ (x : List ℕ). get_or x i 0) (reverse_at (take j l) (get_or l j 0) (drop (suc j) l))
      ∙ get_or_at (reverse (drop (suc j) l)) (get_or l j 0) (reverse (take j l)) 0 i before

  write_back : (b : ℕ) → reverse (set l j b) ≡ set (reverse l) i b
  write_back b =
      ap reverse (set_split l j b (omega arith))
      ∙ reverse_at (take j l) b (drop (suc j) l)
      ∙ sym (set_at (reverse (drop (suc j) l)) (get_or l j 0) (reverse (take j l)) b i before)
      ∙ ap (λ (x : List ℕ). set x i b) (sym (reverse_at (take j l) (get_or l j 0) (drop (suc j) l)))
      ∙ ap (λ (x : List ℕ). set (reverse x) i b) (sym split)

pub turned_read : (big : Bool) (l : List ℕ) (i : ℕ) → i < length l → get_or (turned big l) i 0 ≡ get_or l (place_of big (length l) i) 0
turned_read true l i h = read_back l i _ h refl
turned_read false l i h = refl

pub turned_write : (big : Bool) (l : List ℕ) (i b : ℕ) → i < length l → turned big (set l (place_of big (length l) i) b) ≡ set (turned big l) i b
turned_write true l i b h = write_back l i _ h refl b
turned_write false l i b h = refl
