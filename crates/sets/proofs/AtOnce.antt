-- What the number of a set tells without a walk: its members among the first variables, how many, and how they meet other marks. Assumes nothing.
use mathlib.Core.Path.{◌≡◌, refl, sym, ap, ap₂, ◌∙◌}
use mathlib.Core.Bool.{Bool, true, false, not, cond, ◌&&◌, ◌||◌}
use mathlib.Core.List.{List, [], ◌∷◌, map}
use Prim.Native.Nat.{ℕ, zero, suc, ◌+◌, ◌*◌, ◌/◌, ◌%◌, ◌^◌, ◌≤◌, ◌<◌, min}
use native.Mathlib.Omega.{arith}
use native.Mathlib.Nat.{div-eq_of_lt, lt_of_lt_of_le, mod-lt, mod-eq_of_lt, one-mul}
use native.Mathlib.Numerals.{add-one}
use lib.Bits.{bit_and, and_step}
use lib.Count.{ones, ones_step}
use lib.Dec.{eqb}
use lib.ListN.{length, length-map}
use lib.Pow.{pow_pos, pow-lt, pow_mono, field, mod-mod-pow}
use borrow.Author.Tests.{eq-eqb, ne_eqb, eqb-true}
use Rattle.bsmp.specs.Base.{has, bit, up_from, every, some, only}
use Rattle.bsmp.specs.Board.{variable, marked}
use Rattle.bsmp.specs.declared.VariableNumber.{VariableNumber}
use Rattle.bsmp.proofs.Bools.{bool_eq}
use Rattle.sets.specs.Members.{members_below}
use Rattle.sets.proofs.Members.{only_none}
use Rattle.sets.proofs.Marks.{has_half, has_low, has_none, bit_same}

-- the first n marks, as the code has them: all, or those below a mark of its own
module _ (m n : ℕ) where
  pub first_all : m < 2 ^ 64 → 64 ≤ n → m ≡ m % 2 ^ n
  first_all h l = sym (mod-eq_of_lt (lt_of_lt_of_le h (pow_mono l)))

  mark : n < 64 → 1 * 2 ^ n % 2 ^ 64 ≡ 2 ^ n
  mark l = rw one-mul (mod-eq_of_lt (pow-lt l))

  pub first_some : n < 64 → 0 < 1 * 2 ^ n % 2 ^ 64
  first_some l = rw (mark l) (pow_pos n)

  pub first_marks : n < 64 → m % (1 * 2 ^ n % 2 ^ 64) ≡ m % 2 ^ n
  first_marks l = ap (m %◌) (mark l)

-- the digits below 2 ^ suc n, halved
mod_half : (m n : ℕ) → m % 2 ^ suc n / 2 ≡ m / 2 % 2 ^ n
mod_half m n = ap (λ (x : ℕ). m % 2 ^ x / 2) (sym (add-one n)) ∙ field m n 1

mod_low : (m n : ℕ) → m % 2 ^ suc n % 2 ≡ m % 2
mod_low m n = ap (λ (x : ℕ). m % 2 ^ x % 2) (sym (add-one n)) ∙ mod-mod-pow m n 1

-- the marks of the first n variables, and none after them
has_mod : (m n k : ℕ) → k < n → has (m % 2 ^ n) k ≡ has m k
has_mod m zero k h = absurd (omega (arith, h))
has_mod m (suc n) zero h = bit_same (has (m % 2 ^ suc n) 0) (has m 0) (has_low (m % 2 ^ suc n) ∙ mod_low m n ∙ sym (has_low m))
has_mod m (suc n) (suc k) h =
    has_half (m % 2 ^ suc n) k ∙ ap (λ (x : ℕ). has x k) (mod_half m n) ∙ has_mod (m / 2) n k (omega (arith, h)) ∙ sym (has_half m k)

pub has_past : (m n k : ℕ) → m < 2 ^ n → n ≤ k → has m k ≡ false
unfolding has
has_past m n k h l =
    let e : m / 2 ^ k ≡ 0 = div-eq_of_lt (lt_of_lt_of_le h (pow_mono l)) in
    rw e

-- a test that fails after the first n variables chooses of these alone
only_first : (f h : VariableNumber → Bool) (i n k : ℕ) → n ≤ k → ((j : ℕ) → j < i + n → f (variable j) ≡ h (variable j))
    → ((j : ℕ) → i + n ≤ j → f (variable j) ≡ false) → only f (map variable (up_from i k)) ≡ only h (map variable (up_from i n))
only_first f h i zero k l e z = only_none f i k (λ j o. z j (omega (arith, o)))
only_first f h i (suc n) zero l e z = absurd (omega (arith, l))
only_first f h i (suc n) (suc k) l e z =
    ap₂ (λ (b : Bool) (x : List VariableNumber). cond b (variable i ∷ x) x) (e i (omega arith))
    (only_first f h (suc i) n k (omega (arith, l)) (λ j o. e j (omega (arith, o))) (λ j o. z j (omega (arith, o))))

pub below_declared : (m n k : ℕ) → n ≤ k → members_below (m % 2 ^ n) k ≡ members_below m n
unfolding members_below
below_declared m n k l =
    only_first (marked (m % 2 ^ n)) (marked m) 0 n k l (λ j h. has_mod m n j (omega (arith, h)))
    (λ j h. has_past (m % 2 ^ n) n j (mod-lt m (pow_pos n)) (omega (arith, h)))

-- a set without marks has no members
pub below_none : (n : ℕ) → members_below 0 n ≡ []
unfolding members_below
below_none n = only_none (marked 0) 0 n (λ k h. has_none k)

pub none_left : (m n : ℕ) → m ≡ 0 → members_below m n ≡ []
none_left m n e = rw e (below_none n)

-- the members after the first are those of the half, one number higher
abbrev pub next : VariableNumber → VariableNumber
next i = variable (suc i.0)

only_half : (m i n : ℕ) → only (marked m) (map variable (up_from (suc i) n)) ≡ map next (only (marked (m / 2)) (map variable (up_from i n)))
only_half m i zero = refl
only_half m i (suc n) = rw (has_half m i, only_half m (suc i) n) (by (has (m / 2) i) (only (marked (m / 2)) (map variable (up_from (suc i) n))))
  where
    by : (b : Bool) (x : List VariableNumber) → cond b (next (variable i) ∷ map next x) (map next x) ≡ map next (cond b (variable i ∷ x) x)
    by true x = refl
    by false x = refl

pub below_half : (m n : ℕ) → members_below m (suc n) ≡ cond (has m 0) (variable 0 ∷ map next (members_below (m / 2) n)) (map next (members_below (m / 2) n))
unfolding members_below
below_half m n = ap (λ (x : List VariableNumber). cond (has m 0) (variable 0 ∷ x) x) (only_half m 0 n)

-- how many
length_half : (b : Bool) (is : List VariableNumber) → length (cond b (variable 0 ∷ map next is) (map next is)) ≡ bit b + length is
length_half true is = omega (arith, length-map is next)
length_half false is = omega (arith, length-map is next)

pub ones_below : (n m : ℕ) → m < 2 ^ n → ones m ≡ length (members_below m n)
unfolding members_below ones
ones_below zero m h =
    let e : m ≡ 0 = omega arith in
    rw e
ones_below (suc n) m h =
    let e : length (members_below m (suc n)) ≡ bit (has m 0) + length (members_below (m / 2) n) =
    ap length (below_half m n) ∙ length_half (has m 0) (members_below (m / 2) n) in
    omega (arith, e, ones_step m, has_low m, ones_below n (m / 2) (omega arith))

-- two numbers of the same lowest digit are equal as their halves are
eqb_half : (c s t u v : ℕ) → s ≡ u * 2 + c → t ≡ v * 2 + c → eqb s t ≡ eqb u v
eqb_half c s t u v p q = bool_eq (eqb s t) (eqb u v) (λ e. eq-eqb u v (omega (arith, eqb-true s t e))) (λ e. eq-eqb s t (omega (arith, eqb-true u v e)))

-- whether all are marked
every_half : (w : ℕ) (is : List VariableNumber) → every (marked w) (map next is) ≡ every (marked (w / 2)) is
every_half w [] = refl
every_half w (i ∷ is) = ap₂ ◌&&◌ (has_half w i.0) (every_half w is)

every_digit : (a b : Bool) (s t u v w : ℕ) (is : List VariableNumber) → s ≡ u * 2 + min (bit a) (bit b) → t ≡ v * 2 + bit a
    → has w 0 ≡ b → eqb u v ≡ every (marked (w / 2)) is → eqb s t ≡ every (marked w) (cond a (variable 0 ∷ map next is) (map next is))
every_digit true true s t u v w is p q g e = rw (g, every_half w is, ← e) (eqb_half 1 s t u v p q)
every_digit true false s t u v w is p q g e = rw g (ne_eqb s t (λ (z : s ≡ t). omega (arith, z, p, q)))
every_digit false b s t u v w is p q g e = rw (every_half w is, ← e) (eqb_half 0 s t u v (omega (arith, p)) q)

pub and_all : (n m w : ℕ) → m < 2 ^ n → eqb (bit_and m w) m ≡ every (marked w) (members_below m n)
unfolding members_below
and_all zero m w h =
    let e : m ≡ 0 = omega arith in
    rw e
and_all (suc n) m w h =
    rw (below_half m n) (every_digit (has m 0) (has w 0) (bit_and m w) m (bit_and (m / 2) (w / 2)) (m / 2) w (members_below (m / 2) n)
    (omega (arith, and_step m w, has_low m, has_low w)) (omega (arith, has_low m)) refl (and_all n (m / 2) (w / 2) (omega arith)))

-- whether some is marked
some_half : (w : ℕ) (is : List VariableNumber) → some (marked w) (map next is) ≡ some (marked (w / 2)) is
some_half w [] = refl
some_half w (i ∷ is) = ap₂ ◌||◌ (has_half w i.0) (some_half w is)

some_digit : (a b : Bool) (s u w : ℕ) (is : List VariableNumber) → s ≡ u * 2 + min (bit a) (bit b)
    → has w 0 ≡ b → not (eqb u 0) ≡ some (marked (w / 2)) is → not (eqb s 0) ≡ some (marked w) (cond a (variable 0 ∷ map next is) (map next is))
some_digit true true s u w is p g e = rw g (ap not (ne_eqb s 0 (λ (z : s ≡ 0). omega (arith, z, p))))
some_digit true false s u w is p g e = rw (g, some_half w is, ← e) (ap not (eqb_half 0 s 0 u 0 p refl))
some_digit false b s u w is p g e = rw (some_half w is, ← e) (ap not (eqb_half 0 s 0 u 0 (omega (arith, p)) refl))

pub and_some : (n m w : ℕ) → m < 2 ^ n → not (eqb (bit_and m w) 0) ≡ some (marked w) (members_below m n)
unfolding members_below
and_some zero m w h =
    let e : m ≡ 0 = omega arith in
    rw e
and_some (suc n) m w h =
    rw (below_half m n) (some_digit (has m 0) (has w 0) (bit_and m w) (bit_and (m / 2) (w / 2)) w (members_below (m / 2) n)
    (omega (arith, and_step m w, has_low m, has_low w)) refl (and_some n (m / 2) (w / 2) (omega arith)))
