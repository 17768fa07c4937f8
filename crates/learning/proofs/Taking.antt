-- The lists taken into the table's places, a turn of each walk and its end. Assumes nothing.
use mathlib.Core.Path.{◌≡◌, refl, sym, ap, ◌∙◌}
use mathlib.Core.Bool.{Bool, true, false}
use mathlib.Core.List.{List, [], ◌∷◌, map}
use Prim.Native.Nat.{ℕ, suc, ◌+◌, ◌-◌, ◌*◌, ◌/◌, ◌%◌, ◌^◌, ◌≤◌, ◌<◌}
use native.Mathlib.Omega.{arith}
use native.Mathlib.Numerals.{add-one}
use native.Mathlib.Nat.{pow-le-pow_right}
use native.Mathlib.Nat.{two-pow-succ}
use borrow.Author.Tests.{lt-ltb, le-ltb, leb-true, leb-false}
use mir.Syntax.{w64}
use mir.Val.{Fits}
use lib.Dec.{leb, ltb, lit<}
use lib.ListN.{length, drop, get_or, set, length-map, length-set, length-drop, get_or-map, drop_of_length-le}
use lib.Seq.{drop-cons}
use Rattle.bsmp.specs.Base.{every, bit, marks_of}
use Rattle.bsmp.proofs.Marks.{marks_below}
use Rattle.copies.specs.Put.{put}
use Rattle.bsmp.specs.declared.Curve.{Curve}
use Rattle.asking.specs.Learned.{curves_from}
use Rattle.listed.specs.Listed.{curve_in}
use Rattle.listed.proofs.Fives.{five_next}
use Rattle.learning.specs.Taking.{curves_taken, functions_taken}
use Rattle.copies.proofs.Put.{put_set, put_nil, put_turn, put_done, drop_one}

-- sizes: each byte's low seven bits ---------------------------------------------------------------------------------------------
abbrev pub low_seven : List ℕ → List ℕ
low_seven l = map (λ b. b % 128) l

pub sizes_next : (d l : List ℕ) (i : ℕ) → i < length d → i < length l → put (set d i (get_or l i 0 % 128)) (i + 1) (drop (i + 1) (low_seven l)) ≡ put d i (drop i (low_seven l))
sizes_next d l i h k =
    ap (λ x. put (set d i x) (i + 1) (drop (i + 1) (low_seven l))) (sym (get_or-map (λ b. b % 128) l i 0))
    ∙ put_turn d i (low_seven l) i h (rw (length-map l (λ b. b % 128)) k)

pub sizes_end : (d l x : List ℕ) (i : ℕ) → length l ≤ i → put d i (drop i (low_seven l)) ≡ x → d ≡ x
sizes_end d l x i h e = sym (put_done d i (low_seven l) i (rw (length-map l (λ b. b % 128)) h)) ∙ e

-- marks: the top bits, from the last to the first ----------------------------------------------------------------------------------
pub record TopBits (l : List ℕ) (m i : ℕ) : Type 0 where
  pub inside : i ≤ length l
  pub few : length l ≤ 64
  pub marks : m ≡ marks_of (map (leb 128) (drop i l))

pub bits_start : (l : List ℕ) → length l ≤ 64 → TopBits l 0 (length l)
bits_start l h = let k : length l ≤ length l = omega arith in record { inside = k; few = h; marks = ap (λ r. marks_of (map (leb 128) r)) (sym (drop_of_length-le l k)) }

top_bit : (x : ℕ) → x < 2 ^ 8 → bit (leb 128 x) ≡ x / 128
top_bit x h = by (leb 128 x) refl
  where
    by : (b : Bool) → leb 128 x ≡ b → bit b ≡ x / 128
    by true e = let k = leb-true 128 x e in omega arith
    by false e = let k = leb-false 128 x e in omega arith

module _ (l : List ℕ) (m i : ℕ) (t : TopBits l m i) (h : 0 < i) where
  pub bits_within : i - 1 < length l
  bits_within = omega (arith, t.inside)

  small : m + m + 2 ≤ 2 ^ 64
  small =
      let k : length (map (leb 128) (drop i l)) + 1 ≤ 64 = rw (length-map, length-drop) (omega (arith, t.inside, t.few)) in
      let b = marks_below (map (leb 128) (drop i l)) in
      let p : 2 ^ (length (map (leb 128) (drop i l)) + 1) ≤ 2 ^ 64 = pow-le-pow_right (lit< tt) k in
      omega (arith, t.marks, b, rw (add-one, two-pow-succ) at p)

  pub bits_twice : Fits w64 (2 * m)
  bits_twice = record { fits = omega (arith, small) }

  module _ (byte : get_or l (i - 1) 0 < 2 ^ 8) where
    pub bits_fit : Fits w64 (2 * m + get_or l (i - 1) 0 / 128)
    bits_fit = record { fits = omega (arith, small, byte) }

    pub bits_next : TopBits l (2 * m + get_or l (i - 1) 0 / 128) (i - 1)
    bits_next =
        let o : suc (i - 1) ≡ i = omega arith in
        let d = rw o at (drop-cons l (i - 1) 0 bits_within) in
        let b = top_bit (get_or l (i - 1) 0) byte in
        record { inside = omega (arith, t.inside); few = t.few; marks = rw (d, ← t.marks, b) (omega arith) }

pub bits_end : (l : List ℕ) (m i : ℕ) → TopBits l m i → i ≤ 0 → m ≡ marks_of (map (leb 128) l)
bits_end l m i t h = let z : i ≡ 0 = omega arith in rw z at t.marks

-- functions: two numbers for a byte --------------------------------------------------------------------------------------------------
pub functions_next : (d l : List ℕ) (i : ℕ) → 2 * i + 1 < length d → i < length l
    → put (set (set d (2 * i) (get_or l i 0 / 16)) (2 * i + 1) (get_or l i 0 % 16)) (2 * (i + 1)) (functions_taken (drop (i + 1) l)) ≡ put d (2 * i) (functions_taken (drop i l))
functions_next d l i h k =
    let x : ℕ = get_or l i 0 in
    let at : 2 * (i + 1) ≡ 2 * i + 1 + 1 = omega arith in
    let v : List ℕ = functions_taken (drop (i + 1) l) in
    ap (λ j. put (set (set d (2 * i) (x / 16)) (2 * i + 1) (x % 16)) j v) at
    ∙ put_set (set d (2 * i) (x / 16)) (2 * i + 1) (x % 16) v (simp length-set (omega arith))
    ∙ put_set d (2 * i) (x / 16) (x % 16 ∷ v) (omega arith)
    ∙ ap (λ r. put d (2 * i) (functions_taken r)) (sym (drop_one l i k))

pub functions_end : (d l x : List ℕ) (i : ℕ) → length l ≤ i → put d (2 * i) (functions_taken (drop i l)) ≡ x → d ≡ x
functions_end d l x i h e = sym (put_nil d (2 * i)) ∙ ap (λ r. put d (2 * i) (functions_taken r)) (sym (drop_of_length-le l h)) ∙ e

-- curves: three numbers for five bytes ---------------------------------------------------------------------------------------------------
pub curves_next : (d l : List ℕ) (at i : ℕ) (c : Curve) → at + 2 < length d → i + 4 < length l → c ≡ curve_in l i
    → put (set (set (set d at c.writable) (at + 1) c.size) (at + 2) c.blocks) (at + 3) (curves_taken (curves_from (drop (i + 5) l)))
    ≡ put d at (curves_taken (curves_from (drop i l)))
curves_next d l at i c h k e =
    let v : List ℕ = curves_taken (curves_from (drop (i + 5) l)) in
    let two : at + 2 ≡ at + 1 + 1 = omega arith in
    let three : at + 3 ≡ at + 2 + 1 = omega arith in
    ap (λ j. put (set (set (set d at c.writable) (at + 1) c.size) (at + 2) c.blocks) j v) three
    ∙ put_set (set (set d at c.writable) (at + 1) c.size) (at + 2) c.blocks v (simp length-set (omega arith))
    ∙ ap (λ j. put (set (set d at c.writable) (at + 1) c.size) j (c.blocks ∷ v)) two
    ∙ put_set (set d at c.writable) (at + 1) c.size (c.blocks ∷ v) (simp length-set (omega arith))
    ∙ put_set d at c.writable (c.size ∷ c.blocks ∷ v) (omega arith)
    ∙ ap (λ x. put d at (curves_taken (x ∷ curves_from (drop (i + 5) l)))) e
    ∙ ap (λ cs. put d at (curves_taken cs)) (sym (five_next l i k))

pub curves_end : (d l x : List ℕ) (at i : ℕ) → length l ≤ i + 4 → put d at (curves_taken (curves_from (drop i l))) ≡ x → d ≡ x
curves_end d l x at i h e = sym (put_nil d at) ∙ ap (λ cs. put d at (curves_taken cs)) (sym (no_curve_lem (drop i l) (simp length-drop (omega arith)))) ∙ e
  where
    no_curve_lem : (p : List ℕ) → length p ≤ 4 → curves_from p ≡ []
    no_curve_lem [] h = refl
    no_curve_lem (a ∷ []) h = refl
    no_curve_lem (a ∷ b ∷ []) h = refl
    no_curve_lem (a ∷ b ∷ c ∷ []) h = refl
    no_curve_lem (a ∷ b ∷ c ∷ d ∷ []) h = refl
    no_curve_lem (a ∷ b ∷ c ∷ d ∷ e ∷ p) h = absurd (omega (arith, h))

-- IDs of known variables -----------------------------------------------------------------------------------------------------------------
abbrev pub known_ids : ℕ → List ℕ → Bool
known_ids n ids = every (λ i. ltb i n) ids

pub known_next : (n : ℕ) (ids : List ℕ) (i : ℕ) → i < length ids → get_or ids i 0 < n → known_ids n (drop (i + 1) ids) ≡ known_ids n (drop i ids)
known_next n ids i h k = rw (drop_one ids i h, lt-ltb (get_or ids i 0) n k)

pub known_not : (n : ℕ) (ids : List ℕ) (i : ℕ) (b : Bool) → i < length ids → n ≤ get_or ids i 0 → known_ids n (drop i ids) ≡ b → false ≡ b
known_not n ids i b h k e = sym (rw (drop_one ids i h, le-ltb (get_or ids i 0) n k)) ∙ e

pub known_all : (n : ℕ) (ids : List ℕ) (i : ℕ) (b : Bool) → length ids ≤ i → known_ids n (drop i ids) ≡ b → true ≡ b
known_all n ids i b h e = sym (ap (known_ids n) (drop_of_length-le ids h)) ∙ e
