-- Curve records as the list of curves has them, five bytes each, which the code walks. Assumes nothing.
use mathlib.Core.Path.{◌≡◌, refl, sym, ap}
use mathlib.Core.Bool.{Bool, true, false, not, ◌&&◌, and-true as and-on}
use mathlib.Core.List.{List, [], ◌∷◌}
use Prim.Native.Nat.{ℕ, suc, ◌+◌, ◌*◌, ◌/◌, ◌≤◌, ◌<◌}
use native.Mathlib.Omega.{arith}
use Rattle.std.proofs.Common.{◌%◌, ◌⊎◌, inl, inr}
use lib.Dec.{leb, eqb}
use lib.ListN.{length, drop, length-drop}
use lib.Seq.{drop-cons}
use mir.Syntax.{w32}
use mir.Val.{Fits}
use borrow.Author.Tests.{le-leb, eq-eqb, ne_eqb, eqb-true}
use Rattle.bsmp.specs.Base.{sum, every}
use Rattle.bsmp.specs.Board.{usable_curve, usable_curves}
use Rattle.bsmp.specs.declared.Curve.{Curve}
use Rattle.records.specs.Lending.{curve_bytes}
use Rattle.rules.proofs.Checks.{curves_many, curves_broken, curve_fits, curve_sum_small, curve_sum_fits, right_off}
use Rattle.asking.specs.Learned.{curves_from}
use Rattle.listed.specs.Listed.{curve_in}

-- a whole record at place i, and what is left of one that is cut off
module _ (p : List ℕ) (i : ℕ) where
  pub five_next : i + 4 < length p → curves_from (drop i p) ≡ curve_in p i ∷ curves_from (drop (i + 5) p)
  five_next h =
      let a : i < length p = omega arith in
      let b : suc i < length p = omega arith in
      let c : suc (suc i) < length p = omega arith in
      let d : suc (suc (suc i)) < length p = omega arith in
      let e : suc (suc (suc (suc i))) < length p = omega arith in
      let i₁ : i + 1 ≡ suc i = omega arith in
      let i₂ : suc i + 1 ≡ suc (suc i) = omega arith in
      let i₃ : i + 3 ≡ suc (suc (suc i)) = omega arith in
      let i₄ : suc (suc (suc i)) + 1 ≡ suc (suc (suc (suc i))) = omega arith in
      let i₅ : i + 5 ≡ suc (suc (suc (suc (suc i)))) = omega arith in
      rw (drop-cons p i 0 a, drop-cons p (suc i) 0 b, drop-cons p (suc (suc i)) 0 c, drop-cons p (suc (suc (suc i))) 0 d, drop-cons p (suc (suc (suc (suc i)))) 0 e, i₁, i₂, i₃, i₄, i₅)

  five_cut : length p ≤ i + 4 → curves_from (drop i p) ≡ []
  five_cut h = by (drop i p) (simp length-drop (omega arith))
    where
      by : (l : List ℕ) → length l < 5 → curves_from l ≡ []
      by [] k = refl
      by (a ∷ []) k = refl
      by (a ∷ b ∷ []) k = refl
      by (a ∷ b ∷ c ∷ []) k = refl
      by (a ∷ b ∷ c ∷ d ∷ []) k = refl
      by (a ∷ b ∷ c ∷ d ∷ e ∷ l) k = absurd (omega (arith, k))

-- at place i, which is a record's: the curves before it have s bytes
pub record Stepped (p : List ℕ) (s i : ℕ) : Type 0 where
  pub inside : i ≤ length p
  pub counted : i + 5 * length (curves_from (drop i p)) ≡ 5 * length (curves_from p)
  pub usable : every usable_curve (curves_from (drop i p)) ≡ every usable_curve (curves_from p)
  pub summed : s + curve_bytes (curves_from (drop i p)) ≡ curve_bytes (curves_from p)
  pub small : s ≤ 268435456 * (i / 5)

module _ (p : List ℕ) where
  abbrev Tells : Bool → Type 0
  Tells r = r ≡ (eqb (5 * length (curves_from p)) (length p) && usable_curves (curves_from p))

  unusable : usable_curves (curves_from p) ≡ false → Tells false
  unusable h = sym (right_off (eqb (5 * length (curves_from p)) (length p)) _ h)

  -- more than 40 bytes, or a record that is cut off
  fives_many : 40 < length p → Tells false
  fives_many h = by (eqb (5 * length (curves_from p)) (length p)) refl
    where
      by : (b : Bool) → eqb (5 * length (curves_from p)) (length p) ≡ b → Tells false
      by true e = unusable (curves_many (curves_from p) _ refl (omega (arith, eqb-true (5 * length (curves_from p)) (length p) e)))
      by false e = rw e

  fives_cut : (length p % 5 ≡ 0 → ⊥) → Tells false
  fives_cut h = let n : 5 * length (curves_from p) ≡ length p → ⊥ = λ e. h (omega arith) in rw (ne_eqb (5 * length (curves_from p)) (length p) n)

  pub fives_out : (length p % 5 ≡ 0 → ⊥) ⊎ ((length p % 5 ≡ 0) × (40 < length p)) → Tells false
  fives_out o = elim o [ inl h ↦ fives_cut h | inr h ↦ fives_many h.1 ]

  pub stepped_start : Stepped p 0 0
  stepped_start = record { inside = omega arith; counted = omega arith; usable = refl; summed = omega arith; small = omega arith }

  -- the record v that stands at i, and what its test b gave
  module _ (s i : ℕ) (v : Curve) (b : Bool) (h : i + 4 < length p) (q : Stepped p s i) (e : v ≡ curve_in p i) (t : b ≡ usable_curve v) where
    here : curves_from (drop i p) ≡ v ∷ curves_from (drop (i + 5) p)
    here = rw e (five_next p i h)

    pub stepped_stop : b ≡ false → Tells false
    stepped_stop k = unusable (curves_broken (curves_from p) (sym (rw (here, ← t, k) at q.usable)))

    module _ (k : b ≡ true) where
      next : (i + 5) / 5 ≡ i / 5 + 1
      next = omega arith

      pub stepped_mul : Fits w32 (v.size * v.blocks)
      stepped_mul = curve_fits v b t (ap not k)

      pub stepped_fits : length p ≤ 40 → Fits w32 (s + v.size * v.blocks)
      stepped_fits l = curve_sum_fits v b t (ap not k) s (i / 5) 8 q.small (omega arith) (omega arith)

      pub stepped_next : Stepped p (s + v.size * v.blocks) (i + 5)
      unfolding sum
      stepped_next = record {
        inside = omega arith;
        counted = omega (arith, rw here at q.counted);
        usable = rw (here, ← t, k) at q.usable;
        summed = omega (arith, rw here at q.summed);
        small = rw next (curve_sum_small v b t (ap not k) s (i / 5) q.small);
      }

  -- no whole record is left
  module _ (s i : ℕ) (h : length p ≤ i + 4) (q : Stepped p s i) where
    told : i ≡ 5 * length (curves_from p)
    told = omega (arith, rw (five_cut p i h) at q.counted)

    pub stepped_end : length p ≤ 40 → i ≡ length p → Tells (leb s 65536)
    unfolding usable_curves sum
    stepped_end l n =
        let c : length (curves_from p) ≤ 8 = omega (arith, told) in
        let u : true ≡ every usable_curve (curves_from p) = rw (five_cut p i h) at q.usable in
        let z : s ≡ curve_bytes (curves_from p) = omega (arith, rw (five_cut p i h) at q.summed) in
        rw (← told, eq-eqb i (length p) n, le-leb (length (curves_from p)) 8 c, ← u, ← z) (sym (and-on (leb s 65536)))
