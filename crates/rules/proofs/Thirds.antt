-- The walk over the curve records: their test, their bytes and blocks, and whether they are of one size, together. Assumes nothing.
use mathlib.Core.Path.{◌≡◌, refl, ◌∙◌}
use mathlib.Core.Bool.{Bool, true, false, not, ◌&&◌, false≢true}
use mathlib.Core.Logic.{◌⊎◌, inl, inr}
use mathlib.Core.List.{List}
use Prim.Native.Nat.{ℕ, ◌+◌, ◌*◌, ◌/◌, ◌%◌, ◌≤◌, ◌<◌}
use native.Mathlib.Omega.{arith}
use lib.Dec.{leb, eqb}
use lib.ListN.{length, drop, get_or}
use Rattle.std.specs.Prelude.{Option}
use Rattle.std.specs.Bool.{then_some}
use Rattle.bsmp.specs.Base.{every}
use Rattle.bsmp.specs.Board.{blank_curve, usable_curve, usable_curves}
use Rattle.bsmp.specs.declared.Curve.{Curve}
use Rattle.bsmp.proofs.Bools.{not_so}
use Rattle.records.specs.Lending.{curves_of, curve_bytes, curve_blocks}
use Rattle.rules.specs.declared.CurveTotal.{CurveTotal}
use Rattle.rules.specs.Totals.{first_size, curves_total}
use Rattle.bsmp.proofs.Lists.{every_at}
use Rattle.records.proofs.Walk.{Walked, walked_start, walked_next, walked_stop, walked_end, sum_next, sum_end, all_next, all_end}
use Rattle.records.proofs.Lending.{curve_count, curve_broken}
use Rattle.rules.proofs.Checks.{curves_many, curves_broken, curves_last, curve_sum_small, curve_count_small}

abbrev pub of_size : ℕ → Curve → Bool
of_size n c = eqb c.size n

-- of the curves before curve i: s bytes in k blocks, and a says whether each is of this size
pub record Stepped (cs : List Curve) (size : ℕ) (a : Bool) (s k i : ℕ) : Type 0 where
  pub walked : Walked usable_curve cs i
  pub summed : s + curve_bytes (drop i cs) ≡ curve_bytes cs
  pub small : s ≤ 268435456 * i
  pub counted : k + curve_blocks (drop i cs) ≡ curve_blocks cs
  pub few : k ≤ 65536 * i
  pub alike : (a && every (of_size size) (drop i cs)) ≡ every (of_size size) cs

-- the numbers that are lent, three to a record
module _ (ns : List ℕ) where
  pub curves_over : 24 < length ns → usable_curves (curves_of ns) ≡ false
  curves_over h = curves_many (curves_of ns) ((length ns + 2) / 3) (curve_count ns) (omega arith)

  pub whole_count : length ns % 3 ≡ 0 → length ns / 3 ≡ length (curves_of ns)
  whole_count h = omega (arith, curve_count ns)

  -- a record that is cut off
  pub cut_off : (length ns % 3 ≡ 0 → ⊥) → usable_curves (curves_of ns) ≡ false
  cut_off h =
      let k : length ns / 3 < length (curves_of ns) = omega (arith, curve_count ns) in
      curves_broken (curves_of ns) (not_so (every usable_curve (curves_of ns)) (λ u. bad (every_at usable_curve (curves_of ns) (length ns / 3) blank_curve u k)))
    where
      bad : usable_curve (get_or (curves_of ns) (length ns / 3) blank_curve) ≡ true → ⊥
      bad u = let z = rw (← curve_broken ns (length ns / 3) (omega arith)) at u in false≢true z

  pub curves_refused : (n : ℕ) → n ≡ length ns / 3 → (8 < n) ⊎ ((8 < n → ⊥) × (n ≡ length (curves_of ns) → ⊥)) → usable_curves (curves_of ns) ≡ false
  curves_refused n e (inl h) = curves_over (omega arith)
  curves_refused n e (inr h) = cut_off (λ z. h.1 (e ∙ whole_count z))

  -- the same where the two counts were compared
  pub counts_equal : (k : ℕ) → length ns / 3 ≡ k → k ≡ length (curves_of ns) → length ns / 3 ≡ length (curves_of ns)
  counts_equal k w e = omega arith

module _ (cs : List Curve) (n size : ℕ) (l : n ≡ length cs) where
  pub stepped_start : Stepped cs size true 0 0 0
  stepped_start = record { walked = walked_start usable_curve cs; summed = omega arith; small = omega arith; counted = omega arith; few = omega arith; alike = refl }

  module _ (a : Bool) (s k i : ℕ) (q : Stepped cs size a s k i) where
    -- curve i, and what its test b gave
    module _ (x : Curve) (b : Bool) (h : i < n) (e : x ≡ get_or cs i blank_curve) (t : b ≡ usable_curve x) where
      pub stepped_stop : not b ≡ true → usable_curves cs ≡ false
      stepped_stop z = curves_broken cs (walked_stop usable_curve cs n i x blank_curve b l h e t z q.walked)

      module _ (z : not b ≡ false) where
        pub stepped_next : Stepped cs size (a && eqb x.size size) (s + x.size * x.blocks) (k + x.blocks) (i + 1)
        stepped_next = record {
          walked = walked_next usable_curve cs n i x blank_curve b l h e t z q.walked;
          summed = sum_next cs n i x blank_curve l h e (λ c. c.size * c.blocks) s _ _ refl q.summed;
          small = curve_sum_small x b t z s i q.small;
          counted = sum_next cs n i x blank_curve l h e (λ c. c.blocks) k _ _ refl q.counted;
          few = curve_count_small x b t z k i q.few;
          alike = all_next cs n i x blank_curve l h e (of_size size) a _ _ refl q.alike;
        }

    -- past the last
    pub stepped_end : (z : Option ℕ) (y : Option CurveTotal) → n ≤ 8 → n ≤ i → size ≡ first_size cs → z ≡ then_some a size
        → y ≡ then_some (leb s 65536) (record { bytes = s; blocks = k; size = z }) → y ≡ curves_total cs
    stepped_end z y m h f g o =
        let d : s ≡ curve_bytes cs = sum_end cs n i l h (λ c. c.size * c.blocks) s _ q.summed in
        let u : usable_curves cs ≡ leb s 65536 = curves_last cs n s l m (walked_end usable_curve cs n i l h q.walked) d in
        let w : k ≡ curve_blocks cs = sum_end cs n i l h (λ c. c.blocks) k _ q.counted in
        let t : a ≡ every (of_size size) cs = all_end cs n i l h (of_size size) a _ q.alike in
        rw (o, g, u, d, w, t, f)
