-- Lengths as the code tests them: curve after curve, or all in one walk where the blocks have one size. Assumes nothing.
use mathlib.Core.Path.{◌≡◌, refl, sym, ap, ap₂, ◌∙◌}
use mathlib.Core.Bool.{Bool, true, false, not, ◌&&◌, and_assoc, and-true as and-on}
use mathlib.Core.List.{List, [], ◌∷◌, ◌++◌, append-nil}
use Prim.Native.Nat.{ℕ, zero, suc, ◌+◌, ◌-◌, ◌*◌, ◌≤◌, ◌<◌}
use native.Mathlib.Omega.{arith}
use native.Mathlib.Numerals.{add-one}
use native.Mathlib.Decide.{dec_lt}
use lib.Dec.{eqb}
use lib.ListN.{length, take, drop, get_or, replicate, drop_of_length-le, length-drop, replicate-append-replicate, get_or-eq_default}
use lib.Seq.{drop-cons, drop-drop, take_all}
use mir.Syntax.{w16, w64}
use mir.Val.{Fits}
use borrow.Author.Tests.{eqb-true, not-true, not-false}
use borrow.Rule.Slice.PartMut.{mid_of}
use Rattle.bsmp.specs.Base.{sum, every, within}
use Rattle.bsmp.specs.Board.{blank_curve, block_sizes, fitting, usable_curves}
use Rattle.bsmp.specs.declared.Curve.{Curve}
use Rattle.bsmp.proofs.Bools.{and_true, not_so}
use Rattle.bsmp.proofs.Lengths.{fitting_count}
use Rattle.records.specs.Lending.{curve_blocks}
use Rattle.records.proofs.Sound.{curve_size}
use Rattle.records.proofs.Blocks.{block_count, blocks_next, blocks_within, blocks_add, blocks_front}
use Rattle.rules.specs.Totals.{common_size, first_size, curves_total}
use Rattle.rules.specs.declared.CurveTotal.{CurveTotal}
use Rattle.std.specs.Prelude.{Some}
use Rattle.rules.proofs.Totals.{told_usable, told_some}
use Rattle.rules.proofs.Thirds.{of_size}

-- k blocks of one size before others
fitting_part : (k z : ℕ) (ms ns : List ℕ) → k ≤ length ns → fitting (replicate k z ++ ms) ns ≡ (every (within 1 z) (take k ns) && fitting ms (drop k ns))
fitting_part zero z ms ns h = refl
fitting_part (suc k) z ms [] h = absurd (omega (arith, h))
fitting_part (suc k) z ms (n ∷ ns) h = ap (within 1 z n &&◌) (fitting_part k z ms ns (omega (arith, h))) ∙ sym (and_assoc (within 1 z n) _ _)

-- all blocks in one walk ------------------------------------------------------------------------------------------------------
one_size : (z : ℕ) (cs : List Curve) → every (of_size z) cs ≡ true → block_sizes cs ≡ replicate (curve_blocks cs) z
unfolding sum
one_size z [] h = refl
one_size z (c ∷ cs) h =
    let w : (eqb c.size z ≡ true) × (every (of_size z) cs ≡ true) = and_true _ _ h in
    ap₂ (λ n ms. replicate c.blocks n ++ ms) (eqb-true _ _ w.0) (one_size z cs w.1) ∙ replicate-append-replicate c.blocks (curve_blocks cs) z

first_short : (cs : List Curve) → usable_curves cs ≡ true → first_size cs ≤ 4096
first_short cs u = by (dec_lt 0 (length cs))
  where
    by : Dec (0 < length cs) → first_size cs ≤ 4096
    by (yes k) = (curve_size cs u 0 k).1
    by (no k) = let o : first_size cs ≡ 0 = ap (λ (c : Curve). c.size) (get_or-eq_default cs blank_curve (omega arith)) in omega (arith, o)

-- d is what the curves add up to
module _ (cs : List Curve) (d : CurveTotal) (e : Some d ≡ curves_total cs) where
  pub usable_ones : usable_curves cs ≡ true
  usable_ones = told_usable _ _ d e

  blocks_told : d.blocks ≡ curve_blocks cs
  blocks_told = ap (λ (y : CurveTotal). y.blocks) (told_some _ _ d e)

  -- z is the size of all blocks
  module _ (z : ℕ) (t : d.size ≡ Some z) where
    size_told : Some z ≡ common_size cs
    size_told = sym t ∙ ap (λ (y : CurveTotal). y.size) (told_some _ _ d e)

    pub common_fits : Fits w16 z
    common_fits = record { fits = omega (arith, told_some _ _ z size_told, first_short cs usable_ones) }

    each_alike : every (of_size z) cs ≡ true
    each_alike = let o : z ≡ first_size cs = told_some _ _ z size_told in ap (λ n. every (of_size n) cs) o ∙ told_usable _ _ z size_told

  module _ (ns : List ℕ) where
    pub lengths_counted : d.blocks ≡ length ns → length ns ≡ curve_blocks cs
    lengths_counted h = sym h ∙ blocks_told

    pub lengths_uneven : (d.blocks ≡ length ns → ⊥) → false ≡ fitting (block_sizes cs) ns
    lengths_uneven n = sym (not_so _ (λ f. n (blocks_told ∙ sym (block_count cs) ∙ sym (fitting_count (block_sizes cs) ns f))))

    pub fitted_at_once : (z : ℕ) (b : Bool) → d.blocks ≡ length ns → d.size ≡ Some z → b ≡ every (within 1 z) ns → b ≡ fitting (block_sizes cs) ns
    fitted_at_once z b l t q =
        let n : length ns ≡ curve_blocks cs = lengths_counted l in
        let o : block_sizes cs ≡ replicate (curve_blocks cs) z ++ [] = rw append-nil (one_size z cs (each_alike z t)) in
        let k : take (curve_blocks cs) ns ≡ ns = take_all (curve_blocks cs) ns (omega arith) in
        let y : drop (curve_blocks cs) ns ≡ [] = drop_of_length-le ns {i = curve_blocks cs} (omega arith) in
        q ∙ sym (ap (λ ms. fitting ms ns) o ∙ fitting_part (curve_blocks cs) z [] ns (omega arith) ∙ rw (k, y) (and-on _))

-- curve after curve: the walk stands at curve i, whose first length is at `first`, and so far each fitted ---------------------
pub record Fitted (cs : List Curve) (ns : List ℕ) (first i : ℕ) : Type 0 where
  pub inside : i ≤ length cs
  pub start : first ≡ curve_blocks (take i cs)
  pub rest : fitting (block_sizes (drop i cs)) (drop first ns) ≡ fitting (block_sizes cs) ns

module _ (cs : List Curve) (ns : List ℕ) where
  pub fitted_start : Fitted cs ns 0 0
  unfolding sum
  fitted_start = record { inside = omega arith; start = refl; rest = refl }

  module _ (u : usable_curves cs ≡ true) (l : length ns ≡ curve_blocks cs) (n first i : ℕ) (x : Curve) (m : n ≡ length cs) (h : i < n) (e : x ≡ get_or cs i blank_curve)
      (q : Fitted cs ns first i) where
    pub fitted_add : Fits w64 (first + x.blocks)
    fitted_add = blocks_add cs n i first x u (omega arith) h e q.start

    pub fitted_inside : first + x.blocks ≤ length ns
    fitted_inside = rw l (blocks_within cs n i first x u (omega arith) h e q.start)

    pub fitted_front : Fits w64 (first * 2)
    fitted_front = blocks_front cs n i first x u (omega arith) h e q.start

    module _ (b : Bool) (t : b ≡ every (within 1 x.size) (mid_of first (first + x.blocks - first) ns)) where
      here : (b && fitting (block_sizes (drop (i + 1) cs)) (drop (first + x.blocks) ns)) ≡ fitting (block_sizes cs) ns
      here =
          let o : first + x.blocks - first ≡ x.blocks = omega arith in
          let w : drop i cs ≡ x ∷ drop (i + 1) cs = rw (add-one, e) (drop-cons cs i blank_curve (omega arith)) in
          let r : x.blocks ≤ length (drop first ns) = simp length-drop (omega (arith, fitted_inside)) in
          ap₂ ◌&&◌ (rw o at t) (ap (fitting (block_sizes (drop (i + 1) cs))) (sym (drop-drop x.blocks first ns)))
          ∙ sym (fitting_part x.blocks x.size (block_sizes (drop (i + 1) cs)) (drop first ns) r)
          ∙ ap (λ ys. fitting (block_sizes ys) (drop first ns)) (sym w)
          ∙ q.rest

      pub fitted_next : not b ≡ false → Fitted cs ns (first + x.blocks) (i + 1)
      fitted_next k = record { inside = omega arith; start = blocks_next cs n i first x u (omega arith) h e q.start; rest = rw (not-false b k) at here }

      pub fitted_stop : not b ≡ true → false ≡ fitting (block_sizes cs) ns
      fitted_stop k = rw (not-true b k) at here
