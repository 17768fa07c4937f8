-- The blocks' lengths: that full ones fit, and all of them filled. Assumes nothing.
use mathlib.Core.Path.{◌≡◌, refl, sym, ap, ap₂, ◌∙◌}
use mathlib.Core.Bool.{true}
use mathlib.Core.List.{List, [], ◌∷◌, ◌++◌, append_assoc, append-nil}
use Prim.Native.Nat.{ℕ, zero, suc, ◌+◌, ◌-◌, ◌*◌, ◌≤◌, ◌<◌}
use native.Mathlib.Nat.{add-sub_cancel_left}
use native.Mathlib.Omega.{arith}
use native.Mathlib.Numerals.{add-one}
use lib.ListN.{length, take, drop, get_or, replicate, length-append, length-take, length-drop, drop_of_length-le}
use lib.Seq.{take_at, drop_at, drop-drop, take_all}
use mir.Syntax.{w64}
use mir.Val.{Fits}
use borrow.Rule.Slice.PartMut.{mid_of, put_mid}
use Rattle.bsmp.specs.Board.{blank_curve, block_sizes, usable_curves}
use Rattle.bsmp.specs.declared.Curve.{Curve}
use Rattle.bsmp.proofs.Fresh.{curves_fit}
use Rattle.records.specs.Lending.{curve_blocks}
use Rattle.records.proofs.Blocks.{block_count, blocks_next, blocks_within, blocks_add, blocks_front, before_start}
use Rattle.curves.specs.Fits.{SoundLengths}

-- full blocks fit
pub full_sound : (cs : List Curve) (ns : List ℕ) → usable_curves cs ≡ true → ns ≡ block_sizes cs → SoundLengths cs ns
full_sound cs ns u e = record { fit = rw e (curves_fit cs u) }

-- the walk over all curves: the blocks of the first i, `first` of them, are full, the others' lengths as they were
sizes_next : (cs : List Curve) (i : ℕ) (x : Curve) → i < length cs → x ≡ get_or cs i blank_curve
    → block_sizes (take (suc i) cs) ≡ block_sizes (take i cs) ++ replicate x.blocks x.size
sizes_next [] i x h e = absurd (omega (arith, h))
sizes_next (c ∷ cs) zero x h e = rw e (append-nil (replicate c.blocks c.size))
sizes_next (c ∷ cs) (suc i) x h e =
    let r : List ℕ = replicate c.blocks c.size in
    ap (r ++◌) (sizes_next cs i x (omega (arith, h)) e) ∙ sym (append_assoc r (block_sizes (take i cs)) (replicate x.blocks x.size))

module _ (cs : List Curve) (ns₀ : List ℕ) where
  pub record FillingAll (i first : ℕ) (ns : List ℕ) : Type 0 where
    pub inside : i ≤ length cs
    pub place : first ≡ curve_blocks (take i cs)
    pub same : length ns ≡ length ns₀
    pub holds : ns ≡ block_sizes (take i cs) ++ drop first ns₀

  pub all_start : FillingAll 0 0 ns₀
  all_start = record { inside = omega arith; place = before_start; same = refl; holds = refl }

  module _ (n i first : ℕ) (ns : List ℕ) (x : Curve) (u : usable_curves cs ≡ true) (z : length ns₀ ≡ length (block_sizes cs)) (l : n ≡ length cs) (h : i < n)
      (e : x ≡ get_or cs i blank_curve) (q : FillingAll i first ns) where
    pub all_inside : first + x.blocks ≤ length ns
    all_inside = omega (arith, blocks_within cs n i first x u (omega arith) h e q.place, block_count cs, q.same)

    pub all_front : Fits w64 (first * 2)
    all_front = blocks_front cs n i first x u (omega arith) h e q.place

    pub all_end_fits : Fits w64 (first + x.blocks)
    all_end_fits = blocks_add cs n i first x u (omega arith) h e q.place

    pub all_next : (ys : List ℕ) → ys ≡ replicate (length (mid_of first (first + x.blocks - first) ns)) x.size
        → FillingAll (i + 1) (first + x.blocks) (put_mid first (first + x.blocks - first) ns ys)
    all_next ys w =
        let b : List ℕ = block_sizes (take i cs) in
        let k : ℕ = x.blocks in
        let o : first + k - first ≡ k = add-sub_cancel_left first k in
        let m : length b ≡ first = block_count (take i cs) ∙ sym q.place in
        let f : length (mid_of first (first + k - first) ns) ≡ k = simp (length-take, length-drop) (omega (arith, all_inside)) in
        let y : ys ≡ replicate k x.size = w ∙ ap (λ j. replicate j x.size) f in
        let g : take first ns ≡ b = ap (take first) q.holds ∙ take_at b (drop first ns₀) first m in
        let r : drop first ns ≡ drop first ns₀ = ap (drop first) q.holds ∙ drop_at b (drop first ns₀) first m in
        let v : put_mid first (first + k - first) ns ys ≡ block_sizes (take (i + 1) cs) ++ drop (first + k) ns₀ =
        ap₂ (λ (a c : List ℕ). a ++ (ys ++ c)) g (ap₂ drop o r ∙ drop-drop k first ns₀)
        ∙ ap (λ (a : List ℕ). b ++ (a ++ drop (first + k) ns₀)) y
        ∙ sym (append_assoc b (replicate k x.size) (drop (first + k) ns₀))
        ∙ ap (◌++ drop (first + k) ns₀) (sym (ap (λ j. block_sizes (take j cs)) (add-one i) ∙ sizes_next cs i x (omega arith) e)) in
        record {
          inside = omega arith;
          place = blocks_next cs n i first x u (omega arith) h e q.place;
          same = rw v (rw (length-append, block_count, ← blocks_next cs n i first x u (omega arith) h e q.place, length-drop) (omega (arith, all_inside, q.same)));
          holds = v;
        }

  pub all_end : (n i first : ℕ) (ns : List ℕ) → length ns₀ ≡ length (block_sizes cs) → n ≡ length cs → n ≤ i → FillingAll i first ns → ns ≡ block_sizes cs
  all_end n i first ns z l h q =
      let t : take i cs ≡ cs = take_all i cs (omega arith) in
      let k : drop first ns₀ ≡ [] = drop_of_length-le ns₀ {i = first} (rw (q.place, t) (omega (arith, z, block_count cs))) in
      q.holds ∙ ap₂ (λ (a : List Curve) (c : List ℕ). block_sizes a ++ c) t k ∙ append-nil (block_sizes cs)
