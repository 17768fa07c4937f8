-- What a curve's blocks hold, one after another, and where code finds them. Assumes nothing.
use mathlib.Core.Path.{◌≡◌, refl, sym, ap, ap₂, ◌∙◌}
use mathlib.Core.Bool.{true}
use mathlib.Core.List.{List, [], ◌∷◌, ◌++◌, map}
use Prim.Native.Nat.{ℕ, zero, suc, ◌+◌, ◌-◌, ◌*◌, ◌≤◌, ◌<◌}
use native.Mathlib.Nat.{add-zero, add-sub_cancel_left}
use native.Mathlib.Omega.{arith}
use native.Mathlib.Numerals.{add-one}
use lib.Dec.{leb}
use lib.ListN.{length, take, drop, get_or, length-take, length-drop}
use lib.Seq.{drop-cons, drop-drop, drop_at, take-add, take-take, length-take-le}
use mir.Syntax.{w64}
use mir.Val.{Fits}
use borrow.Author.Tests.{le-leb}
use borrow.Rule.Slice.PartMut.{mid_of}
use Rattle.bsmp.specs.Base.{sum, every, join, up_from, cut}
use Rattle.bsmp.specs.Board.{blank_curve, block_sizes, block_place, fitting, usable_curves}
use Rattle.bsmp.specs.Store.{start}
use Rattle.bsmp.specs.declared.Curve.{Curve}
use Rattle.bsmp.specs.declared.CurveNumber.{CurveNumber}
use Rattle.bsmp.proofs.Lengths.{fitting_count, fitting_most}
use Rattle.bsmp.proofs.Store.{piece, curve_bytes_lem}
use Rattle.lists.proofs.Sum.{total_take, total_within}
use Rattle.parts.specs.Parts.{curves_only}
use Rattle.records.specs.Lending.{curve_blocks, curve_bytes, start_of}
use Rattle.records.specs.declared.Start.{Start}
use Rattle.records.proofs.Sound.{curves_small, blocks_small}
use Rattle.records.proofs.Blocks.{before_within, blocks_within, block_count, block_size, curve_start}
use Rattle.curves.specs.Fits.{SoundCurves, SoundLengths}
use Rattle.sums.specs.Sums.{covered, Blocks, content_in}

-- of blocks with these sizes and lengths in a store, n from place k on, all of one size
module _ (ms ns s : List ℕ) (size : ℕ) (f : fitting ms ns ≡ true) where
  abbrev OneSize : (k n : ℕ) → Type 0
  OneSize k n = (j : ℕ) → j < n → get_or ms (k + j) 0 ≡ size

  one_size_first : (k n : ℕ) → OneSize k (suc n) → get_or ms k 0 ≡ size
  one_size_first k n o = ap (λ (i : ℕ). get_or ms i 0) (sym (add-zero k)) ∙ o 0 (omega arith)

  one_size_next : (k n : ℕ) → OneSize k (suc n) → OneSize (suc k) n
  one_size_next k n o j h = ap (λ (i : ℕ). get_or ms i 0) (omega arith) ∙ o (suc j) (omega arith)

  lengths_from : (k n : ℕ) → k + suc n ≤ length ms → take (suc n) (drop k ns) ≡ get_or ns k 0 ∷ take n (drop (suc k) ns)
  lengths_from k n h = ap (take (suc n)) (drop-cons ns k 0 (omega (arith, fitting_count ms ns f)))

  each_fits : (k n : ℕ) → k + n ≤ length ms → OneSize k n → every (λ m. leb m size) (take n (drop k ns)) ≡ true
  each_fits k zero h o = refl
  each_fits k (suc n) h o =
      let c : get_or ns k 0 ≤ size = rw (← one_size_first k n o) (fitting_most ms ns f k) in
      rw (lengths_from k n h, le-leb (get_or ns k 0) size c) (each_fits (suc k) n (omega arith) (one_size_next k n o))

  -- what they hold, one after another: by their own part of the store, and by the pieces of all
  hold : length s ≡ sum ms → (k n : ℕ) → k + n ≤ length ms → OneSize k n
      → covered size (take n (drop k ns)) (take (size * n) (drop (start ms k) s)) ≡ join (map (λ j. take (get_or ns j 0) (get_or (cut ms s) j [])) (up_from k n))
  unfolding covered
  hold z k zero h o = refl
  hold z k (suc n) h o =
      let own : get_or ms k 0 ≡ size = one_size_first k n o in
      let c : ℕ = get_or ns k 0 in
      let l : c ≤ size = rw (← own) (fitting_most ms ns f k) in
      let x : List ℕ = drop (start ms k) s in
      let m : size * suc n ≡ size + size * n = omega arith in
      let w : length (take size x) ≡ size = length-take-le size x (simp length-drop (omega (arith, total_within ms k (omega arith)))) in
      let next : drop size x ≡ drop (start ms (suc k)) s =
      drop-drop size (start ms k) s ∙ ap (λ (i : ℕ). drop i s) (sym (ap (start ms) (sym (add-one k)) ∙ total_take ms k (omega arith) ∙ ap (start ms k +◌) own)) in
      let first : take c (take (size * suc n) x) ≡ take c (get_or (cut ms s) k []) =
      take-take c (size * suc n) x (omega arith) ∙ sym (ap (take c) (piece ms s k (omega arith) ∙ ap (λ (i : ℕ). take i x) own) ∙ take-take c size x l) in
      let rest : drop size (take (size * suc n) x) ≡ take (size * n) (drop (start ms (suc k)) s) =
      ap (λ (i : ℕ). drop size (take i x)) m ∙ ap (drop size) (take-add size (size * n) x) ∙ drop_at (take size x) _ size w ∙ ap (take (size * n)) next in
      ap (λ (y : List ℕ). covered size y (take (size * suc n) x)) (lengths_from k n h)
      ∙ ap₂ (λ (y t : List ℕ). y ++ covered size (take n (drop (suc k) ns)) t) first rest
      ∙ ap (take c (get_or (cut ms s) k []) ++◌) (hold z (suc k) n (omega arith) (one_size_next k n o))

-- a curve's, as code works its place out: x is the curve's record, b where it starts
module _ (cs : List Curve) (c : CurveNumber) (x : Curve) (b : Start) (u : usable_curves cs ≡ true) (h : c.0 < length cs) (e : x ≡ get_or cs c.0 blank_curve)
    (q : b ≡ start_of (take c.0 cs)) where
  room : b.bytes + x.size * x.blocks ≤ curve_bytes cs
  room = before_within cs (length cs) c.0 b.bytes x u (omega arith) h e (ap (λ (y : Start). y.bytes) q)

  places : b.blocks + x.blocks ≤ curve_blocks cs
  places = blocks_within cs (length cs) c.0 b.blocks x u (omega arith) h e (ap (λ (y : Start). y.blocks) q)

  pub content_add : Fits w64 (b.bytes + x.size * x.blocks)
  content_add = record { fits = omega (arith, room, curves_small cs u) }

  pub content_end : Fits w64 (b.blocks + x.blocks)
  content_end = record { fits = omega (arith, places, blocks_small cs u) }

  there : b.blocks ≡ block_place (curves_only cs) c 0
  there = ap (λ (y : Start). y.blocks) q ∙ sym (add-zero (curve_blocks (take c.0 cs)))

  starts : start (block_sizes cs) b.blocks ≡ b.bytes
  starts = ap (start (block_sizes cs)) there ∙ curve_start cs c.0 x h e ∙ sym (ap (λ (y : Start). y.bytes) q)

  one_size : (j : ℕ) → j < x.blocks → get_or (block_sizes cs) (b.blocks + j) 0 ≡ x.size
  one_size j l = ap (λ (y : Start). get_or (block_sizes cs) (y.blocks + j) 0) q ∙ block_size cs c.0 x h e j l

  -- so they can be lent: as many lengths as it has blocks, of two bytes each, and its part of the store
  pub content_first : Fits w64 (b.blocks * 2)
  content_first = record { fits = omega (arith, places, blocks_small cs u) }

  module _ (s ns : List ℕ) (y : SoundCurves cs s) (z : SoundLengths cs ns) where
    pub blocks_inside : b.bytes + x.size * x.blocks ≤ length s
    blocks_inside = omega (arith, y.exact, curve_bytes_lem cs, room)

    pub lengths_inside : b.blocks + x.blocks ≤ length ns
    lengths_inside = omega (arith, places, block_count cs, fitting_count (block_sizes cs) ns z.fit)

    numbers : b.blocks + x.blocks ≤ length (block_sizes cs)
    numbers = omega (arith, places, block_count cs)

    bytes_count : b.bytes + x.size * x.blocks - b.bytes ≡ x.size * x.blocks
    bytes_count = add-sub_cancel_left b.bytes (x.size * x.blocks)

    blocks_count : b.blocks + x.blocks - b.blocks ≡ x.blocks
    blocks_count = add-sub_cancel_left b.blocks x.blocks

    pub content_sound : Blocks x.size (mid_of b.blocks (b.blocks + x.blocks - b.blocks) ns) (mid_of b.bytes (b.bytes + x.size * x.blocks - b.bytes) s)
    content_sound =
        rw (bytes_count, blocks_count) (record {
          whole =
              length-take-le (x.size * x.blocks) (drop b.bytes s) (simp length-drop (omega (arith, blocks_inside)))
              ∙ ap (x.size *◌) (sym (length-take-le x.blocks (drop b.blocks ns) (simp length-drop (omega (arith, lengths_inside)))));
          fit = each_fits (block_sizes cs) ns s x.size z.fit b.blocks x.blocks numbers one_size;
          small = simp (length-take, length-drop) (omega (arith, y.exact, curve_bytes_lem cs, curves_small cs u));
        })

    pub content_holds : covered x.size (mid_of b.blocks (b.blocks + x.blocks - b.blocks) ns) (mid_of b.bytes (b.bytes + x.size * x.blocks - b.bytes) s) ≡ content_in cs s ns c
    content_holds =
        rw (bytes_count, blocks_count) (
        ap (λ (i : ℕ). covered x.size (take x.blocks (drop b.blocks ns)) (take (x.size * x.blocks) (drop i s))) (sym starts)
        ∙ hold (block_sizes cs) ns s x.size z.fit y.exact b.blocks x.blocks numbers one_size
        ∙ ap₂ (λ (i : ℕ) (v : Curve). join (map (λ j. take (get_or ns j 0) (get_or (cut (block_sizes cs) s) j [])) (up_from i v.blocks))) there e
        )
