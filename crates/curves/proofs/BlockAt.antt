-- The block that a payload names: where it stands, what a write makes of it and of its length, and what is told of it. Assumes nothing.
use mathlib.Core.Path.{◌≡◌, sym, ap, ap₂, ◌∙◌}
use mathlib.Core.Bool.{true}
use mathlib.Core.List.{List, ◌++◌}
use Prim.Native.Nat.{ℕ, ◌+◌, ◌-◌, ◌*◌, ◌≤◌, ◌<◌}
use native.Mathlib.Omega.{arith}
use lib.ListN.{length, take, drop, set, get_or, length-drop, length-append}
use lib.Seq.{take_all, take-take}
use mir.Syntax.{w16, w64}
use mir.Val.{Fits}
use borrow.Rule.Slice.PartMut.{mid_of, put_mid}
use Rattle.bsmp.specs.Base.{cut, word_at}
use Rattle.bsmp.specs.Board.{blank_curve, block_sizes, usable_curves}
use Rattle.bsmp.specs.Message.{curve_at, filled}
use Rattle.bsmp.specs.declared.Curve.{Curve}
use Rattle.bsmp.specs.declared.CurveNumber.{CurveNumber}
use Rattle.bsmp.proofs.Lengths.{fitting_count, fitting_most}
use Rattle.bsmp.proofs.Store.{curve_bytes_lem}
use Rattle.copies.specs.Put.{put, part}
use Rattle.copies.proofs.Put.{put_back, put_put, mid_rest, length_part}
use Rattle.lists.proofs.Pieces.{value_part}
use Rattle.lists.proofs.Blocks.{cut_fill}
use Rattle.parts.specs.Parts.{PayloadAt}
use Rattle.records.specs.Lending.{curve_bytes, start_of}
use Rattle.records.specs.declared.Start.{Start}
use Rattle.records.proofs.Sound.{curves_small, blocks_small, curve_size}
use Rattle.records.proofs.Blocks.{block_count, block_at, block_size, block_inside, block_room}
use Rattle.curves.specs.declared.Block.{Block}
use Rattle.curves.specs.Fits.{SoundCurves, SoundLengths, BlockNamed, BlockRead, BlockFits, named_curve, blocks_in, place_of, named_block, named_content, BlockAt}
use Rattle.curves.proofs.Named.{number, named_record}

-- as code works it out: x is the curve's record, s where the curve starts, k the block's number
module _ (cs : List Curve) (p : List ℕ) (c : CurveNumber) (h : c ≡ curve_at p 0) (n : BlockNamed cs p) where
  pub named_inside : c.0 ≤ length cs
  named_inside = omega (arith, number cs p c h)

  module _ (x : Curve) (s : Start) (k : ℕ) (u : usable_curves cs ≡ true) (e : x ≡ get_or cs c.0 blank_curve) (q : s ≡ start_of (take c.0 cs)) (w : k ≡ word_at p 1) where
    own : x ≡ named_curve cs p
    own = named_record cs p c h x e

    below : word_at p 1 < x.blocks
    below = rw own n.below

    before : s ≡ start_of (take (curve_at p 0).0 cs)
    before = q ∙ ap (λ (j : ℕ). start_of (take j cs)) (number cs p c h)

    room : s.bytes + k * x.size + x.size ≤ curve_bytes cs
    room = rw (before, w) (block_room cs (curve_at p 0).0 x n.known own (word_at p 1) below)

    placed_here : s.blocks + k ≡ place_of cs p
    placed_here = ap₂ (λ (y : Start) (z : ℕ). y.blocks + z) before w

    there : place_of cs p < length (block_sizes cs)
    there = block_inside cs (curve_at p 0).0 x n.known own (word_at p 1) below

    pub placed_mul : Fits w64 (k * x.size)
    placed_mul = record { fits = omega (arith, room, curves_small cs u) }

    pub placed_add : Fits w64 (s.bytes + k * x.size)
    placed_add = record { fits = omega (arith, room, curves_small cs u) }

    pub placed_number : Fits w64 (s.blocks + k)
    placed_number = record { fits = omega (arith, placed_here, there, block_count cs, blocks_small cs u) }

    pub placed : BlockAt cs p (record { at = s.bytes + k * x.size; place = s.blocks + k })
    placed = record {
      place = placed_here;
      below = there;
      at = ap₂ (λ (y : Start) (z : ℕ). y.bytes + z * x.size) before w ∙ sym (block_at cs (curve_at p 0).0 x n.known own (word_at p 1) below);
      own = block_size cs (curve_at p 0).0 x n.known own (word_at p 1) below ∙ ap (λ (y : Curve). y.size) own;
      inside = rw (curve_bytes_lem cs, ← own) room;
      small = (curve_size cs u (curve_at p 0).0 n.known).1;
    }

-- the bytes that a payload carries are so many as a length can say
pub carried_fits : (cs : List Curve) (p : List ℕ) (b : Block) → BlockAt cs p b → BlockFits cs p → Fits w16 (length p - 3)
carried_fits cs p b w f = record { fits = omega (arith, w.small, f.fits) }

module _ (cs : List Curve) (s p : List ℕ) (b : Block) (z : SoundCurves cs s) (w : BlockAt cs p b) where
  pub at_inside : b.at ≤ length s
  at_inside = omega (arith, z.exact, w.inside)

  -- the payload's bytes from 3 on over the block's first
  pub block_filled : (ys : List ℕ) → BlockFits cs p → ys ≡ put (mid_of b.at (length s - b.at) s) 0 (mid_of 3 (length p - 3) p)
      → blocks_in cs (put_mid b.at (length s - b.at) s ys) ≡ set (blocks_in cs s) (place_of cs p) (filled (drop 3 p) (named_block cs s p))
  block_filled ys f e =
      let d : length (drop 3 p) ≤ (named_curve cs p).size = simp length-drop (omega (arith, f.fits)) in
      ap (cut (block_sizes cs)) (put_back b.at s (drop 3 p) ys (e ∙ ap (put (mid_of b.at (length s - b.at) s) 0) (mid_rest 3 p)) (omega (arith, z.exact, w.inside))
      ∙ ap (λ (x : ℕ). put s x (drop 3 p)) w.at)
      ∙ cut_fill (block_sizes cs) s (place_of cs p) (drop 3 p) w.below (rw w.own d) (omega (arith, z.exact))

module _ (cs : List Curve) (ns p : List ℕ) (b : Block) (z : SoundLengths cs ns) (w : BlockAt cs p b) where
  pub length_inside : b.place < length ns
  length_inside = omega (arith, w.place, w.below, fitting_count (block_sizes cs) ns z.fit)

  -- and their number at the block's place
  pub length_set_there : set ns b.place (length p - 3) ≡ set ns (place_of cs p) (length (drop 3 p))
  length_set_there = ap₂ (set ns) w.place (sym (length-drop 3 p))

  -- a block holds no more than its size
  length_own : get_or ns b.place 0 ≤ (named_curve cs p).size
  length_own = rw (w.place, ← w.own) (fitting_most (block_sizes cs) ns z.fit (place_of cs p))

  pub answer_room : (at : ℕ) (r r₁ : List ℕ) → at + 4099 ≤ length r → length r₁ ≡ length r → at + 3 + get_or ns b.place 0 ≤ length r₁
  answer_room at r r₁ o e = omega (arith, length_own, w.small)

  pub answer_count : Fits w64 (3 + get_or ns b.place 0)
  answer_count = record { fits = omega (arith, length_own, w.small) }

  module _ (s : List ℕ) (y : SoundCurves cs s) where
    pub answer_inside : b.at + get_or ns b.place 0 ≤ length s
    answer_inside = omega (arith, length_own, y.exact, w.inside)

    -- the payload, and what the block holds behind it
    pub block_answered : (at : ℕ) (r r₁ r₂ : List ℕ) → BlockRead cs p → at + 4099 ≤ length r → r₁ ≡ put r at (part p 0 3)
        → r₂ ≡ put r₁ (at + 3) (part s b.at (get_or ns b.place 0)) → PayloadAt r at (p ++ named_content cs s ns p) (3 + get_or ns b.place 0) r₂
    unfolding part
    block_answered at r r₁ r₂ f o e g =
        let n : ℕ = get_or ns b.place 0 in
        let v : named_content cs s ns p ≡ part s b.at n =
        ap₂ take (ap (λ (k : ℕ). get_or ns k 0) (sym w.place)) (value_part (block_sizes cs) s (place_of cs p) b.at w.below w.at ∙ ap (part s b.at) w.own)
        ∙ take-take n (named_curve cs p).size (drop b.at s) length_own in
        let l : length (part s b.at n) ≡ n = length_part s b.at n answer_inside in
        let a : take 3 p ≡ p = take_all 3 p (omega arith) in
        rw v (record {
          count = sym (length-append p (part s b.at n) ∙ omega arith);
          written = g ∙ ap (λ (x : List ℕ). put x (at + 3) (part s b.at n)) (e ∙ ap (put r at) a)
              ∙ ap (λ (x : ℕ). put (put r at p) (at + x) (part s b.at n)) (sym f.whole) ∙ put_put r at p (part s b.at n) (omega arith);
          short = omega (arith, length_own, w.small);
        })
