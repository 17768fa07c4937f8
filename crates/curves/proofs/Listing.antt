-- The list of curves, record after record as the walk writes it. Assumes nothing.
use mathlib.Core.Path.{◌≡◌, refl, sym, ap, ◌∙◌}
use mathlib.Core.Bool.{true}
use mathlib.Core.List.{List, [], ◌∷◌, ◌++◌, map}
use Prim.Native.Nat.{ℕ, zero, suc, ◌+◌, ◌*◌, ◌/◌, ◌%◌, ◌≤◌, ◌<◌}
use native.Mathlib.Omega.{arith}
use lib.ListN.{length, drop, set, get_or, length-append, length-set}
use lib.Seq.{drop-append_seam, drop-append-add}
use Rattle.std.specs.Int.{to_be_bytes, w32}
use Rattle.bsmp.specs.Base.{join, bit, word}
use Rattle.bsmp.specs.Board.{is_writable, blank_curve, usable_curves}
use Rattle.bsmp.specs.Message.{curve_record, curve_list}
use Rattle.bsmp.specs.declared.Curve.{Curve}
use Rattle.copies.specs.Put.{put}
use Rattle.copies.proofs.Put.{put_set, put_put, set_put}
use Rattle.parts.specs.Parts.{curves_only, PayloadAt}
use Rattle.parts.proofs.Listing.{Listing, listing_start, listing_piece, listing_end}
use Rattle.records.proofs.Sound.{curves_most}

-- a two-byte field, byte after byte: the last two that the machine makes of the number
pub word_put : (n : ℕ) (bs r : List ℕ) (at : ℕ) → at + 2 ≤ length r → bs ≡ to_be_bytes w32 n → set (set r at (get_or bs 2 0)) (at + 1) (get_or bs 3 0) ≡ put r at (word n)
word_put n bs r at h e =
    let x : get_or bs 2 0 ≡ n / 256 % 256 = rw e in
    let y : get_or bs 3 0 ≡ n % 256 = rw e in
    let k : at + 1 < length (set r at (n / 256 % 256)) = simp length-set (omega arith) in
    rw (x, y) (set_put (set r at (n / 256 % 256)) (at + 1) (n % 256) k ∙ put_set r at (n / 256 % 256) (n % 256 ∷ []) (omega arith))

-- a record: its type, and two fields
pub record_put : (x : Curve) (r r₁ r₂ r₃ : List ℕ) (at : ℕ) → at + 5 ≤ length r → r₁ ≡ put r at (bit (is_writable x.writable) ∷ [])
    → r₂ ≡ put r₁ (at + 1) (word x.size) → r₃ ≡ put r₂ (at + 3) (word x.blocks) → r₃ ≡ put r at (curve_record x)
record_put x r r₁ r₂ r₃ at h e o w =
    let f : List ℕ = bit (is_writable x.writable) ∷ word x.size in
    let k : r₂ ≡ put r at f = o ∙ ap (λ (l : List ℕ). put l (at + 1) (word x.size)) e ∙ put_put r at _ (word x.size) (omega arith) in
    w ∙ ap (λ (l : List ℕ). put l (at + 3) (word x.blocks)) k ∙ put_put r at f (word x.blocks) (omega arith)

length_list : (cs : List Curve) → length (curve_list (curves_only cs)) ≡ 5 * length cs
unfolding curve_list
length_list [] = refl
length_list (c ∷ cs) = omega (arith, length-append (curve_record c) (join (map curve_record cs)), length_list cs)

-- the record of curve i stands at place 5 i of the list
from_next : (cs : List Curve) (i : ℕ) → i < length cs
    → drop (5 * i) (curve_list (curves_only cs)) ≡ curve_record (get_or cs i blank_curve) ++ drop (5 * i + 5) (curve_list (curves_only cs))
unfolding curve_list
from_next [] i h = absurd (omega (arith, h))
from_next (c ∷ cs) zero h = ap (curve_record c ++◌) (sym (drop-append_seam (curve_record c) (join (map curve_record cs))))
from_next (c ∷ cs) (suc i) h =
    let e : 5 * suc i ≡ 5 + 5 * i = omega arith in
    let f : 5 * suc i + 5 ≡ 5 + (5 * i + 5) = omega arith in
    let l : List ℕ = join (map curve_record cs) in
    rw (f, e) (drop-append-add (curve_record c) l (5 * i) ∙ from_next cs i (omega (arith, h))
    ∙ ap (curve_record (get_or cs i blank_curve) ++◌) (sym (drop-append-add (curve_record c) l (5 * i + 5))))

module _ (cs : List Curve) (r₀ : List ℕ) (at : ℕ) where
  pub list_start : usable_curves cs ≡ true → Listing (curve_list (curves_only cs)) (5 * length cs) r₀ at 0 r₀
  list_start u = listing_start _ _ r₀ at (length_list cs) (omega (arith, curves_most cs u))

  module _ (n i : ℕ) (r : List ℕ) (q : Listing (curve_list (curves_only cs)) (5 * length cs) r₀ at (5 * i) r) (l : n ≡ length cs) where
    pub list_next : (x : Curve) (r' : List ℕ) → at + 4099 ≤ length r₀ → i < n → x ≡ get_or cs i blank_curve → r' ≡ put r (at + 5 * i) (curve_record x)
        → Listing (curve_list (curves_only cs)) (5 * length cs) r₀ at (5 * (i + 1)) r'
    list_next x r' o h e w =
        let z : 5 * (i + 1) ≡ 5 * i + 5 = omega arith in
        rw z (listing_piece _ _ r₀ at (5 * i) r q (curve_record x) r' o (omega arith) (rw e (from_next cs i (omega arith))) w)

    pub list_end : n ≤ i → PayloadAt r₀ at (curve_list (curves_only cs)) (5 * n) r
    list_end h = listing_end _ _ r₀ at (5 * i) r q (5 * n) (omega arith) (omega arith)
