-- The sums: one put at its place, all of them worked out, and one told. Assumes nothing.
use mathlib.Core.Path.{◌≡◌, refl, sym, ap, ap₂, ◌∙◌}
use mathlib.Core.Bool.{true}
use mathlib.Core.List.{List, [], ◌∷◌, ◌++◌, map, append_assoc, append-nil}
use Prim.Native.Nat.{ℕ, zero, suc, ◌+◌, ◌-◌, ◌*◌, ◌≤◌, ◌<◌}
use native.Mathlib.Nat.{zero-add}
use native.Mathlib.Numerals.{add-one}
use native.Mathlib.Omega.{arith}
use lib.ListN.{length, drop, set, get_or, length-take, length-drop, length-map, drop_of_length-le}
use lib.Seq.{drop-cons, set_at}
use mir.Syntax.{w64}
use mir.Val.{Fits}
use borrow.Rule.Slice.PartMut.{mid_of, put_mid}
use Rattle.rfc1321.specs.Md5.{digest}
use Rattle.rfc1321.proofs.Digest.{length_digest}
use Rattle.copies.specs.Put.{put, part}
use Rattle.copies.proofs.Put.{put_back, length_part}
use Rattle.bsmp.specs.Base.{up_from, cut, byte_at}
use Rattle.bsmp.specs.Board.{curve, block_sizes, sum_sizes, usable_curves}
use Rattle.bsmp.specs.Message.{curve_at}
use Rattle.bsmp.specs.declared.Curve.{Curve}
use Rattle.bsmp.specs.declared.CurveNumber.{CurveNumber}
use Rattle.bsmp.proofs.Lists.{length_up_from}
use Rattle.bsmp.proofs.Store.{lengths_cut, sum_bytes, sum_size, sum_start}
use Rattle.lists.proofs.Pieces.{value_part, cut_put}
use Rattle.parts.specs.Parts.{PayloadAt}
use Rattle.records.proofs.Sound.{curves_most}
use Rattle.curves.specs.Fits.{SoundSums, CurveNamed}
use Rattle.sums.specs.Sums.{sums_in, sum_at, SumNamed, content_in, fresh_sums}

sixteens : (cs : List Curve) → length (sum_sizes cs) ≡ length cs
sixteens cs = length-map cs (λ (y : Curve). let n : ℕ = 16 in n)

-- a sum worked out from what the curve holds, and put at its place
module _ (cs : List Curve) (s : List ℕ) (c : CurveNumber) (z : SoundSums cs s) (h : c.0 < length cs) where
  pub sum_fits : usable_curves cs ≡ true → Fits w64 (16 * c.0)
  sum_fits u = record { fits = omega (arith, curves_most cs u) }

  sum_inside : 16 * c.0 + 16 ≤ length s
  sum_inside = omega (arith, z.exact, sum_bytes cs)

  pub sum_front : 16 * c.0 ≤ length s
  sum_front = omega (arith, sum_inside)

  pub sum_room : (d : List ℕ) → length d ≡ 16 → length d ≤ length (mid_of (16 * c.0) (length s - 16 * c.0) s)
  sum_room d n = simp (length-take, length-drop) (omega (arith, sum_inside))

  pub sum_renewed : (store lengths held d ys : List ℕ) → d ≡ digest held → held ≡ content_in cs store lengths c
      → ys ≡ put (mid_of (16 * c.0) (length s - 16 * c.0) s) 0 d
      → sums_in cs (put_mid (16 * c.0) (length s - 16 * c.0) s ys) ≡ set (sums_in cs s) c.0 (digest (content_in cs store lengths c))
  sum_renewed store lengths held d ys e o f =
      let t : List ℕ = content_in cs store lengths c in
      let m : d ≡ digest t = e ∙ ap digest o in
      let n : length d ≡ 16 = ap length m ∙ length_digest t in
      ap (cut (sum_sizes cs)) (put_back (16 * c.0) s d ys f (omega (arith, sum_inside)) ∙ ap₂ (put s) (sym (sum_start cs c.0 (omega arith))) m)
      ∙ cut_put (sum_sizes cs) s c.0 (digest t) (rw (sixteens cs) h) (length_digest t ∙ sym (sum_size cs c.0 h)) (omega (arith, z.exact))

-- one number more
numbers_last : {A : Type 0} (f : ℕ → A) (k n : ℕ) → map f (up_from k (suc n)) ≡ map f (up_from k n) ++ f (k + n) ∷ []
numbers_last f k zero = ap (λ j. f j ∷ []) (omega arith)
numbers_last f k (suc n) = ap (f k ∷◌) (numbers_last f (suc k) n ∙ ap (λ j. map f (up_from (suc k) n) ++ f j ∷ []) (omega arith))

-- the walk over all curves: the first i sums are worked out, the others as they were
module _ (cs : List Curve) (store lengths s₀ : List ℕ) where
  pub record Renewing (i : ℕ) (s : List ℕ) : Type 0 where
    pub inside : i ≤ length cs
    pub sound : SoundSums cs s
    pub sums : sums_in cs s ≡ fresh_sums cs store lengths i ++ drop i (sums_in cs s₀)

  counted : SoundSums cs s₀ → length (sums_in cs s₀) ≡ length cs
  counted z = sym (length-map (sums_in cs s₀) length) ∙ ap length (lengths_cut (sum_sizes cs) s₀ z.exact) ∙ sixteens cs

  fresh_next : (i : ℕ) → fresh_sums cs store lengths (i + 1) ≡ fresh_sums cs store lengths i ++ digest (content_in cs store lengths (curve i)) ∷ []
  fresh_next i =
      let f : ℕ → List ℕ = λ k. digest (content_in cs store lengths (curve k)) in
      rw (add-one i) (numbers_last f 0 i ∙ ap (λ k. fresh_sums cs store lengths i ++ f k ∷ []) (zero-add i))

  pub renewing_start : SoundSums cs s₀ → Renewing 0 s₀
  renewing_start z = record { inside = omega arith; sound = z; sums = refl }

  pub renewing_next : (n i : ℕ) (s s' : List ℕ) → SoundSums cs s₀ → n ≡ length cs → i < n → length s' ≡ length s
      → sums_in cs s' ≡ set (sums_in cs s) i (digest (content_in cs store lengths (curve i))) → Renewing i s → Renewing (i + 1) s'
  renewing_next n i s s' z m h l e q = record {
    inside = omega arith;
    sound = record { exact = l ∙ q.sound.exact };
    sums =
        let f : List (List ℕ) = fresh_sums cs store lengths i in
        let d : List ℕ = digest (content_in cs store lengths (curve i)) in
        let o : List (List ℕ) = sums_in cs s₀ in
        let w : length f ≡ i = length-map (up_from 0 i) _ ∙ length_up_from 0 i in
        let k : suc i ≡ i + 1 = omega arith in
        e ∙ ap (λ y. set y i d) (q.sums ∙ ap (f ++◌) (drop-cons o i [] (omega (arith, counted z))))
        ∙ set_at f (get_or o i []) (drop (suc i) o) d i w
        ∙ ap (λ j. f ++ d ∷ drop j o) k
        ∙ sym (append_assoc f (d ∷ []) (drop (i + 1) o))
        ∙ ap (◌++ drop (i + 1) o) (sym (fresh_next i));
  }

  pub renewing_end : (n i : ℕ) (s : List ℕ) → SoundSums cs s₀ → n ≡ length cs → n ≤ i → Renewing i s → sums_in cs s ≡ fresh_sums cs store lengths (length cs)
  renewing_end n i s z e h q =
      let o : i ≡ length cs = omega (arith, q.inside) in
      let k : drop i (sums_in cs s₀) ≡ [] = drop_of_length-le (sums_in cs s₀) {i = i} (omega (arith, counted z)) in
      q.sums ∙ ap (fresh_sums cs store lengths i ++◌) k ∙ append-nil (fresh_sums cs store lengths i) ∙ ap (fresh_sums cs store lengths) o

-- those of full blocks, as a fresh board has them
pub fresh_full : (cs : List Curve) (store lengths s : List ℕ) → lengths ≡ block_sizes cs → sums_in cs s ≡ fresh_sums cs store lengths (length cs)
    → sums_in cs s ≡ fresh_sums cs store (block_sizes cs) (length cs)
fresh_full cs store lengths s e h = h ∙ ap (λ (ns : List ℕ). fresh_sums cs store ns (length cs)) e

-- a sum told
pub sum_told : (s p : List ℕ) (c : CurveNumber) (r r' : List ℕ) (at : ℕ) → c ≡ curve_at p 0 → SumNamed s p → r' ≡ put r at (part s (16 * c.0) 16)
    → PayloadAt r at (sum_at s (curve_at p 0)) 16 r'
sum_told s p c r r' at e h w = record {
  count = sym (length_part s (16 * byte_at p 0) 16 h.inside);
  written = w ∙ ap (λ (x : CurveNumber). put r at (part s (16 * x.0) 16)) e;
  short = omega arith;
}

-- where it stands, and that it is the curve's
pub sum_named : (cs : List Curve) (s p : List ℕ) → SoundSums cs s → CurveNamed cs p → SumNamed s p
sum_named cs s p z h = record { some = h.some; inside = omega (arith, h.known, z.exact, sum_bytes cs) }

pub sum_is : (cs : List Curve) (s : List ℕ) (c : CurveNumber) → c.0 < length cs → get_or (sums_in cs s) c.0 [] ≡ sum_at s c
sum_is cs s c h =
    value_part (sum_sizes cs) s c.0 (16 * c.0) (rw (sixteens cs) h) (sym (sum_start cs c.0 (omega arith)))
    ∙ ap (part s (16 * c.0)) (sum_size cs c.0 h)
