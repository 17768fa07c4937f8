-- MD5 of what blocks hold, fed piece by piece: full blocks go on with the next, one that is not full ends a piece. Assumes nothing.
use mathlib.Core.Path.{◌≡◌, refl, sym, ap, ap₂, ◌∙◌}
use mathlib.Core.List.{List, [], ◌++◌, append_assoc}
use Prim.Native.Nat.{ℕ, ◌+◌, ◌-◌, ◌*◌, ◌≤◌, ◌<◌}
use native.Mathlib.Nat.{mul-le-mul_left}
use native.Mathlib.Omega.{arith}
use lib.Dec.{leb}
use lib.ListN.{length, take, drop, get_or, drop_of_length-le}
use lib.Seq.{drop-drop, take-add}
use mir.Syntax.{w64}
use mir.Val.{Fits}
use borrow.Author.Tests.{leb-true}
use borrow.Rule.Slice.PartMut.{mid_of}
use Rattle.rfc1321.specs.Md5.{digest}
use Rattle.digest.specs.Stream.{held, begun, fed, closed}
use Rattle.digest.specs.declared.Progress.{Progress}
use Rattle.digest.proofs.Pieces.{piece_next, pieces_digest}
use Rattle.copies.specs.Put.{part}
use Rattle.copies.proofs.Put.{drop_one}
use Rattle.bsmp.proofs.Lists.{every_at}
use Rattle.sums.specs.Sums.{covered, Blocks}

-- a part, and what stands behind it
part_on : (s : List ℕ) (from at n : ℕ) → from ≤ at → part s from (at - from) ++ take n (drop at s) ≡ part s from (at + n - from)
unfolding part
part_on s from at n h =
    let e : from + (at - from) ≡ at = omega arith in
    let o : at - from + n ≡ at + n - from = omega arith in
    ap (λ (i : ℕ). part s from (at - from) ++ take n (drop i s)) (sym e)
    ∙ ap (λ (l : List ℕ). part s from (at - from) ++ take n l) (sym (drop-drop (at - from) from s))
    ∙ sym (take-add (at - from) n (drop from s))
    ∙ ap (part s from) o

-- the walk over the blocks: fed by what waits, the bytes from `from` to `at`, and by what the blocks from number i on hold, all is fed
module _ (size : ℕ) (ns s : List ℕ) (p₀ : Progress) where
  abbrev left : (from at i : ℕ) → List ℕ
  left from at i = part s from (at - from) ++ covered size (drop i ns) (drop at s)

  pub record Summing (p : Progress) (from at i : ℕ) : Type 0 where
    pub inside : i ≤ length ns
    pub place : at ≡ size * i
    pub ordered : from ≤ at
    pub all : fed (held p) (left from at i) ≡ fed (held p₀) (covered size ns s)

  pub summing_start : Summing p₀ 0 0 0
  unfolding part
  summing_start = record { inside = omega arith; place = omega arith; ordered = omega arith; all = refl }

  -- the next block holds its first n bytes
  left_next : (from at i n : ℕ) → i < length ns → from ≤ at → n ≡ get_or ns i 0
      → left from at i ≡ part s from (at + n - from) ++ covered size (drop (i + 1) ns) (drop (at + size) s)
  unfolding covered
  left_next from at i n h o e =
      let r : List ℕ = covered size (drop (i + 1) ns) (drop (at + size) s) in
      ap (λ (l : List ℕ). part s from (at - from) ++ covered size l (drop at s)) (drop_one ns i h)
      ∙ ap₂ (λ (k : ℕ) (l : List ℕ). part s from (at - from) ++ (take k (drop at s) ++ covered size (drop (i + 1) ns) l)) (sym e) (drop-drop size at s)
      ∙ sym (append_assoc (part s from (at - from)) (take n (drop at s)) r)
      ∙ ap (◌++ r) (part_on s from at n o)

  module _ (p : Progress) (from at i : ℕ) (g : Blocks size ns s) (q : Summing p from at i) where
    pub whole_inside : at ≤ length s
    whole_inside = omega (arith, q.place, g.whole, mul-le-mul_left size q.inside)

    module _ (h : i < length ns) where
      next_inside : at + size ≤ length s
      next_inside =
          let o : size * (i + 1) ≤ size * length ns = mul-le-mul_left size (omega arith) in
          omega (arith, q.place, g.whole, o)

      pub next_fits : Fits w64 (at + size)
      next_fits = record { fits = omega (arith, next_inside, g.small) }

      next_own : get_or ns i 0 ≤ size
      next_own = leb-true _ _ (every_at (λ m. leb m size) ns i 0 g.fit h)

      pub own_fits : Fits w64 (get_or ns i 0)
      own_fits = record { fits = omega (arith, next_own, next_inside, g.small) }

      pub own_inside : at + get_or ns i 0 ≤ length s
      own_inside = omega (arith, next_own, next_inside)

      pub own_add : Fits w64 (at + get_or ns i 0)
      own_add = record { fits = omega (arith, own_inside, g.small) }

      -- a full block only goes on with what waits
      pub full_next : size ≤ get_or ns i 0 → Summing p from (at + size) (i + 1)
      full_next l =
          let o : size ≡ get_or ns i 0 = omega (arith, next_own) in
          record {
            inside = omega arith;
            place = ap (◌+ size) q.place ∙ omega arith;
            ordered = omega (arith, q.ordered);
            all = ap (fed (held p)) (sym (left_next from at i size h q.ordered o)) ∙ q.all;
          }

      -- after one that isn't, nothing waits
      pub short_next : (p' : Progress) → held p' ≡ fed (held p) (mid_of from (at + get_or ns i 0 - from) s)
          → Summing p' (at + size) (at + size) (i + 1)
      unfolding part
      short_next p' e =
          let z : at + size - (at + size) ≡ 0 = omega arith in
          record {
            inside = omega arith;
            place = ap (◌+ size) q.place ∙ omega arith;
            ordered = omega arith;
            all = rw z (piece_next _ _ _ p p' _ e (left_next from at i (get_or ns i 0) h q.ordered refl) q.all);
          }

    pub summing_end : length ns ≤ i → (r : List ℕ) (p' : Progress) → held p₀ ≡ begun → held p' ≡ fed (held p) (mid_of from (at - from) s)
        → r ≡ closed (held p') → r ≡ digest (covered size ns s)
    unfolding part covered
    summing_end h r p' o e f =
        let k : drop i ns ≡ [] = drop_of_length-le ns {i = i} h in
        let l : left from at i ≡ part s from (at - from) ++ [] = ap (λ (y : List ℕ). part s from (at - from) ++ covered size y (drop at s)) k in
        pieces_digest _ [] r p' p₀ f (piece_next _ _ [] p p' _ e l q.all) refl o
