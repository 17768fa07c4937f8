-- Blocks in a flat store: where a curve's block starts, and a block whose first bytes are replaced. Assumes nothing.
use mathlib.Core.Path.{◌≡◌, refl, sym, ap, ◌∙◌}
use mathlib.Core.List.{List, [], ◌∷◌, ◌++◌}
use Prim.Native.Nat.{ℕ, zero, suc, ◌+◌, ◌-◌, ◌*◌, ◌≤◌, ◌<◌}
use native.Mathlib.Omega.{arith}
use lib.ListN.{length, take, drop, set, get_or, replicate, length-append, length-replicate}
use lib.Seq.{drop-drop, take-nil, take-append-le, take-append-add}
use Rattle.bsmp.specs.Base.{sum, cut}
use Rattle.bsmp.proofs.Lists.{sum_append}
use Rattle.lists.proofs.Sum.{total_within}
use Rattle.copies.specs.Put.{put, part}
use Rattle.copies.proofs.Put.{put_put, put_same, part_put_past, length_put, length_part}
use Rattle.lists.proofs.Pieces.{value_part, cut_put}

drop_take : (a n : ℕ) (l : List ℕ) → drop a (take n l) ≡ take (n - a) (drop a l)
drop_take zero n l = let e : n - 0 ≡ n = omega arith in rw e
drop_take (suc a) zero l = let e : 0 - suc a ≡ 0 = omega arith in rw e
drop_take (suc a) (suc n) [] = rw (take-nil (suc n - suc a))
drop_take (suc a) (suc n) (x ∷ l) = let e : suc n - suc a ≡ n - a = omega arith in rw e (drop_take a n l)

-- a block's first bytes replaced in place are a new piece
pub cut_fill : (ns s : List ℕ) (i : ℕ) (d : List ℕ) → i < length ns → length d ≤ get_or ns i 0 → sum ns ≤ length s
    → cut ns (put s (sum (take i ns)) d) ≡ set (cut ns s) i (d ++ drop (length d) (get_or (cut ns s) i []))
unfolding part
cut_fill ns s i d h k z =
    let at : ℕ = sum (take i ns) in
    let n : ℕ = get_or ns i 0 in
    let r : List ℕ = part s (at + length d) (n - length d) in
    let w : at + n ≤ length s = omega (arith, total_within ns i h) in
    let l : length r ≡ n - length d = length_part s (at + length d) (n - length d) (omega arith) in
    let e : put s at d ≡ put s at (d ++ r) =
    sym (put_same (put s at d) (at + length d) (n - length d) (rw (length_put s at d (omega arith)) (omega arith)))
    ∙ ap (put (put s at d) (at + length d)) (part_put_past s at d (at + length d) (n - length d) (omega arith) (omega arith))
    ∙ put_put s at d r (omega arith) in
    let q : drop (length d) (part s at n) ≡ r = drop_take (length d) n (drop at s) ∙ ap (take (n - length d)) (drop-drop (length d) at s) in
    let y : length (d ++ r) ≡ n = length-append d r ∙ omega arith in
    ap (cut ns) e ∙ cut_put ns s i (d ++ r) h y z
    ∙ ap (λ (x : List ℕ). set (cut ns s) i (d ++ x)) (sym q)
    ∙ ap (λ (x : List ℕ). set (cut ns s) i (d ++ drop (length d) x)) (sym (value_part ns s i at h refl))

-- where block k of curve c starts, as the code works it out: the curves before it, and k whole blocks
pub sum_replicate : (n x : ℕ) → sum (replicate n x) ≡ n * x
unfolding sum
sum_replicate zero x = omega arith
sum_replicate (suc n) x = ap (λ (y : ℕ). x + y) (sum_replicate n x) ∙ omega arith

take_replicate : (k n x : ℕ) → k ≤ n → take k (replicate n x) ≡ replicate k x
take_replicate zero n x h = refl
take_replicate (suc k) zero x h = absurd (omega (arith, h))
take_replicate (suc k) (suc n) x h = ap (λ (l : List ℕ). x ∷ l) (take_replicate k n x (omega (arith, h)))

pub block_start : (before rest : List ℕ) (k n x : ℕ) → k ≤ n → sum (take (length before + k) (before ++ (replicate n x ++ rest))) ≡ sum before + k * x
block_start before rest k n x h =
    let l : k ≤ length (replicate n x) = rw (length-replicate n x) h in
    rw (take-append-add, take-append-le k (replicate n x) rest, take_replicate k n x h, sum_append, sum_replicate)
