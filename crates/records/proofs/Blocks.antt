-- Curves in their store: where each curve and each block starts. Assumes nothing.
use mathlib.Core.Path.{◌≡◌, refl, sym, ap, ap₂, ◌∙◌}
use mathlib.Core.Bool.{true}
use mathlib.Core.List.{List, [], ◌∷◌, ◌++◌, map, map-append, append_assoc}
use Prim.Native.Nat.{ℕ, suc, ◌+◌, ◌*◌, ◌≤◌, ◌<◌}
use native.Mathlib.Omega.{arith}
use native.Mathlib.Numerals.{add-one}
use lib.ListN.{length, take, drop, get_or, replicate, length-append, length-replicate, get_or-replicate, take-append-drop, get_or-append}
use lib.Seq.{take-suc, split_at, get_or-append-add}
use mir.Syntax.{w64}
use mir.Val.{Fits}
use Rattle.bsmp.specs.Base.{sum}
use Rattle.bsmp.specs.Board.{blank_curve, block_sizes, usable_curves}
use Rattle.bsmp.specs.Store.{start}
use Rattle.bsmp.specs.declared.Curve.{Curve}
use Rattle.bsmp.proofs.Lists.{sum_append}
use Rattle.bsmp.proofs.Store.{curve_bytes_lem}
use Rattle.lists.proofs.Sum.{total_within}
use Rattle.lists.proofs.Blocks.{block_start}
use Rattle.records.specs.Lending.{curve_bytes, curve_blocks}
use Rattle.records.proofs.Sound.{curves_small, blocks_small}

-- a number of each curve, added up: s before curve i, whose record is x; and so before the next
module _ (g : Curve → ℕ) where
  abbrev total : List Curve → ℕ
  total cs = sum (map g cs)

  parts : (xs ys : List Curve) → total (xs ++ ys) ≡ total xs + total ys
  parts xs ys = ap sum (map-append g xs ys) ∙ sum_append (map g xs) (map g ys)

  module _ (cs : List Curve) (n i s : ℕ) (x : Curve) (l : n ≤ length cs) (h : i < n) (e : x ≡ get_or cs i blank_curve) (q : s ≡ total (take i cs)) where
    next : s + g x ≡ total (take (i + 1) cs)
    unfolding sum
    next =
        let k : i < length cs = omega arith in
        let o : total (take (i + 1) cs) ≡ total (take i cs) + total (x ∷ []) = rw (add-one, take-suc cs i blank_curve, e) (parts (take i cs) (get_or cs i blank_curve ∷ [])) in
        omega (arith, o)

    within : s + g x ≤ total cs
    within =
        let o : total (take (i + 1) cs) + total (drop (i + 1) cs) ≡ total cs = sym (parts (take (i + 1) cs) (drop (i + 1) cs)) ∙ ap total (take-append-drop (i + 1) cs) in
        omega (arith, o, next)

abbrev blocks_in : Curve → ℕ
blocks_in c = c.blocks

abbrev bytes_in : Curve → ℕ
bytes_in c = c.size * c.blocks

-- of usable curves: k blocks and s bytes before curve i
module _ (cs : List Curve) (n i s : ℕ) (x : Curve) (u : usable_curves cs ≡ true) (l : n ≤ length cs) (h : i < n) (e : x ≡ get_or cs i blank_curve) (q : s ≡ curve_bytes (take i cs)) where
  pub before_next : s + x.size * x.blocks ≡ curve_bytes (take (i + 1) cs)
  before_next = next bytes_in cs n i s x l h e q

  pub before_within : s + x.size * x.blocks ≤ curve_bytes cs
  before_within = within bytes_in cs n i s x l h e q

  pub before_add : Fits w64 (s + x.size * x.blocks)
  before_add = record { fits = omega (arith, before_within, curves_small cs u) }

module _ (cs : List Curve) (n i k : ℕ) (x : Curve) (u : usable_curves cs ≡ true) (l : n ≤ length cs) (h : i < n) (e : x ≡ get_or cs i blank_curve) (q : k ≡ curve_blocks (take i cs)) where
  pub blocks_next : k + x.blocks ≡ curve_blocks (take (i + 1) cs)
  blocks_next = next blocks_in cs n i k x l h e q

  pub blocks_within : k + x.blocks ≤ curve_blocks cs
  blocks_within = within blocks_in cs n i k x l h e q

  pub blocks_add : Fits w64 (k + x.blocks)
  blocks_add = record { fits = omega (arith, blocks_within, blocks_small cs u) }

  -- a length has two bytes
  pub blocks_front : Fits w64 (k * 2)
  blocks_front = record { fits = omega (arith, blocks_within, blocks_small cs u) }

pub before_start : 0 ≡ sum []
unfolding sum
before_start = refl

-- blocks
blocks_append : (xs ys : List Curve) → block_sizes (xs ++ ys) ≡ block_sizes xs ++ block_sizes ys
blocks_append [] ys = refl
blocks_append (x ∷ xs) ys = ap (replicate x.blocks x.size ++◌) (blocks_append xs ys) ∙ sym (append_assoc (replicate x.blocks x.size) (block_sizes xs) (block_sizes ys))

pub block_count : (cs : List Curve) → length (block_sizes cs) ≡ sum (map (λ c. c.blocks) cs)
unfolding sum
block_count [] = refl
block_count (c ∷ cs) = length-append (replicate c.blocks c.size) (block_sizes cs) ∙ ap₂ ◌+◌ (length-replicate c.blocks c.size) (block_count cs)

-- curve c, whose record is x, and its block k; over the curves alone, as `block_place l` computes for a layout l of them
module _ (cs : List Curve) (c : ℕ) (x : Curve) (h : c < length cs) (e : x ≡ get_or cs c blank_curve) where
  abbrev before : List ℕ
  before = block_sizes (take c cs)

  abbrev own : List ℕ
  own = replicate x.blocks x.size

  abbrev place : ℕ → ℕ
  place k = sum (map (λ y. y.blocks) (take c cs)) + k

  split : block_sizes cs ≡ before ++ (own ++ block_sizes (drop (suc c) cs))
  split = rw e (ap block_sizes (split_at cs c blank_curve h) ∙ blocks_append (take c cs) _)

  placed : (k : ℕ) → place k ≡ length before + k
  placed k = ap (◌+ k) (sym (block_count (take c cs)))

  -- where it starts
  pub curve_start : start (block_sizes cs) (place 0) ≡ curve_bytes (take c cs)
  curve_start =
      ap₂ (λ (i : ℕ) (ns : List ℕ). sum (take i ns)) (placed 0) split
      ∙ block_start before (block_sizes (drop (suc c) cs)) 0 x.blocks x.size (omega arith)
      ∙ omega (arith, curve_bytes_lem (take c cs))

  module _ (k : ℕ) (b : k < x.blocks) where
    -- where it starts: after the curves before it, and k whole blocks
    pub block_at : start (block_sizes cs) (place k) ≡ curve_bytes (take c cs) + k * x.size
    block_at =
        ap₂ (λ (i : ℕ) (ns : List ℕ). sum (take i ns)) (placed k) split
        ∙ block_start before (block_sizes (drop (suc c) cs)) k x.blocks x.size (omega arith)
        ∙ ap (◌+ k * x.size) (curve_bytes_lem (take c cs))

    pub block_size : get_or (block_sizes cs) (place k) 0 ≡ x.size
    block_size =
        ap₂ (λ (i : ℕ) (ns : List ℕ). get_or ns i 0) (placed k) split
        ∙ get_or-append-add before _ k 0
        ∙ get_or-append own _ 0 k (rw (length-replicate x.blocks x.size) b)
        ∙ get_or-replicate x.blocks k x.size 0 b

    pub block_inside : place k < length (block_sizes cs)
    block_inside = rw (placed k, split, length-append, length-append, length-replicate) (omega arith)

    -- and the store has room for it
    pub block_room : (curve_bytes (take c cs) + k * x.size) + x.size ≤ curve_bytes cs
    block_room = omega (arith, total_within (block_sizes cs) (place k) block_inside, block_at, block_size, curve_bytes_lem cs)
