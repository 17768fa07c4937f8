-- A group put at its place in the table, the next one included, or left out where it can't be. Assumes nothing.
use mathlib.Core.Path.{◌≡◌, refl, sym, ap, ap₂, ◌∙◌}
use mathlib.Core.Bool.{Bool, true, false, not, ◌&&◌}
use mathlib.Core.List.{List, [], ◌∷◌, ◌++◌, map}
use Prim.Native.Nat.{ℕ, suc, ◌+◌, ◌≤◌, ◌<◌}
use native.Mathlib.Omega.{arith}
use native.Mathlib.Numerals.{add-one}
use native.Mathlib.Decide.{ℕ_discrete}
use borrow.Author.Tests.{lt-leb, lt-ltb, le-ltb, ltb-true}
use Rattle.std.proofs.Common.{max}
use Rattle.std.proofs.Math.Bool.{and-false}
use lib.Dec.{leb, ltb}
use lib.ListN.{length, take, drop, get_or, set, length-map, length-set}
use lib.Seq.{ext_get_or, get_or-set_same, get_or-set_other, take-suc-set}
use Rattle.bsmp.specs.Base.{every}
use Rattle.bsmp.specs.Board.{variable, Layout, set_of}
use Rattle.bsmp.specs.Message.{no_variable}
use Rattle.bsmp.proofs.Lists.{every_at}
use Rattle.copies.specs.Put.{put}
use Rattle.copies.proofs.Put.{set_put}
use Rattle.records.specs.Lending.{groups_by, groups_of}
use Rattle.records.proofs.Lending.{made_count, made_at, groups_lent}
use Rattle.sets.specs.Promises.{Below, Named}
use Rattle.sets.proofs.Ids.{below_more}
use Rattle.asking.specs.Learned.{Learned}
use Rattle.asking.specs.Learning.{with_made, can_group, regrouped}
use Rattle.learned.specs.Table.{held_table}
use Rattle.learned.specs.declared.LearnedTable.{LearnedTable}
use Rattle.learned.proofs.Fronts.{size_count}
use Rattle.asking.proofs.Follows.{regrouped_at, regrouped_last}
use Rattle.learning.proofs.Taking.{known_ids}

-- the table's places with one of them set -----------------------------------------------------------------------------------------
module _ (gs : List ℕ) (n p s : ℕ) (h : p < length gs) where
  place_set : p < n → groups_of (groups_by n (set gs p s)) ≡ set (groups_of (groups_by n gs)) p s
  place_set k =
      ext_get_or 0 (groups_of (groups_by n (set gs p s))) (set (groups_of (groups_by n gs)) p s)
      (sym (made_count n (set gs p s)) ∙ made_count n gs ∙ sym (length-set (groups_of (groups_by n gs)) p s))
      (λ i j. let b : i < n = omega (arith, made_count n (set gs p s)) in sym (made_at n (set gs p s) i b) ∙ by i b (ℕ_discrete i p))
    where
      by : (i : ℕ) → i < n → Dec (i ≡ p) → get_or (set gs p s) i 0 ≡ get_or (set (groups_of (groups_by n gs)) p s) i 0
      by i b (yes e) = rw e (get_or-set_same gs p s 0 h ∙ sym (get_or-set_same (groups_of (groups_by n gs)) p s 0 (omega (arith, made_count n gs))))
      by i b (no e) = get_or-set_other gs p i s 0 e ∙ made_at n gs i b ∙ sym (get_or-set_other (groups_of (groups_by n gs)) p i s 0 e)

  place_next : p ≡ n → groups_of (groups_by (n + 1) (set gs p s)) ≡ groups_of (groups_by n gs) ++ s ∷ []
  place_next e =
      groups_lent (groups_by (n + 1) (set gs p s)) (rw (length-set gs p s) (omega arith))
      ∙ ap (λ k. take k (set gs p s)) (ap (◌+ 1) (sym e) ∙ add-one p) ∙ take-suc-set gs p s h
      ∙ ap (λ r. r ++ s ∷ []) (ap (λ k. take k gs) e ∙ sym (groups_lent (groups_by n gs) (omega arith)))

set_split : (l : List ℕ) (i a : ℕ) → i < length l → set l i a ≡ take i l ++ a ∷ drop (suc i) l
unfolding put
set_split l i a h = set_put l i a h ∙ ap (λ k. take i l ++ a ∷ drop k l) (add-one i)

-- which groups can be there ----------------------------------------------------------------------------------------------------------
known_below : (n : ℕ) (ids : List ℕ) → known_ids n ids ≡ true → Below n ids
known_below n ids h = record { below = λ k i. ltb-true (get_or ids k 0) n (every_at (λ i. ltb i n) ids k 0 h i) }

pub ids_below : (n : ℕ) (ids : List ℕ) (b : Bool) → b ≡ known_ids n ids → b ≡ true → n ≤ 64 → Below 64 ids
ids_below n ids b e f h = below_more n 64 ids (known_below n ids (sym e ∙ f)) h

all_known : (l : Layout) (ids : List ℕ) → every (λ i. not (no_variable l i)) (map variable ids) ≡ known_ids (length l.sizes) ids
all_known l [] = refl
all_known l (i ∷ ids) = ap₂ ◌&&◌ (twice (ltb i (length l.sizes))) (all_known l ids)
  where
    twice : (b : Bool) → not (not b) ≡ b
    twice true = refl
    twice false = refl

module _ (t : LearnedTable) (p : ℕ) (ids : List ℕ) where
  abbrev x : Learned
  x = held_table t

  abbrev Puts : Learned → Type 0
  Puts y = y ≡ with_made x (regrouped x p (map variable ids))

  sizes : length x.layout.sizes ≡ t.variables
  sizes = sym (size_count t.variables t.sizes)

  groups : length x.groups ≡ t.groups
  groups = sym (made_count t.groups t.sets)

  -- left out -----------------------------------------------------------------------------------------------------------------------------
  left : (leb (length x.layout.sizes) 64 && leb p (length x.groups) && ltb p 5 && can_group x.layout (map variable ids)) ≡ false → Puts x
  unfolding regrouped
  left h = ap (with_made x) (sym (rw h))

  pub past_next : t.groups < p → Puts x
  past_next h = let k : length x.groups < p = omega (arith, groups) in left (rw (lt-leb p (length x.groups) k, and-false (leb (length x.layout.sizes) 64)))

  pub past_fifth : 5 ≤ p → Puts x
  past_fifth h = left (rw (le-ltb p 5 h, and-false (leb (length x.layout.sizes) 64 && leb p (length x.groups))))

  pub past_variables : 64 < t.variables → Puts x
  past_variables h = left (rw (sizes, lt-leb t.variables 64 h))

  pub no_ids : length ids ≡ 0 → Puts x
  no_ids h = left (rw (length-map ids variable, h, and-false (leb (length x.layout.sizes) 64 && leb p (length x.groups) && ltb p 5)))

  pub unknown_ids : (b : Bool) → b ≡ known_ids t.variables ids → b ≡ false → Puts x
  unknown_ids b e h =
      left (rw (all_known x.layout ids, sizes, sym e ∙ h, and-false (ltb 0 (length (map variable ids))), and-false (leb t.variables 64 && leb p (length x.groups) && ltb p 5)))

  -- taken --------------------------------------------------------------------------------------------------------------------------------
  module _ (s : ℕ) (named : Named ids s) (five : length t.sets ≡ 5) (near : p ≤ t.groups) (few : p < 5) (small : t.variables ≤ 64) (some : length ids ≡ 0 → ⊥) (b : Bool) (e : b ≡ known_ids t.variables ids) (h : b ≡ true) where
    can : can_group x.layout (map variable ids) ≡ true
    can = rw (length-map ids variable, lt-ltb 0 (length ids) (positive (length ids) some), all_known x.layout ids, sizes, sym e ∙ h)
      where
        positive : (k : ℕ) → (k ≡ 0 → ⊥) → 0 < k
        positive k f = omega arith

    the_set : s ≡ set_of x.layout (map variable ids)
    the_set = named.set_is x.layout (rw sizes (known_below t.variables ids (sym e ∙ h)))

    put_there : p < t.groups → Puts (with_made x (groups_of (groups_by t.groups (set t.sets p s))))
    put_there k =
        ap (with_made x)
        (place_set t.sets t.groups p s (omega arith) k ∙ set_split x.groups p s (omega (arith, groups))
        ∙ ap (λ r. take p x.groups ++ r ∷ drop (suc p) x.groups) the_set
        ∙ sym (regrouped_at x p (map variable ids) (omega (arith, sizes)) (omega (arith, groups)) few can))

    put_next : p ≡ t.groups → Puts (with_made x (groups_of (groups_by (t.groups + 1) (set t.sets p s))))
    put_next z =
        let l : length x.groups ≡ p = omega (arith, groups) in
        ap (with_made x)
        (place_next t.sets t.groups p s (omega arith) z ∙ ap (λ r. x.groups ++ r ∷ []) the_set
        ∙ sym (regrouped_last x (map variable ids) (omega (arith, sizes)) (omega arith) can)
        ∙ ap (λ j. regrouped x j (map variable ids)) l)

    pub put_in : (m : ℕ) → m ≡ max t.groups (p + 1) → Puts (with_made x (groups_of (groups_by m (set t.sets p s))))
    put_in m f = by (ℕ_discrete p t.groups)
      where
        by : Dec (p ≡ t.groups) → Puts (with_made x (groups_of (groups_by m (set t.sets p s))))
        by (yes z) = let g : m ≡ t.groups + 1 = omega arith in rw g (put_next z)
        by (no z) = let k : p < t.groups = omega arith in let g : m ≡ t.groups = omega arith in rw g (put_there k)
