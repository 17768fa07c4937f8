-- The members of a group: ascending, below 64, as many as 01 allows; and the set of a made group's members is the group. Assumes nothing.
use mathlib.Core.Path.{◌≡◌, refl, sym, ap, ◌∙◌}
use mathlib.Core.Bool.{Bool, true, false, cond, ◌&&◌}
use mathlib.Core.List.{List, [], ◌∷◌, map}
use Prim.Native.Nat.{ℕ, zero, suc, ◌+◌, ◌-◌, ◌^◌, ◌≤◌, ◌<◌}
use native.Mathlib.Omega.{arith}
use native.Mathlib.Decide.{ℕ_discrete}
use lib.Dec.{leb, ltb}
use lib.ListN.{length, get_or, length-map}
use borrow.Author.Tests.{eq-eqb, ne_eqb, lt-ltb, ltb-true}
use Rattle.bsmp.specs.Base.{up_from, every, some, only, ascending, has, marks_of}
use Rattle.bsmp.specs.Board.{variable, group, Table, Layout, layout, State, marked, variables, is_same, in_group, members, group_count, set_of, usable, usable_groups}
use Rattle.bsmp.specs.declared.VariableNumber.{VariableNumber}
use Rattle.bsmp.specs.declared.GroupNumber.{GroupNumber}
use Rattle.bsmp.proofs.Bools.{and_true}
use Rattle.bsmp.proofs.Lists.{map_map, every_at}
use Rattle.bsmp.proofs.Usable.{usable_parts}
use Rattle.bsmp.proofs.Room.{group_count_lem, limits}
use Rattle.bsmp.proofs.Wrong.{some_variable}
use Rattle.bsmp.proofs.Group.{chosen, chosen_after}
use Rattle.sets.proofs.Marks.{marks_has}
use Rattle.sets.proofs.Members.{only_same}
use Rattle.asking.specs.Learned.{fits_count}
use Rattle.asking.proofs.Lists.{and_both, in_range_lem, map_numbered}

-- those that pass a test: ascending, and exactly those --------------------------------------------------------------------------
module _ (f : VariableNumber → Bool) where
  abbrev numbered : ℕ → ℕ → List ℕ
  numbered i n = map (λ v. v.0) (chosen f i n)

  ascends_from : (j i n : ℕ) → j < i → ascending (numbered i n) ≡ true → ascending (j ∷ numbered i n) ≡ true
  ascends_from j i zero h a = refl
  ascends_from j i (suc n) h a = by (f (variable i)) a (ascends_from j (suc i) n (omega arith))
    where
      by : (b : Bool) → ascending (map (λ v. v.0) (cond b (variable i ∷ chosen f (suc i) n) (chosen f (suc i) n))) ≡ true
          → (ascending (numbered (suc i) n) ≡ true → ascending (j ∷ numbered (suc i) n) ≡ true)
          → ascending (j ∷ map (λ v. v.0) (cond b (variable i ∷ chosen f (suc i) n) (chosen f (suc i) n))) ≡ true
      by true a r = and_both _ _ (lt-ltb j i h) a
      by false a r = r a

  ascends : (i n : ℕ) → ascending (numbered i n) ≡ true
  ascends i zero = refl
  ascends i (suc n) = by (f (variable i)) (ascends (suc i) n)
    where
      by : (b : Bool) → ascending (numbered (suc i) n) ≡ true
          → ascending (map (λ v. v.0) (cond b (variable i ∷ chosen f (suc i) n) (chosen f (suc i) n))) ≡ true
      by true a = ascends_from i (suc i) n (omega arith) a
      by false a = a

  below : (i n : ℕ) → i + n ≤ 64 → every (λ j. ltb j 64) (numbered i n) ≡ true
  below i zero h = refl
  below i (suc n) h = by (f (variable i)) (below (suc i) n (omega arith))
    where
      by : (b : Bool) → every (λ j. ltb j 64) (numbered (suc i) n) ≡ true
          → every (λ j. ltb j 64) (map (λ v. v.0) (cond b (variable i ∷ chosen f (suc i) n) (chosen f (suc i) n))) ≡ true
      by true k = and_both _ _ (lt-ltb i 64 (omega arith)) k
      by false k = k

  some_chosen : (i n k : ℕ) → i ≤ k → k < i + n → some (is_same (variable k)) (chosen f i n) ≡ f (variable k)
  some_chosen i zero k a b = absurd (omega (arith, a, b))
  some_chosen i (suc n) k a b = by (f (variable i)) refl (ℕ_discrete k i) (λ q. some_chosen (suc i) n k q (omega arith))
    where
      by : (c : Bool) → f (variable i) ≡ c → Dec (k ≡ i) → (suc i ≤ k → some (is_same (variable k)) (chosen f (suc i) n) ≡ f (variable k))
          → some (is_same (variable k)) (cond c (variable i ∷ chosen f (suc i) n) (chosen f (suc i) n)) ≡ f (variable k)
      by true e (yes q) r = rw (eq-eqb k i q) (sym (ap (λ j. f (variable j)) q ∙ e))
      by false e (yes q) r = chosen_after f k (suc i) n (omega arith) ∙ sym (ap (λ j. f (variable j)) q ∙ e)
      by true e (no q) r = rw (ne_eqb k i q) (r (omega arith))
      by false e (no q) r = r (omega arith)

  all_chosen : (i n : ℕ) → ((k : ℕ) → f (variable k) ≡ true) → length (chosen f i n) ≡ n
  all_chosen i zero h = refl
  all_chosen i (suc n) h = rw (h i) (ap suc (all_chosen (suc i) n h))

-- sets --------------------------------------------------------------------------------------------------------------------------
-- the set of a set's members is the set
set_again : (l : Layout) (m : ℕ) → m < 2 ^ length l.sizes → set_of l (only (marked m) (variables l)) ≡ m
unfolding set_of
set_again l m h =
    ap marks_of
    (map_map variable (λ i. some (is_same i) (only (marked m) (variables l))) (up_from 0 (length l.sizes))
    ∙ map_numbered _ (has m) 0 (length l.sizes) (λ k a b. some_chosen (marked m) 0 (length l.sizes) k a b))
    ∙ marks_has (length l.sizes) m h

set_none : (l : Layout) → set_of l [] ≡ 0
unfolding set_of
set_none l = by (variables l)
  where
    by : (vs : List VariableNumber) → marks_of (map (λ i. false) vs) ≡ 0
    by [] = refl
    by (v ∷ vs) = rw (by vs)

-- a made group's members
members_made : (l : Layout) (gs : List ℕ) (g : GroupNumber) → 3 ≤ g.0 → members l gs g ≡ only (marked (get_or gs (g.0 - 3) 0)) (variables l)
unfolding members in_group
members_made l gs g h =
    only_same (in_group l.writable gs g) (marked (get_or gs (g.0 - 3) 0)) 0 (length l.sizes)
    (λ k i. rw (ne_eqb g.0 0 (λ q. absurd (omega arith)), ne_eqb g.0 1 (λ q. absurd (omega arith)), ne_eqb g.0 2 (λ q. absurd (omega arith))))

-- of a board that is usable -----------------------------------------------------------------------------------------------------
module _ (t : Table) (s : State) (h : usable t s ≡ true) where
  abbrev L : Layout
  L = layout t

  abbrev G : List ℕ
  G = s.groups

  sizes_count : length L.sizes ≡ length t.variables
  sizes_count = length-map t.variables (λ v. v.size)

  made_within : (k : ℕ) → k < length G → (0 < get_or G k 0) × (get_or G k 0 < 2 ^ length L.sizes)
  unfolding usable_groups
  made_within k b =
      let w = and_true (leb (length G) 5) _ (usable_parts t s h).groups in
      let e = and_true _ _ (every_at (λ m. ltb 0 m && ltb m (2 ^ length t.variables)) G k 0 w.1 b) in
      (ltb-true _ _ e.0, rw sizes_count (ltb-true _ _ e.1))

  -- a made group is the set of its members
  pub group_again : (g : GroupNumber) → 3 ≤ g.0 → g.0 < group_count G → set_of (layout t) (members (layout t) s.groups g) ≡ get_or s.groups (g.0 - 3) 0
  group_again g a b = ap (set_of L) (members_made L G g a) ∙ set_again L (get_or G (g.0 - 3) 0) (made_within (g.0 - 3) (omega arith)).1

  -- so it is not empty
  pub made_some : (g : GroupNumber) → 3 ≤ g.0 → g.0 < group_count G → 0 < length (members (layout t) s.groups g)
  made_some g a b = by (members L G g) (group_again g a b)
    where
      by : (is : List VariableNumber) → set_of L is ≡ get_or G (g.0 - 3) 0 → 0 < length is
      by [] e = let z : 0 < get_or G (g.0 - 3) 0 = (made_within (g.0 - 3) (omega arith)).0 in absurd (omega (arith, z, e, set_none L))
      by (i ∷ is) e = omega arith

  all_members : length (members L G (group 0)) ≡ length L.sizes
  unfolding members in_group
  all_members = all_chosen (in_group L.writable G (group 0)) 0 (length L.sizes) (λ k. refl)

  pub members_few : (g : GroupNumber) → length (members (layout t) s.groups g) ≤ 64
  members_few g = omega (arith, group_count_lem L G g, sizes_count, limits t s h)

  pub members_limited : (g : GroupNumber)
      → (ascending (map (λ i. i.0) (members (layout t) s.groups g)) && every (λ i. ltb i 64) (map (λ i. i.0) (members (layout t) s.groups g))) ≡ true
  unfolding members
  members_limited g =
      let n : length L.sizes ≤ 64 = omega (arith, sizes_count, limits t s h) in
      and_both _ _ (ascends (in_group L.writable G g) 0 (length L.sizes)) (below (in_group L.writable G g) 0 (length L.sizes) (omega arith))

  -- and each group has as many as 01 allows: only 1 and 2 may be empty
  pub count_fits : (n : ℕ) → n < group_count G → fits_count (group n) (length (members (layout t) s.groups (group n))) ≡ true
  count_fits zero b = in_range_lem 1 64 _ (omega (arith, all_members, sizes_count, some_variable t s h)) (members_few (group 0))
  count_fits (suc zero) b = in_range_lem 0 64 _ (omega arith) (members_few (group 1))
  count_fits (suc (suc zero)) b = in_range_lem 0 64 _ (omega arith) (members_few (group 2))
  count_fits (suc (suc (suc n))) b =
      let g : ℕ = suc (suc (suc n)) in
      rw (ne_eqb g 1 (λ q. absurd (omega arith)), ne_eqb g 2 (λ q. absurd (omega arith))) (in_range_lem 1 64 _ (made_some (group g) (omega arith) b) (members_few (group g)))
