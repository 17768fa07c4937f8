-- A group's set and its members, as the code finds them and as the board's definition has them. Assumes nothing.
use mathlib.Core.Path.{◌≡◌, sym, ap, ◌∙◌}
use mathlib.Core.Bool.{Bool, true, false, cond}
use mathlib.Core.List.{List, map}
use Prim.Native.Nat.{ℕ, ◌+◌, ◌-◌, ◌%◌, ◌^◌, ◌≤◌, ◌<◌}
use native.Mathlib.Omega.{arith}
use lib.Dec.{eqb}
use borrow.Author.Tests.{ne_eqb}
use lib.ListN.{length, get_or}
use Rattle.bsmp.specs.Base.{up_from, only, cut}
use Rattle.bsmp.specs.Board.{Layout, variable, size_of, marked, in_group, members, group_bytes}
use Rattle.bsmp.specs.Message.{edited}
use Rattle.bsmp.specs.declared.Operation.{Operation}
use Rattle.bsmp.specs.declared.GroupNumber.{GroupNumber}
use Rattle.sets.specs.Members.{members_below, members_of, size_at, set_bytes, group_set}
use Rattle.sets.specs.Promises.{GroupSet}
use Rattle.sets.proofs.Marks.{has_not, has_all}
use Rattle.sets.proofs.Members.{only_same}
use Rattle.sets.proofs.AtOnce.{below_declared}

group_is : (w : ℕ) (gs : List ℕ) (g : GroupNumber) (x : ℕ) → x ≡ group_set w gs g → ((k : ℕ) → k < 64 → in_group w gs g (variable k) ≡ marked x (variable k)) → GroupSet w gs g x
unfolding members members_below
group_is w gs g x e h = record {
  is = e;
  members_are = λ l q few. ap (λ (y : ℕ). only (in_group y gs g) (map variable (up_from 0 (length l.sizes)))) q
      ∙ only_same (in_group w gs g) (marked x) 0 (length l.sizes) (λ k i. h k (omega (arith, i)));
}

-- the set, as the code finds it
module _ (w : ℕ) (gs : List ℕ) (g : GroupNumber) where
  pub set_all : g.0 ≡ 0 → GroupSet w gs g (2 ^ 64 - 1)
  unfolding in_group group_set
  set_all e = group_is w gs g (2 ^ 64 - 1) (rw e) (λ k h. rw e (sym (has_all k h)))

  pub set_read_only : g.0 ≡ 1 → w < 2 ^ 64 → GroupSet w gs g (2 ^ 64 - 1 - w)
  unfolding in_group group_set
  set_read_only e l = group_is w gs g (2 ^ 64 - 1 - w) (rw e) (λ k h. rw e (sym (has_not 64 w k l h)))

  pub set_writable : g.0 ≡ 2 → GroupSet w gs g w
  unfolding in_group group_set
  set_writable e = group_is w gs g w (rw e) (λ k h. rw e)

  pub set_made : (g.0 ≡ 0 → ⊥) → (g.0 ≡ 1 → ⊥) → (g.0 ≡ 2 → ⊥) → GroupSet w gs g (get_or gs (g.0 - 3) 0)
  unfolding in_group group_set
  set_made z o t =
      let a : eqb g.0 0 ≡ false = ne_eqb g.0 0 z in
      let b : eqb g.0 1 ≡ false = ne_eqb g.0 1 o in
      let c : eqb g.0 2 ≡ false = ne_eqb g.0 2 t in
      group_is w gs g (get_or gs (g.0 - 3) 0) (rw (a, b, c)) (λ k h. rw (a, b, c))

-- a group that is neither 1 nor 2 is writable as its members are
pub writable_made : (n : ℕ) (a b : Bool) → (n ≡ 1 → ⊥) → (n ≡ 2 → ⊥) → a ≡ b → a ≡ cond (eqb n 1) false (cond (eqb n 2) true b)
writable_made n a b o t e = rw (ne_eqb n 1 o, ne_eqb n 2 t) e

-- what callers have of a group's set, on a board with these sizes and writable variables
module _ (l : Layout) (gs : List ℕ) (g : GroupNumber) (ns : List ℕ) (w set : ℕ) (e : l.sizes ≡ ns) (f : l.writable ≡ w) (few : length ns ≤ 64) (h : GroupSet w gs g set) where
  pub group_members_lem : members l gs g ≡ members_of set ns
  group_members_lem = h.members_are l f (rw e few) ∙ ap (members_of set) e

  pub group_fits : set_bytes set ns ≡ group_bytes l gs g
  unfolding set_bytes group_bytes
  group_fits = rw (group_members_lem, e)

  -- the marks of declared variables alone are its members'
  pub group_marks : members_below (set % 2 ^ length ns) 64 ≡ members l gs g
  group_marks = below_declared set (length ns) 64 few ∙ sym group_members_lem

  -- a payload that is long enough for a change, and what was changed, read or listed
  pub group_room : (k n : ℕ) → k ≡ n + group_bytes l gs g → n + set_bytes set ns ≤ k
  group_room k n d = omega (arith, group_fits)

  pub group_edit : (op : Operation) (p : List ℕ) (vs x : List (List ℕ)) → x ≡ edited op (members_of set ns) (cut (map (size_at ns) (members_of set ns)) p) vs
      → x ≡ edited op (members l gs g) (cut (map (size_of l) (members l gs g)) p) vs
  group_edit op p vs x q = rw (group_members_lem, e) q
