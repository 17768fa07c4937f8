-- What the set of a group tells of the group. Assumes nothing.
use mathlib.Core.Path.{◌≡◌, refl, sym, ap, ◌∙◌}
use mathlib.Core.Bool.{not}
use mathlib.Core.List.{List, [], ◌++◌, append-nil}
use Prim.Native.Nat.{ℕ, ◌%◌, ◌^◌, ◌≤◌}
use lib.Dec.{leb, ltb}
use lib.ListN.{length}
use borrow.Author.Tests.{ltb-false, leb-true, le-ltb, le-leb, not-true}
use Rattle.bsmp.specs.Base.{some}
use Rattle.bsmp.specs.Board.{marked, members, group_bytes}
use Rattle.bsmp.specs.declared.GroupNumber.{GroupNumber}
use Rattle.bsmp.proofs.Bools.{bool_eq}
use Rattle.parts.specs.Parts.{variables_only}
use Rattle.sets.specs.Promises.{GroupSet}
use Rattle.sets.specs.Members.{members_below, set_bytes}
use Rattle.sets.proofs.Group.{group_fits, group_marks}

pub leb_not : (a b : ℕ) → leb a b ≡ not (ltb b a)
leb_not a b = bool_eq _ _ (λ e. rw (le-ltb b a (leb-true a b e))) (λ e. le-leb a b (ltb-false b a (not-true _ e)))

-- what the set of a group tells: its members' bytes, and that the marks of declared variables are theirs
module _ (ns : List ℕ) (w : ℕ) (gs : List ℕ) (g : GroupNumber) (set : ℕ) (few : length ns ≤ 64) (q : GroupSet w gs g set) where
  pub bytes_are : set_bytes set ns ≡ group_bytes (variables_only ns w) gs g
  bytes_are = group_fits (variables_only ns w) gs g ns w set refl refl few q

  pub marks_are : (marks : ℕ) → marks ≡ set % 2 ^ length ns → members_below marks 64 ≡ members (variables_only ns w) gs g
  marks_are marks d = ap (λ (m : ℕ). members_below m 64) d ∙ group_marks (variables_only ns w) gs g ns w set refl refl few q

  -- whether one of them is busy, in a command that reads them and writes none
  pub read_are : (busy marks : ℕ) → marks ≡ set % 2 ^ length ns → some (marked busy) (members (variables_only ns w) gs g ++ []) ≡ some (marked busy) (members_below marks 64)
  read_are busy marks d = ap (some (marked busy)) (append-nil (members (variables_only ns w) gs g) ∙ sym (marks_are marks d))
