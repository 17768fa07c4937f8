-- What a pass of each command of groups says, on any layout with these sizes and writable variables. Assumes nothing.
use mathlib.Core.Path.{◌≡◌}
use mathlib.Core.Bool.{false}
use mathlib.Core.List.{List, map}
use Prim.Native.Nat.{ℕ, ◌+◌, ◌≤◌, ◌<◌}
use native.Mathlib.Omega.{arith}
use lib.ListN.{length}
use borrow.Author.Tests.{ltb-true, ltb-false, eqb-true, not-false}
use Rattle.bsmp.specs.Board.{Layout, variable, members, group_bytes, set_of}
use Rattle.bsmp.specs.Message.{line, tests_of, writes_group, size≠, size<, no_group, group_id_at}
use Rattle.bsmp.specs.declared.Curve.{Curve}
use Rattle.bsmp.specs.declared.Function.{Function}
use Rattle.bsmp.specs.declared.Command.{Command}
use Rattle.bsmp.specs.declared.Command.TheVariants.{ShowGroup, ReadGroup, WriteGroup, MaskGroup, MakeGroup}
use Rattle.bsmp.proofs.Chain.{broken_at, clear_at}
use Rattle.parts.specs.Parts.{layout_of, variables_only, Passed}
use Rattle.parts.proofs.Passed.{passed_clear}
use Rattle.sets.specs.Promises.{Below, Named}
use Rattle.sets.proofs.Ids.{known_below, below_more, set_told}
use Rattle.groups.specs.Promises.{GroupKnown, GroupFits}

-- test n of the command is not broken
passes : (l : Layout) (gs p : List ℕ) (k : Command) (h : Passed l gs p k) (n : ℕ) → broken_at (tests_of (line l gs p k) h.marks) n ≡ false
passes l gs p k h n = clear_at (tests_of (line l gs p k) h.marks) (passed_clear l gs p k h) n

known : (gs p : List ℕ) → size≠ p 1 ≡ false → no_group gs (group_id_at p 0) ≡ false → GroupKnown gs p
known gs p a b =
    let e : length p ≡ 1 = eqb-true _ _ (not-false _ a) in
    record { some = omega arith; known = ltb-true _ _ (not-false _ b) }

fits : (l : Layout) (gs p : List ℕ) (n : ℕ) → 0 < n → size< p n ≡ false → no_group gs (group_id_at p 0) ≡ false → size≠ p (n + group_bytes l gs (group_id_at p 0)) ≡ false
    → GroupFits l gs p n
fits l gs p n z a b c =
    let f : n ≤ length p = ltb-false _ _ a in
    record { some = omega arith; front = f; known = ltb-true _ _ (not-false _ b); whole = eqb-true _ _ (not-false _ c) }

module _ (ns : List ℕ) (w : ℕ) (cs : List Curve) (fs : List Function) (gs p : List ℕ) where
  abbrev Passes : Command → Type 0
  Passes = Passed (layout_of ns w cs fs) gs p

  pub show_known : Passes ShowGroup → GroupKnown gs p
  unfolding line
  show_known h = known gs p (passes _ gs p ShowGroup h 0) (passes _ gs p ShowGroup h 1)

  pub read_known : Passes ReadGroup → GroupKnown gs p
  unfolding line
  read_known h = known gs p (passes _ gs p ReadGroup h 0) (passes _ gs p ReadGroup h 1)

  pub write_fits : Passes WriteGroup → GroupFits (variables_only ns w) gs p 1
  unfolding line writes_group group_bytes members
  write_fits h =
      fits (variables_only ns w) gs p 1 (omega arith) (passes _ gs p WriteGroup h 0) (passes _ gs p WriteGroup h 1) (passes _ gs p WriteGroup h 2)

  pub mask_fits : Passes MaskGroup → GroupFits (variables_only ns w) gs p 2
  unfolding line writes_group group_bytes members
  mask_fits h =
      fits (variables_only ns w) gs p 2 (omega arith) (passes _ gs p MaskGroup h 0) (passes _ gs p MaskGroup h 1) (passes _ gs p MaskGroup h 3)

  -- the operation's byte
  pub mask_some : Passes MaskGroup → 1 < length p
  mask_some h = (mask_fits h).front

  -- every ID is a variable's, and a place is left
  pub make_known : Passes MakeGroup → Below (length ns) p
  unfolding line
  make_known h = known_below (length ns) p (passes _ gs p MakeGroup h 1)

  -- so `sets::set_of` may be asked for the new group's set, and answers it
  pub make_below : Passes MakeGroup → length ns ≤ 64 → Below 64 p
  make_below h k = below_more (length ns) 64 p (make_known h) k

  pub make_set : (set : ℕ) → Passes MakeGroup → Named p set → set ≡ set_of (layout_of ns w cs fs) (map variable p)
  make_set set h n = set_told (layout_of ns w cs fs) p set n (make_known h)
