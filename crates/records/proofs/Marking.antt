-- The marks of types have room in 64 bits. Assumes nothing.
use mathlib.Core.Path.{◌≡◌}
use mathlib.Core.Bool.{true}
use mathlib.Core.List.{List, map}
use Prim.Native.Nat.{ℕ, ◌+◌, ◌-◌, ◌*◌, ◌^◌, ◌≤◌, ◌<◌}
use native.Mathlib.Omega.{arith}
use native.Mathlib.Numerals.{add-one}
use native.Mathlib.Nat.{pow-le-pow_right, two-pow-succ}
use lib.Dec.{lit<}
use lib.ListN.{length, drop, get_or, length-map, length-drop}
use mir.Syntax.{w64}
use mir.Val.{Fits}
use borrow.Author.Tests.{leb-true}
use Rattle.bsmp.specs.Base.{every}
use Rattle.bsmp.specs.Board.{is_type, is_writable}
use Rattle.records.specs.Lending.{writable_marks}
use Rattle.bsmp.proofs.Lists.{every_at}
use Rattle.bsmp.proofs.Marks.{marks_below}

-- at the type before i, with the marks m of the types from i on
module _ (ws : List ℕ) (m i : ℕ) (few : length ws ≤ 64) (types : every is_type ws ≡ true) (h : 0 < i) (inside : i ≤ length ws) (q : m ≡ writable_marks (drop i ws)) where
  small : m + m + 2 ≤ 2 ^ 64
  small =
      let l : length (map is_writable (drop i ws)) + 1 ≤ 64 = rw (length-map, length-drop) (omega (arith, inside)) in
      let b = marks_below (map is_writable (drop i ws)) in
      let p : 2 ^ (length (map is_writable (drop i ws)) + 1) ≤ 2 ^ 64 = pow-le-pow_right (lit< tt) l in
      omega (arith, q, b, rw (add-one, two-pow-succ) at p)

  pub twice_fits : Fits w64 (2 * m)
  twice_fits = record { fits = omega (arith, small) }

  type : get_or ws (i - 1) 0 ≤ 1
  type = leb-true _ 1 (every_at is_type ws (i - 1) 0 types (omega arith))

  pub marks_fit : Fits w64 (2 * m + get_or ws (i - 1) 0)
  marks_fit = record { fits = omega (arith, small, type) }
