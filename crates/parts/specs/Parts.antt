-- What the commands' contracts share: the part of a layout that a sort of command looks at, a pass, an answer. Assumes nothing.
use Rattle.std.specs.Prelude.{◌≡◌, List, [], ℕ, ◌≤◌, length}
use Rattle.bsmp.specs.Board.{Layout}
use Rattle.bsmp.specs.Message.{check}
use Rattle.bsmp.specs.declared.Curve.{Curve}
use Rattle.bsmp.specs.declared.Function.{Function}
use Rattle.bsmp.specs.declared.Command.{Command}
use Rattle.bsmp.specs.Codes.{Pass}
use Rattle.copies.specs.Put.{put}

-- a layout, column by column
abbrev pub layout_of : (sizes : List ℕ) → (writable : ℕ) → List Curve → List Function → Layout
layout_of ns w cs fs = record { sizes = ns; writable = w; curves = cs; functions = fs }

-- commands of variables and groups look at the first two columns, commands of curves and of functions at one
abbrev pub variables_only : (sizes : List ℕ) → (writable : ℕ) → Layout
variables_only ns w = layout_of ns w [] []

abbrev pub curves_only : List Curve → Layout
curves_only cs = layout_of [] 0 cs []

abbrev pub functions_only : List Function → Layout
functions_only fs = layout_of [] 0 [] fs

-- the command's tests pass under some busy marks
pub record Passed (l : Layout) (gs p : List ℕ) (k : Command) : Type 0 where
  pub marks : ℕ
  pub passes : check l gs marks p k ≡ Pass

-- the payload v of an answer, of n bytes, written into the reply r from `at` on
pub record PayloadAt (r : List ℕ) (at : ℕ) (v : List ℕ) (n : ℕ) (r' : List ℕ) : Type 0 where
  pub count : n ≡ length v
  pub written : r' ≡ put r at v
  pub short : n ≤ 4099
