-- What the contracts of a message's work lean on: the layout and the stores that are lent, and a sound board. Assumes nothing.
use Rattle.std.specs.Prelude.{◌≡◌, true, List, ℕ, ◌≤◌, length}
use Rattle.bsmp.specs.Base.{every}
use Rattle.bsmp.specs.Board.{Layout, usable_size, usable_functions}
use Rattle.bsmp.specs.Store.{Lent}
use Rattle.sets.specs.Promises.{Sound}
use Rattle.parts.specs.Parts.{layout_of}
use Rattle.records.specs.Lending.{curves_of, functions_of, lent}
use Rattle.curves.specs.Fits.{SoundCurves, SoundLengths, SoundSums}
use Rattle.judging.specs.declared.Layout as code
use Rattle.judging.specs.declared.Stores.{Stores}

-- the layout of what is lent: sizes, writable marks, and the flat numbers of curves and functions
abbrev pub lent_layout : (sizes : List ℕ) → (writable : ℕ) → (curves functions : List ℕ) → Layout
lent_layout ns w cs fs = layout_of ns w (curves_of cs) (functions_of fs)

-- the same of the code's Layout, whose columns are lent
abbrev pub layout_in : code.Layout → Layout
layout_in l = lent_layout l.sizes.now l.writable l.curves.now l.functions.now

-- what is lent: the code's Stores, as their slices stand, and the made groups
abbrev pub lent_in : Stores → (groups : List ℕ) → Lent
lent_in s gs = lent s.values.now s.blocks.now s.lengths.now s.sums.now gs

-- s' has the references of s, so that what is written through them is the lender's, and as many bytes and numbers behind each
pub record SameStores (s s' : Stores) : Type 0 where
  pub values : s'.values.ghost_name ≡ s.values.ghost_name
  pub blocks : s'.blocks.ghost_name ≡ s.blocks.ghost_name
  pub lengths : s'.lengths.ghost_name ≡ s.lengths.ghost_name
  pub sums : s'.sums.ghost_name ≡ s.sums.ghost_name
  pub values_long : length s'.values.now ≡ length s.values.now
  pub blocks_long : length s'.blocks.now ≡ length s.blocks.now
  pub lengths_long : length s'.lengths.now ≡ length s.lengths.now
  pub sums_long : length s'.sums.now ≡ length s.sums.now

-- a usable board, as far as the work of a message leans on it
pub record SoundBoard (l : Layout) (x : Lent) : Type 0 where
  pub variables : Sound l.sizes x.values
  pub sizes : every usable_size l.sizes ≡ true
  pub curves : SoundCurves l.curves x.blocks
  pub lengths : SoundLengths l.curves x.lengths
  pub sums : SoundSums l.curves x.sums
  pub functions : usable_functions l.functions ≡ true
  pub groups : length x.groups ≤ 5
