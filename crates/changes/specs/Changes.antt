-- What a change leaves of what is lent, against the definition. Assumes nothing.
use Rattle.std.specs.Prelude.{◌≡◌, true, List, [], ◌∷◌, ◌++◌, ℕ, ◌<◌, length}
use Rattle.bsmp.specs.Board.{Layout, State, block_sizes, fitting}
use Rattle.bsmp.specs.Message.{Change, after}
use Rattle.bsmp.specs.Store.{Lent, held}
use Rattle.records.specs.Lending.{lent_groups}
use Rattle.changes.specs.declared.Regroup.{Regroup}
use Rattle.changes.specs.declared.Regroup.TheVariants.{Keep, Make, Remove}

-- the made groups after a message
abbrev pub regrouped : Regroup → List ℕ → List ℕ
regrouped Keep gs = gs
regrouped (Make m) gs = gs ++ m ∷ []
regrouped Remove gs = []

-- their removal, where there are any
abbrev pub removal : List ℕ → Regroup
removal [] = Keep
removal (g ∷ gs) = Remove

-- what is lent, with its made groups as a message leaves them
abbrev pub with_regroup : Regroup → Lent → Lent
with_regroup r y = lent_groups y (regrouped r y.groups)

-- y is left of what was lent, and r becomes of its made groups: regrouped, it holds s. They are removed only where there are some, so that
-- what becomes of them is said in one way
pub record LeftAs (l : Layout) (s : State) (r : Regroup) (y : Lent) : Type 0 where
  pub holds : held l (with_regroup r y) ≡ s
  pub some_removed : r ≡ Remove → 0 < length y.groups

-- a change of x, as the definition gives it; and each block's length still fits
pub record ChangedBy (l : Layout) (x : Lent) (ch : Change) (r : Regroup) (y : Lent) : Type 0 where
  pub leaves : LeftAs l (after ch (held l x)) r y
  pub fit : fitting (block_sizes l.curves) y.lengths ≡ true
