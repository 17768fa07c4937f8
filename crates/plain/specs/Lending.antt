-- All that is lent to a call on a whole board, and what the definition sees in it. Assumes nothing.
use Rattle.std.specs.Prelude.{List, ℕ}
use Rattle.bsmp.specs.Board.{Table, layout, State}
use Rattle.bsmp.specs.Store.{Lent, held}
use Rattle.bsmp.specs.declared.Variable.{Variable}
use Rattle.records.specs.Lending.{records_of, curves_of, functions_of, groups_of, lent}
use Rattle.records.specs.declared.Board.{Board}
use Rattle.records.specs.declared.Groups.{Groups}

-- the variable records themselves, however many; curves and functions as flat numbers; the group table, both stores, the lengths and the sums
pub record Lending : Type 0 where
  pub variables : List Variable
  pub curves : List ℕ
  pub functions : List ℕ
  pub groups : Groups
  pub values : List ℕ
  pub blocks : List ℕ
  pub lengths : List ℕ
  pub sums : List ℕ

abbrev pub lending : List Variable → (curves functions : List ℕ) → Groups → (values blocks lengths sums : List ℕ) → Lending
lending vs cs fs g values blocks lengths sums =
    record { variables = vs; curves = cs; functions = fs; groups = g; values = values; blocks = blocks; lengths = lengths; sums = sums }

-- .. of a whole board
abbrev pub lending_of : Board → Lending
lending_of b = lending (records_of b.records.now) b.curves.now b.functions.now b.groups.now b.values.now b.blocks.now b.lengths.now b.sums.now

abbrev pub table_in : Lending → Table
table_in x = record { variables = x.variables; curves = curves_of x.curves; functions = functions_of x.functions }

abbrev pub lent_in : Lending → Lent
lent_in x = lent x.values x.blocks x.lengths x.sums (groups_of x.groups)

abbrev pub held_in : Lending → State
held_in x = held (layout (table_in x)) (lent_in x)
