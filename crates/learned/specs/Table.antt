-- The learned table as the gateway keeps it, read as the definition's: for every count and every number in it. Assumes nothing.
use Rattle.std.specs.Prelude.{Bool, ◌&&◌, List, ℕ, leb, get_or}
use Rattle.bsmp.specs.declared.Curve.{Curve}
use Rattle.bsmp.specs.declared.Function.{Function}
use Rattle.records.specs.Lending.{numbered, curve_at, function_at, groups_by, groups_of, curves_of, functions_of}
use Rattle.asking.specs.Learned.{Learned}
use Rattle.learned.specs.declared.Known.{Known}
use Rattle.learned.specs.declared.LearnedTable.{LearnedTable}

-- so many sizes, curves and functions; more than there are places for break the rules
unfoldable pub sizes_in : (count : ℕ) → List ℕ → List ℕ
sizes_in n ss = numbered (λ i. get_or ss i 0) n

unfoldable pub curves_in : (count : ℕ) → List ℕ → List Curve
curves_in n ns = numbered (curve_at ns) n

unfoldable pub functions_in : (count : ℕ) → List ℕ → List Function
functions_in n ns = numbered (function_at ns) n

-- no more of each than there are places
unfoldable pub has_places : LearnedTable → Bool
has_places t = leb t.variables 64 && leb t.groups 5 && leb t.curves 8 && leb t.functions 16

-- a table that is lent by the fronts of its places
abbrev pub table_in : (sizes : List ℕ) → (writable : ℕ) → (groups curves functions : List ℕ) → Learned
table_in ss w gs cs fs = record { layout = record { sizes = ss; writable = w; curves = curves_of cs; functions = functions_of fs }; groups = gs }

abbrev pub known_table : Known → Learned
known_table k = table_in k.sizes.now k.writable k.sets.now k.shapes.now k.calls.now

-- the table in one struct, by its fields, and what it holds
abbrev pub learned_by : (variables writable groups curves functions : ℕ) → (sets shapes sizes calls : List ℕ) → LearnedTable
learned_by v w g c f gs cs ss fs = record { variables = v; writable = w; groups = g; curves = c; functions = f; sets = gs; shapes = cs; sizes = ss; calls = fs }

abbrev pub held_table : LearnedTable → Learned
held_table t = record {
  layout = record { sizes = sizes_in t.variables t.sizes; writable = t.writable; curves = curves_in t.curves t.shapes; functions = functions_in t.functions t.calls };
  groups = groups_of (groups_by t.groups t.sets);
}
