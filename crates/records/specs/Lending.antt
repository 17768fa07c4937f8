-- What a board lends, read as the definition's lists and table: for every number of records, usable or not. Assumes nothing.
use Rattle.std.specs.Prelude.{cond, List, map, ℕ, ◌+◌, ◌*◌, ◌/◌, ltb, length, get_or, slice_set}
use Rattle.bsmp.specs.Base.{sum, up_from, marks_of}
use Rattle.bsmp.specs.Board.{Table, is_writable, blank_curve}
use Rattle.bsmp.specs.Store.{Lent}
use Rattle.bsmp.specs.declared.Variable.{Variable}
use Rattle.bsmp.specs.declared.Curve.{Curve}
use Rattle.bsmp.specs.declared.Function.{Function}
use Rattle.records.specs.declared.Records.{Records}
use Rattle.records.specs.declared.Groups.{Groups}
use Rattle.records.specs.declared.Board.{Board}
use Rattle.records.specs.declared.Start.{Start}

-- n things, numbered from 0
abbrev pub numbered : {A : Type 0} → (ℕ → A) → ℕ → List A
numbered f n = map f (up_from 0 n)

-- variable records, by their columns
abbrev pub records_by : (count : ℕ) → (writable sizes kinds : List ℕ) → Records
records_by n ws ss ks = record { count = n; writable = ws; sizes = ss; kinds = ks }

abbrev pub record_at : Records → ℕ → Variable
record_at r i = record { writable = get_or r.writable i 0; size = get_or r.sizes i 0; kind = get_or r.kinds i 0 }

unfoldable pub records_of : Records → List Variable
records_of r = numbered (record_at r) r.count

-- the writable variables as marks, by their types
abbrev pub writable_marks : List ℕ → ℕ
writable_marks ws = marks_of (map is_writable ws)

-- three numbers for a curve: type, block size, blocks; one or two left over are one more record, which breaks the rules
abbrev pub curve_at : List ℕ → ℕ → Curve
curve_at ns c =
    cond (ltb c (length ns / 3))
    (record { writable = get_or ns (3 * c) 0; size = get_or ns (3 * c + 1) 0; blocks = get_or ns (3 * c + 2) 0 })
    blank_curve

unfoldable pub curves_of : List ℕ → List Curve
curves_of ns = numbered (curve_at ns) ((length ns + 2) / 3)

-- the bytes of all blocks of these curves
abbrev pub curve_bytes : List Curve → ℕ
curve_bytes cs = sum (map (λ c. c.size * c.blocks) cs)

-- and how many they are
abbrev pub curve_blocks : List Curve → ℕ
curve_blocks cs = sum (map (λ c. c.blocks) cs)

abbrev pub start_of : List Curve → Start
start_of cs = record { blocks = curve_blocks cs; bytes = curve_bytes cs }

-- two numbers for a function: input, output; one left over is one more record, which breaks the rules
abbrev pub function_at : List ℕ → ℕ → Function
function_at ns f =
    cond (ltb f (length ns / 2))
    (record { input = get_or ns (2 * f) 0; output = get_or ns (2 * f + 1) 0 })
    (record { input = 16; output = 0 })

unfoldable pub functions_of : List ℕ → List Function
functions_of ns = numbered (function_at ns) ((length ns + 1) / 2)

-- a group table, by its count and its places
abbrev pub groups_by : (count : ℕ) → (sets : List ℕ) → Groups
groups_by n gs = record { count = n; sets = gs }

-- the made groups, each as marks; more than there are places for count as empty sets, which break the rules
unfoldable pub groups_of : Groups → List ℕ
groups_of g = numbered (λ i. get_or g.sets i 0) g.count

-- a table with one group more, at the first place behind the others; and one with none, whose places keep what they held
abbrev pub with_group : Groups → (members : ℕ) → Groups
with_group g m = groups_by (g.count + 1) (slice_set g.sets g.count m)

abbrev pub without_groups : Groups → Groups
without_groups g = groups_by 0 g.sets

abbrev pub table_of : Records → (curves functions : List ℕ) → Table
table_of r cs fs = record { variables = records_of r; curves = curves_of cs; functions = functions_of fs }

abbrev pub lent : (values blocks lengths sums groups : List ℕ) → Lent
lent vs bs ns ds gs = record { values = vs; blocks = bs; lengths = ns; sums = ds; groups = gs }

-- the table and the lent parts of a whole board
abbrev pub table_lent : Board → Table
table_lent b = table_of b.records.now b.curves.now b.functions.now

abbrev pub board_lent : Board → Lent
board_lent b = lent b.values.now b.blocks.now b.lengths.now b.sums.now (groups_of b.groups.now)

-- what is lent, with one of its parts as a call leaves it
abbrev pub lent_values : Lent → List ℕ → Lent
lent_values x vs = lent vs x.blocks x.lengths x.sums x.groups

abbrev pub lent_blocks : Lent → (blocks lengths : List ℕ) → Lent
lent_blocks x bs ns = lent x.values bs ns x.sums x.groups

abbrev pub lent_sums : Lent → List ℕ → Lent
lent_sums x ds = lent x.values x.blocks x.lengths ds x.groups

abbrev pub lent_groups : Lent → List ℕ → Lent
lent_groups x gs = lent x.values x.blocks x.lengths x.sums gs
