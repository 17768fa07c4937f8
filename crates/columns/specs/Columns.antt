-- A lent slice of variable records, taken into columns: 64 at most are stored, all are counted. Assumes nothing.
use Rattle.std.specs.Prelude.{List, ℕ, zero, suc, min, length, get_or, set, replicate}
use Rattle.bsmp.specs.declared.Variable.{Variable}
use Rattle.records.specs.declared.Records.{Records}
use Rattle.records.specs.Lending.{records_by}

-- the i-th record; past the end it is blank
abbrev pub blank_variable : Variable
blank_variable = record { writable = 0; size = 0; kind = 0 }

abbrev pub variable_at : List Variable → ℕ → Variable
variable_at vs i = get_or vs i blank_variable

-- one record more, at i
abbrev pub with_record : Records → ℕ → Variable → Records
with_record r i v = record { count = r.count; writable = set r.writable i v.writable; sizes = set r.sizes i v.size; kinds = set r.kinds i v.kind }

-- the first k stored, over what stood there
unfoldable pub columns_to : Records → List Variable → ℕ → Records
columns_to r vs zero = r
columns_to r vs (suc k) = with_record (columns_to r vs k) k (variable_at vs k)

-- all counted, and as many stored as the columns have places for
abbrev pub taken_into : Records → List Variable → Records
taken_into r vs = columns_to (records_by (length vs) r.writable r.sizes r.kinds) vs (min (length vs) 64)

-- .. over columns of zeros
abbrev pub zeros : List ℕ
zeros = replicate 64 0

abbrev pub columns_of : List Variable → Records
columns_of vs = taken_into (records_by 0 zeros zeros zeros) vs
