-- What a call of each entry comes to that takes a learned table in its struct: the right sides of the promises. Assumes nothing.
use Rattle.std.specs.Prelude.{Bool, List, ℕ, ℤ}
use Rattle.asking.specs.Learning.{records_for}
use Rattle.learned.specs.Table.{held_table}
use Rattle.learned.specs.declared.LearnedTable.{LearnedTable}
use Rattle.endings.specs.Numbers.{PlainReading}
use Rattle.plain.specs.Calls.{PlainBytesLeft, reading_of, writing_of}
use Rattle.gateway.specs.Plain.{named_of, PlainHeardLeft, hear_of}
use Rattle.gateway_values.specs.Values.{place_of}
use Rattle.gateway_values.specs.declared.PlainPlace.{PlainPlace}

abbrev pub hear_call : LearnedTable → (destination code operation number other block : ℕ) → (bytes reply : List ℕ) → PlainHeardLeft
hear_call t to c o n m k d q = hear_of (held_table t) to (named_of c o n m k) d q

abbrev pub place_call : LearnedTable → (group variable : ℕ) → PlainPlace
place_call t g i = place_of (held_table t) g i

abbrev pub read_call : LearnedTable → (kinds : List ℕ) → (variable : ℕ) → (signed : Bool) → (bytes : List ℕ) → PlainReading
read_call t ks i signed b = reading_of (records_for (held_table t) ks) i signed b

abbrev pub write_call : LearnedTable → (kinds : List ℕ) → (variable : ℕ) → (signed : Bool) → ℤ → (buffer : List ℕ) → PlainBytesLeft
write_call t ks i signed z b = writing_of (records_for (held_table t) ks) i signed z b
