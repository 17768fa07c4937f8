-- What either loop of `take` keeps: all are counted, and so many of the first are stored. Assumes nothing.
use Rattle.std.proofs.Common.{◌*◌, length}
use Rattle.records.specs.Lending.{records_by}
use Rattle.columns.proofs.Columns.{FirstStored}
use Rattle.columns.proofs.take.Given as goal

abbrev pub invariant-loop-turn : goal.invariant-loop-turn
invariant-loop-turn l = FirstStored l.variables l.n (records_by (length l.variables) l.fn.records.writable l.fn.records.sizes l.fn.records.kinds) l.records (4 * l.turn)

abbrev pub invariant-loop-i : goal.invariant-loop-i
invariant-loop-i l = FirstStored l.variables l.n (records_by (length l.variables) l.fn.records.writable l.fn.records.sizes l.fn.records.kinds) l.records l.i
