-- `usable_records` meets its contract. Assumes nothing.
use Rattle.rules.proofs.Checks.{variables_broken}
use Rattle.rules.proofs.Counting.{count_refused, counted_stop, counted_next, counted_end}
use Rattle.rules.proofs.Totals.{none_of}
use borrow.Author.Rules.{rules}
use Rattle.rules.proofs.usable_records.Goals as goal

pub returns-then-records-lt1 : goal.returns-then-records-lt1
returns-then-records-lt1 c = search (none_of, count_refused, rules)

pub returns-then-not-usable_variable : goal.returns-then-not-usable_variable
returns-then-not-usable_variable c = search (none_of, variables_broken, counted_stop, rules)

pub loop-i-preserved : goal.loop-i-preserved
loop-i-preserved c = search (counted_next, rules)

pub returns : goal.returns
returns c = search (counted_end, rules)
