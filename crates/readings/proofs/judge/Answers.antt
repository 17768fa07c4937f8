-- The variable that `judge` reads has a place. Assumes nothing.
use mathlib.Core.Path.{◌≡◌}
use Rattle.std.specs.Option.{is_none}
use Rattle.readings.proofs.Tests.{place_within}
use borrow.Author.Rules.{rules}
use Rattle.readings.proofs.judge.Goals as goal

pub at-v-requires : goal.at-v-requires
at-v-requires c =
    let d : c.is_none.result ≡ is_none c.usable_records.result = search rules in
    place_within c.args.records.now c.args.variable c.args.signed c.args.bytes _ _ c.usable_records.ensures d c.if-is_none.false c.if-records-at.false
